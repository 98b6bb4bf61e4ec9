-- The balances over a list of calls: demand 3 of document 01, "The plant record and its five calls", and document 02, E1 (a recycle is
-- neither received nor released), E3 (a preview counts for nothing), E6 (a sheet counts by its counts), E7 (the figures are the
-- record's own), E10 (a blend counts by its draws) and E12 (a draw is released, and what is accepted is received with its nitrite).
--
--   Entry                                    what stands in a list: a call, a preview of one, a laboratory sheet, or a blend
--   entry                                    an entry by whether it is a preview
--   after                                    the record after a list, each entry on the record that the one before returned
--   sum_over                                 a number that each call and its outcome give, added up over the list; previews are skipped
--   sheet_adds, blend_adds                   what a sheet and a blend add to it: a sheet is a receive of its counts, a blend one of all its
--                                            draws; a sheet with a bad column, and a blend that is refused, are nothing
--   accepted                                 an answer that is no refusal
--   counts                                   what a call counts for: a receive and an accept take their vector in, and the accept its
--                                            nitrite too, a release and a draw hand one out, a settle lets gas go; of the others,
--                                            recycles among them, only what they tell is counted
--   received, released                       a total of the vectors handed to accepted receives and accepts, of the counts of accepted
--                                            sheets and of the draws of accepted blends, and of the vectors handed out by accepted
--                                            releases and draws
--   nitrite, received_nitrate                the nitrite handed to accepted accepts, and received nitrate with it
--   burnt, oxygen_reduced, nitrate_reduced   what accepted feeds tell
--   gas                                      the gas COD handed to accepted settles
--   stripped, n2                             what accepted returns and accepts tell
--   without_previews, SkipLaw                a list without its previews: the same record is after it, and every sum is the same.
--                                            proofs/Laws/Balance.antt proves it: previews-skipped
--   sheets_as_calls, SheetLaw                a list with its sheets as receives of their counts, likewise: sheets-as-calls
--   blends_as_calls, BlendLaw                a list with its accepted blends as receives of all their draws, likewise: blends-as-calls
--   StayLaw                                  after a list the record has the figures that it was made with: figures-stay
--   RecycleLaw                               a recycle, refused or not, leaves what is in the three tanks together as it was: recycle-holds
--   Moved, MovesLaw                          and so each column of sludge and reject together, and the digester; to every sum it adds
--                                            nothing: recycle-moves
--   Balanced, BalanceLaw                     the four balances, for every list of calls, previews, sheets and blends on a fresh record of
--                                            any permitted set of figures; of a set that is not permitted too, where each call is refused
--                                            and each sum is zero: balance
--
-- A list holds everything that is handed to its calls, previews, sheets and blends: any k, any gas, any nitrite, any vector, any
-- entries and any two slices of any length, honest or not. Its sums are whole numbers without a ceiling.
use Rattle.std.specs.Prelude.{Bool, true, false, cond, List, [], ◌∷◌, ◌≡◌, ℕ, ◌+◌, Float, is_none, get_or}
use Rattle.refusals.specs.Tests.{first}
use Rattle.vectors.specs.declared.figures.Figures.{Figures}
use Rattle.vectors.specs.Totals.{asm1_cod, asm1_tkn, asm1_oxygen, asm1_nitrate}
use Rattle.plant.specs.declared.record.Plant.{Plant}
use Rattle.plant.specs.declared.answer.Answer.{Answer}
use Rattle.plant.specs.declared.answer.Call.{Call}
use Rattle.plant.specs.declared.answer.Call.TheVariants as call
use Rattle.plant.specs.declared.answer.Request.{Request}
use Rattle.plant.specs.declared.answer.Outcome.{Outcome}
use Rattle.plant.specs.Record.{fresh_plant}
use Rattle.plant.specs.Answer.{refused_with, nothing, told}
use Rattle.plant.specs.Calls.{step, preview_of, receiving, recycling}
use Rattle.plant.specs.Tanks.{cod_in, tkn_in, oxygen_in, nitrate_in}
use Rattle.sheets.specs.declared.finding.Finding.{Finding}
use Rattle.sheets.specs.Sheet.{refusal_in, counts_of, sheet_step}
use Rattle.blends.specs.Blend.{loads_of, draws, blend_tests, blend_step}

-- ---- a list of calls, previews, sheets and blends

pub data Entry : Type 0 where
  calls : Request → Entry
  previews : Request → Entry
  sheets : List (Finding Float) → Entry
  blends : List ℕ → List ℕ → Entry  -- the slice of the loads, and that of their k

-- a call or a preview, by whether it is a preview
abbrev pub entry : Bool → Request → Entry
entry b r = cond b (previews r) (calls r)

abbrev pub after : Plant → List Entry → Plant
after p [] = p
after p (calls r ∷ es) = after (step p r).plant es
after p (previews r ∷ es) = after (preview_of p r).plant es
after p (sheets s ∷ es) = after (sheet_step p s).plant es
after p (blends c ks ∷ es) = after (blend_step p c ks) es

-- what the receive of a vector v adds, where b holds
abbrev pub receive_adds : (Request → Outcome → ℕ) → Plant → Bool → List ℕ → ℕ
receive_adds of p b v = let r = receiving v in cond b (of r (step p r)) 0

-- a sheet of which no column is bad adds what the receive of its counts adds
abbrev pub sheet_adds : (Request → Outcome → ℕ) → Plant → List (Finding Float) → ℕ
sheet_adds of p s = receive_adds of p (is_none (refusal_in s)) (counts_of s)

-- a blend to which no refusal applies adds what the receive of all its draws adds
abbrev pub blend_adds : (Request → Outcome → ℕ) → Plant → List ℕ → List ℕ → ℕ
blend_adds of p c ks = receive_adds of p (is_none (first (blend_tests p c ks))) (draws (loads_of c ks))

abbrev pub sum_over : (Request → Outcome → ℕ) → Plant → List Entry → ℕ
sum_over of p [] = 0
sum_over of p (calls r ∷ es) = of r (step p r) + sum_over of (step p r).plant es
sum_over of p (previews r ∷ es) = sum_over of (preview_of p r).plant es
sum_over of p (sheets s ∷ es) = sheet_adds of p s + sum_over of (sheet_step p s).plant es
sum_over of p (blends c ks ∷ es) = blend_adds of p c ks + sum_over of (blend_step p c ks) es

-- ---- what one call adds to the sums, by the call and its answer alone

abbrev pub accepted : Answer → Bool
accepted a = is_none (refused_with a)

-- what an accepted call counts for: whether the vector that it is handed is received, whether the one that it hands out is released,
-- a gas COD, and the nitrite beside the vector
pub record Counts : Type 0 where
  pub received : Bool
  pub released : Bool
  pub gas : ℕ
  pub nitrite : ℕ

-- a call between the tanks: what it lets go of, if anything, it tells
abbrev pub inside : Counts
inside = record { received = false; released = false; gas = 0; nitrite = 0 }

abbrev pub counts : Call → Counts
counts call.Receive = record { received = true; released = false; gas = 0; nitrite = 0 }
counts (call.Feed k) = inside
counts (call.Settle g) = record { received = false; released = false; gas = g.0; nitrite = 0 }
counts (call.Return k) = inside
counts (call.Release k) = record { received = false; released = true; gas = 0; nitrite = 0 }
counts (call.Recycle k) = inside
counts (call.Draw k) = record { received = false; released = true; gas = 0; nitrite = 0 }
counts (call.Accept n) = record { received = true; released = false; gas = 0; nitrite = n.0 }

-- a refused call adds nothing
abbrev pub if_accepted : Outcome → ℕ → ℕ
if_accepted o n = cond (accepted o.answer) n 0

abbrev pub received_by : (List ℕ → ℕ) → Request → Outcome → ℕ
received_by total r o = if_accepted o (cond (counts r.call).received (total r.sludge) 0)

abbrev pub released_by : (List ℕ → ℕ) → Request → Outcome → ℕ
released_by total r o = if_accepted o (cond (counts r.call).released (total o.vector) 0)

abbrev pub gas_by : Request → Outcome → ℕ
gas_by r o = if_accepted o (counts r.call).gas

abbrev pub nitrite_by : Request → Outcome → ℕ
nitrite_by r o = if_accepted o (counts r.call).nitrite

-- ---- the sums, from a fresh record of the figures f

module _ (f : Figures) (es : List Entry) where
  abbrev pub received : (List ℕ → ℕ) → ℕ
  received total = sum_over (received_by total) (fresh_plant f) es

  abbrev pub nitrite : ℕ
  nitrite = sum_over nitrite_by (fresh_plant f) es

  abbrev pub received_nitrate : ℕ
  received_nitrate = received asm1_nitrate + nitrite

  abbrev pub released : (List ℕ → ℕ) → ℕ
  released total = sum_over (released_by total) (fresh_plant f) es

  abbrev pub burnt : ℕ
  burnt = sum_over (λ r o. (told o.answer).burnt) (fresh_plant f) es

  abbrev pub oxygen_reduced : ℕ
  oxygen_reduced = sum_over (λ r o. (told o.answer).oxygen) (fresh_plant f) es

  abbrev pub nitrate_reduced : ℕ
  nitrate_reduced = sum_over (λ r o. (told o.answer).nitrate) (fresh_plant f) es

  abbrev pub gas : ℕ
  gas = sum_over gas_by (fresh_plant f) es

  abbrev pub stripped : ℕ
  stripped = sum_over (λ r o. (told o.answer).stripped) (fresh_plant f) es

  abbrev pub n2 : ℕ
  n2 = sum_over (λ r o. (told o.answer).n2) (fresh_plant f) es

-- ---- the claims

pub record Balanced (f : Figures) (es : List Entry) : Type 0 where
  pub cod : received f es asm1_cod ≡ cod_in (after (fresh_plant f) es) + released f es asm1_cod + burnt f es + gas f es + stripped f es
  pub tkn : received f es (asm1_tkn f) ≡ tkn_in (after (fresh_plant f) es) + released f es (asm1_tkn f)
  pub oxygen : received f es asm1_oxygen ≡ oxygen_in (after (fresh_plant f) es) + released f es asm1_oxygen + oxygen_reduced f es
  pub nitrate : received_nitrate f es
      ≡ nitrate_in (after (fresh_plant f) es) + released f es asm1_nitrate + nitrate_reduced f es + n2 f es

abbrev pub BalanceLaw : Type 0
BalanceLaw = (f : Figures) (es : List Entry) → Balanced f es

-- document 02, E7: no call, preview, sheet or blend changes the figures
abbrev pub StayLaw : Type 0
StayLaw = (p : Plant) (es : List Entry) → (after p es).figures ≡ p.figures

-- document 02, E1: recycling adds no term
pub record SameHeld (p q : Plant) : Type 0 where
  pub cod : cod_in p ≡ cod_in q
  pub tkn : tkn_in p ≡ tkn_in q
  pub oxygen : oxygen_in p ≡ oxygen_in q
  pub nitrate : nitrate_in p ≡ nitrate_in q

abbrev pub RecycleLaw : Type 0
RecycleLaw = (p : Plant) (k : ℕ) → SameHeld p (step p (recycling k)).plant

-- the request r on p, with the outcome o
pub record Moved (p : Plant) (r : Request) (o : Outcome) : Type 0 where
  pub columns : (i : ℕ) → get_or p.sludge i 0 + get_or p.reject i 0 ≡ get_or o.plant.sludge i 0 + get_or o.plant.reject i 0
  pub digester : p.digester ≡ o.plant.digester
  pub received : (total : List ℕ → ℕ) → received_by total r o ≡ 0
  pub released : (total : List ℕ → ℕ) → released_by total r o ≡ 0
  pub gas : gas_by r o ≡ 0
  pub nitrite : nitrite_by r o ≡ 0
  pub silent : told o.answer ≡ nothing (told o.answer).number

abbrev pub MovesLaw : Type 0
MovesLaw = (p : Plant) (k : ℕ) → Moved p (recycling k) (step p (recycling k))

-- document 02, E3: previews may stand anywhere in a list
abbrev pub without_previews : List Entry → List Entry
without_previews [] = []
without_previews (calls r ∷ es) = calls r ∷ without_previews es
without_previews (previews r ∷ es) = without_previews es
without_previews (sheets s ∷ es) = sheets s ∷ without_previews es
without_previews (blends c ks ∷ es) = blends c ks ∷ without_previews es

pub record SameList (p : Plant) (ds es : List Entry) : Type 0 where
  pub plant : after p ds ≡ after p es
  pub sums : (of : Request → Outcome → ℕ) → sum_over of p ds ≡ sum_over of p es

abbrev pub SkipLaw : Type 0
SkipLaw = (p : Plant) (es : List Entry) → SameList p es (without_previews es)

-- the receive of a vector v, where b holds, before the list es
abbrev pub received_or : Bool → List ℕ → List Entry → List Entry
received_or b v es = cond b (calls (receiving v) ∷ es) es

-- document 02, E6: the balances start from the counts
abbrev pub sheets_as_calls : List Entry → List Entry
sheets_as_calls [] = []
sheets_as_calls (calls r ∷ es) = calls r ∷ sheets_as_calls es
sheets_as_calls (previews r ∷ es) = previews r ∷ sheets_as_calls es
sheets_as_calls (sheets s ∷ es) = received_or (is_none (refusal_in s)) (counts_of s) (sheets_as_calls es)
sheets_as_calls (blends c ks ∷ es) = blends c ks ∷ sheets_as_calls es

abbrev pub SheetLaw : Type 0
SheetLaw = (p : Plant) (es : List Entry) → SameList p es (sheets_as_calls es)

-- document 02, E10: the draws are counted as received. Whether a blend is refused is tested on the record that it stands on
abbrev pub blends_as_calls : Plant → List Entry → List Entry
blends_as_calls p [] = []
blends_as_calls p (calls r ∷ es) = calls r ∷ blends_as_calls (step p r).plant es
blends_as_calls p (previews r ∷ es) = previews r ∷ blends_as_calls (preview_of p r).plant es
blends_as_calls p (sheets s ∷ es) = sheets s ∷ blends_as_calls (sheet_step p s).plant es
blends_as_calls p (blends c ks ∷ es) =
    received_or (is_none (first (blend_tests p c ks))) (draws (loads_of c ks)) (blends_as_calls (blend_step p c ks) es)

abbrev pub BlendLaw : Type 0
BlendLaw = (p : Plant) (es : List Entry) → SameList p es (blends_as_calls p es)
