-- The calls on the record: document 01, "The plant record and its five calls", and document 02, E1, E3, E7 and E12.
--
--   Rule                                          what a call is: its refusals, in the order in which they are tested, and its outcome
--                                                 where none applies
--   receive, feed, settle, give_back, release     the calls of 01; give_back is its return
--   recycle                                       the call of E1
--   draw, accept                                  the calls of E12; draw and release hand out alike (handed_out)
--   fed_tests, fed, fed_told, settled_tests, ..   parts of these
--   ruled                                         a call's outcome, or the first refusal that applies
--   rule_by, step_by, step                        any of them, by a request
--   preview_of                                    a preview of it: E3
--   outcome_by                                    the one or the other
--   refusal_for                                   the refusal that applies first, or 0
--   tells_by, told_for                            what a call tells where none applies; the number and the values that a request is told
--   TellsLaw, ExactLaw                            that an answer tells just these, and its number just the refusal
--   FiguresLaw                                    that a call returns the figures that it was handed
--   request, receiving, feeding, ..               the requests
--
-- Every rule goes by the record's own figures, and leaves them as they are.
use Rattle.std.specs.Prelude.{Bool, cond, ◌&&◌, Option, None, Some, Result, Ok, Err, List, [], ◌∷◌, ◌≡◌, ℕ, ◌+◌, eqb, replicate}
use Rattle.refusals.specs.declared.Refusal.{Refusal}
use Rattle.refusals.specs.declared.Refusal.TheVariants.{NotThousandths, ColumnAbove, CodOpen, TknOpen, CarriedOpen, TankAbove}
use Rattle.refusals.specs.Refusal.{number, number_of}
use Rattle.refusals.specs.Tests.{unless, first, decide}
use Rattle.vectors.specs.declared.figures.Figures.{Figures}
use Rattle.interface.specs.declared.feed.Fed.{Fed}
use Rattle.interface.specs.declared.returning.Returned.{Returned}
use Rattle.vectors.specs.declared.units.Milligrams.{Milligrams}
use Rattle.vectors.specs.declared.units.Ticks.{Ticks}
use Rattle.vectors.specs.Columns.{asm1_ceilings, digester_ceilings, within, added}
use Rattle.vectors.specs.Draw.{drawn, rest}
use Rattle.vectors.specs.Totals.{digester_cod, digester_tkn, digester_oxygen, digester_nitrate}
use Rattle.interface.specs.Feed.{feed_of}
use Rattle.interface.specs.Return.{return_of}
use Rattle.plant.specs.declared.record.Plant.{Plant}
use Rattle.plant.specs.declared.answer.Answer.{Answer}
use Rattle.plant.specs.declared.answer.Answer.TheVariants as answer
use Rattle.plant.specs.declared.answer.Call.{Call}
use Rattle.plant.specs.declared.answer.Call.TheVariants as call
use Rattle.plant.specs.declared.answer.Request.{Request}
use Rattle.plant.specs.declared.answer.Outcome.{Outcome}
use Rattle.plant.specs.declared.answer.Told.{Told}
use Rattle.plant.specs.Record.{no_columns, record_refusal, thousandths}
use Rattle.plant.specs.Answer.{nothing, told, refused, outcome_of}
use Rattle.plant.specs.Nitrite.{acceptable, with_nitrite, n2_of}

-- a call's refusals, in the order in which they are tested, and its outcome where none applies
pub record Rule : Type 0 where
  pub tests : List (Option Refusal)
  pub done : Outcome

-- Receive adds an ASM1 vector to the sludge tank.
unfoldable pub receive : Plant → List ℕ → Rule
receive p v =
    record {
      tests =
          record_refusal p
          ∷ unless (within asm1_ceilings v) ColumnAbove
          ∷ unless (within asm1_ceilings (added p.sludge v)) TankAbove
          ∷ [];
      done =
          record {
            answer = answer.Received;
            vector = no_columns;
            plant = record { sludge = added p.sludge v; digester = p.digester; reject = p.reject; figures = p.figures };
          };
    }

-- Feed k draws from sludge, converts, and adds to the digester: what is tested of what the conversion gives, its own 4 first; what becomes
-- of it, where r stays; and what it tells.
abbrev pub fed_tests : Plant → Result Fed Refusal → List (Option Refusal)
fed_tests p (Ok o) = unless (within digester_ceilings (added p.digester o.vector)) TankAbove ∷ []
fed_tests p (Err e) = Some e ∷ []

abbrev pub fed : Plant → Result Fed Refusal → List ℕ → Outcome
fed p (Err e) r = refused p e
fed p (Ok o) r =
    record {
      answer = answer.Fed o.burnt o.oxygen o.nitrate o.warn;
      vector = no_columns;
      plant = record { sludge = r; digester = added p.digester o.vector; reject = p.reject; figures = p.figures };
    }

abbrev pub fed_told : Result Fed Refusal → Told
fed_told (Err e) = nothing 0
fed_told (Ok o) = record { number = 0; burnt = o.burnt.0; oxygen = o.oxygen.0; nitrate = o.nitrate.0; warn = o.warn; stripped = 0; n2 = 0 }

unfoldable pub feed : Plant → ℕ → Rule
feed p k =
    record {
      tests = record_refusal p ∷ unless (thousandths k) NotThousandths ∷ fed_tests p (feed_of p.figures (drawn k p.sludge));
      done = fed p (feed_of p.figures (drawn k p.sludge)) (rest k p.sludge);
    }

-- Settle takes a digester vector d that the host's solver proposes in the place of old, and a gas COD. sic is free.
abbrev pub settled_tests : Figures → List ℕ → Milligrams → List ℕ → List (Option Refusal)
settled_tests f old gas d =
    unless (eqb (digester_cod old) (digester_cod d + gas.0)) CodOpen
    ∷ unless (eqb (digester_tkn f old) (digester_tkn f d)) TknOpen
    ∷ unless (eqb (digester_oxygen old) (digester_oxygen d) && eqb (digester_nitrate old) (digester_nitrate d)) CarriedOpen
    ∷ []

unfoldable pub settle : Plant → Milligrams → List ℕ → Rule
settle p gas d =
    record {
      tests = record_refusal p ∷ unless (within digester_ceilings d) ColumnAbove ∷ settled_tests p.figures p.digester gas d;
      done =
          record {
            answer = answer.Settled;
            vector = no_columns;
            plant = record { sludge = p.sludge; digester = d; reject = p.reject; figures = p.figures };
          };
    }

-- Return k draws from the digester, converts, and adds to reject: what is tested of what the conversion gives, its own 5 first; what
-- becomes of it, where r stays; and what it tells.
abbrev pub returned_tests : Plant → Result Returned Refusal → List (Option Refusal)
returned_tests p (Ok o) = unless (within asm1_ceilings (added p.reject o.vector)) TankAbove ∷ []
returned_tests p (Err e) = Some e ∷ []

abbrev pub returned : Plant → Result Returned Refusal → List ℕ → Outcome
returned p (Err e) r = refused p e
returned p (Ok o) r =
    record {
      answer = answer.Returned o.stripped;
      vector = no_columns;
      plant = record { sludge = p.sludge; digester = r; reject = added p.reject o.vector; figures = p.figures };
    }

abbrev pub returned_told : Result Returned Refusal → Told
returned_told (Err e) = nothing 0
returned_told (Ok o) = record { number = 0; burnt = 0; oxygen = 0; nitrate = 0; warn = 0; stripped = o.stripped.0; n2 = 0 }

unfoldable pub give_back : Plant → ℕ → Rule
give_back p k =
    record {
      tests = record_refusal p ∷ unless (thousandths k) NotThousandths ∷ returned_tests p (return_of p.figures (drawn k p.digester));
      done = returned p (return_of p.figures (drawn k p.digester)) (rest k p.digester);
    }

-- k draws from reject, and the vector is handed out with the answer a.
abbrev pub handed_out : Answer → Plant → ℕ → Rule
handed_out a p k =
    record {
      tests = record_refusal p ∷ unless (thousandths k) NotThousandths ∷ [];
      done =
          record {
            answer = a;
            vector = drawn k p.reject;
            plant = record { sludge = p.sludge; digester = p.digester; reject = rest k p.reject; figures = p.figures };
          };
    }

-- Release k hands out to the works.
unfoldable pub release : Plant → ℕ → Rule
release p k = handed_out answer.Released p k

-- Recycle k draws from reject and adds the draw to the sludge tank: document 02, E1.
unfoldable pub recycle : Plant → ℕ → Rule
recycle p k =
    let v = drawn k p.reject in
    record {
      tests = record_refusal p ∷ unless (thousandths k) NotThousandths ∷ unless (within asm1_ceilings (added p.sludge v)) TankAbove ∷ [];
      done =
          record {
            answer = answer.Recycled;
            vector = no_columns;
            plant = record { sludge = added p.sludge v; digester = p.digester; reject = rest k p.reject; figures = p.figures };
          };
    }

-- Draw k hands out to the host of a side-stream reactor: document 02, E12.
unfoldable pub draw : Plant → ℕ → Rule
draw p k = handed_out answer.Drawn p k

-- Accept adds an ASM1 vector from that host to the sludge tank, with n ticks of nitrite: of these, three fifths join sno, and the rest is
-- told as N2. Document 02, E12.
unfoldable pub accept : Plant → List ℕ → Ticks → Rule
accept p v n =
    let w = with_nitrite v n in
    record {
      tests =
          record_refusal p
          ∷ unless (acceptable v n) ColumnAbove
          ∷ unless (within asm1_ceilings (added p.sludge w)) TankAbove
          ∷ [];
      done =
          record {
            answer = answer.Accepted (n2_of n);
            vector = no_columns;
            plant = record { sludge = added p.sludge w; digester = p.digester; reject = p.reject; figures = p.figures };
          };
    }

-- ---- any call

-- a call c, with the vectors v and d that it is handed
abbrev pub rule_by : Plant → Call → List ℕ → List ℕ → Rule
rule_by p call.Receive v d = receive p v
rule_by p (call.Feed k) v d = feed p k
rule_by p (call.Settle gas) v d = settle p gas d
rule_by p (call.Return k) v d = give_back p k
rule_by p (call.Release k) v d = release p k
rule_by p (call.Recycle k) v d = recycle p k
rule_by p (call.Draw k) v d = draw p k
rule_by p (call.Accept n) v d = accept p v n

-- a call's outcome, or the first refusal that applies
unfoldable pub ruled : Rule → Result Outcome Refusal
ruled r = decide (first r.tests) r.done

unfoldable pub step_by : Plant → Call → List ℕ → List ℕ → Outcome
step_by p c v d = outcome_of p (ruled (rule_by p c v d))

abbrev pub step : Plant → Request → Outcome
step p r = step_by p r.call r.sludge r.digester

-- A preview answers as the call would on a copy of the record, and the record remains the one handed in: document 02, E3.
unfoldable pub preview_of : Plant → Request → Outcome
preview_of p r = let o = step p r in record { answer = o.answer; vector = o.vector; plant = p }

-- the call of a request, or where b holds a preview of it
abbrev pub outcome_by : Plant → Bool → Request → Outcome
outcome_by p b r = cond b (preview_of p r) (step p r)

-- the number of the first refusal that applies, or 0
abbrev pub refusal_for : Plant → Request → ℕ
refusal_for p r = number_of (first (rule_by p r.call r.sludge r.digester).tests)

-- what it tells where no refusal applies: a feed what its conversion burns and reduces, and warn; a return what its conversion strips;
-- an accept the N2; the others nothing
abbrev pub tells_by : Plant → Call → Told
tells_by p call.Receive = nothing 0
tells_by p (call.Feed k) = fed_told (feed_of p.figures (drawn k p.sludge))
tells_by p (call.Settle gas) = nothing 0
tells_by p (call.Return k) = returned_told (return_of p.figures (drawn k p.digester))
tells_by p (call.Release k) = nothing 0
tells_by p (call.Recycle k) = nothing 0
tells_by p (call.Draw k) = nothing 0
tells_by p (call.Accept n) =
    record { number = 0; burnt = 0; oxygen = 0; nitrate = 0; warn = 0; stripped = 0; n2 = (n2_of n).0 }

-- the number of the first refusal that applies, with zeros; or 0, with what the call tells
abbrev pub told_by : Option Refusal → Told → Told
told_by (Some r) t = nothing (number r)
told_by None t = t

unfoldable pub told_for : Plant → Request → Told
told_for p r = told_by (first (rule_by p r.call r.sludge r.digester).tests) (tells_by p r.call)

-- an answer tells that number and these values. proofs/Laws/Calls.antt proves it: tells
abbrev pub TellsLaw : Type 0
TellsLaw = (p : Plant) (r : Request) → told (step p r).answer ≡ told_for p r

-- the number that an answer tells is the refusal that applies first, exactly. proofs/Laws/Calls.antt proves it: exact
abbrev pub ExactLaw : Type 0
ExactLaw = (p : Plant) (r : Request) → (told (step p r).answer).number ≡ refusal_for p r

-- a call, refused or not, returns the figures that it was handed: document 02, E7. proofs/Laws/Calls.antt proves it: figures-kept
abbrev pub FiguresLaw : Type 0
FiguresLaw = (p : Plant) (r : Request) → (step p r).plant.figures ≡ p.figures

-- ---- requests

-- a call that is handed no vector
abbrev pub request : Call → Request
request c = record { call = c; sludge = no_columns; digester = replicate 26 0 }

abbrev pub receiving : List ℕ → Request
receiving v = record { call = call.Receive; sludge = v; digester = replicate 26 0 }

abbrev pub feeding : ℕ → Request
feeding k = request (call.Feed k)

abbrev pub settling : Milligrams → List ℕ → Request
settling gas d = record { call = call.Settle gas; sludge = no_columns; digester = d }

abbrev pub returning : ℕ → Request
returning k = request (call.Return k)

abbrev pub releasing : ℕ → Request
releasing k = request (call.Release k)

abbrev pub recycling : ℕ → Request
recycling k = request (call.Recycle k)

abbrev pub drawing : ℕ → Request
drawing k = request (call.Draw k)

abbrev pub accepting : List ℕ → Ticks → Request
accepting v n = record { call = call.Accept n; sludge = v; digester = replicate 26 0 }
