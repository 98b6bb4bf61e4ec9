-- The calls that a host has: each is a call of a layer below, on the record that the host's 61 numbers stand for.
--
--   LineCalled                       the call on a line: the columns behind it, the answer's bytes and the whole buffer
--   HeldCalled                       the held line: its bytes and the whole buffer
--   two_of                           how long the answers will be, and how many lines are not counted
--   Composed                         a call as a line: its bytes and the whole buffer
--   Called                           a call of the record by numbers: the columns behind it and the refusal's number
--   CalledOut                        the same, with what the call tells or hands out
--   four_of, stripped_of, n2_told    what a feed tells, a return, and an accept
--   number_in, told_in               the number of a refusal, or 0; the numbers that are told, or zeros
--   SheetCalled                      a laboratory sheet, with the four numbers that it tells (unseen_of)
--   MadeCalled                       a record made of nine figures: its columns and the refusal's number
--   TotalsCalled                     what is in the tanks, by numbers
--   AsmToAdmCalled, AdmToAsmCalled   the conversions of a vector by itself
--   CloseCalled, GapCalled           a proposal closed, and how far off it is
--   BlendCalled                      several loads in one blend: the columns behind it, the refusal's number and the loads' slice
--
-- cs and es are the columns before and behind the call, d and e the buffer before and behind it, ts what is told, r is the result.
use Rattle.std.specs.Prelude.{not, replicate, List, [], ◌∷◌, ◌++◌, ◌≡◌, ℕ, eqb, length, drop, Float, Result, Ok, Err}
use Rattle.std.specs.Result.{result_err}
use Rattle.refusals.specs.declared.Refusal.{Refusal}
use Rattle.refusals.specs.Refusal.{number_of}
use Rattle.vectors.specs.Figures.{figures_of}
use Rattle.interface.specs.declared.feed.Fed.{Fed}
use Rattle.interface.specs.declared.returning.Returned.{Returned}
use Rattle.interface.specs.Whole.{asm_to_adm, adm_to_asm}
use Rattle.plant.specs.Answer.{told}
use Rattle.plant.specs.Record.{made}
use Rattle.plant.specs.declared.answer.Outcome.{Outcome}
use Rattle.plant.specs.declared.answer.Request.{Request}
use Rattle.plant.specs.Calls.{step}
use Rattle.holding.specs.declared.holding.HeldTotals.{HeldTotals}
use Rattle.holding.specs.Held.{held_of}
use Rattle.blends.specs.Blend.{blend, blend_step, loads_left}
use Rattle.sheets.specs.declared.finding.Finding.{Finding}
use Rattle.sheets.specs.declared.call.Unseen.{Unseen}
use Rattle.sheets.specs.Sheet.{sheet_step}
use Rattle.closing.specs.declared.Closed.{Closed}
use Rattle.closing.specs.declared.Gaps.{Gaps}
use Rattle.closing.specs.Closing.{close_of, gap_of}
use Rattle.writing.specs.Buffer.{Answered}
use Rattle.writing.specs.Answer.{held_text, fitting}
use Rattle.composing.specs.Written.{written_text}
use Rattle.lines.specs.Asking.{line_outcome, line_text}
use Rattle.lengths.specs.declared.input.AnswerBytes.{AnswerBytes}
use Rattle.host.specs.Record.{plant_at, columns_at}

-- ---- by text

pub record LineCalled (cs s d : List ℕ) (r : ℕ) (es e : List ℕ) : Type 0 where
  pub columns : es ≡ columns_at (line_outcome (length d) (plant_at cs) s).plant
  pub text : Answered d (line_text (length d) (plant_at cs) s) r e

pub record HeldCalled (cs d : List ℕ) (r : ℕ) (e : List ℕ) : Type 0 where
  pub text : Answered d (fitting (length d) (held_text (held_of (plant_at cs)))) r e

-- the bytes, then the lines that are not counted
abbrev pub two_of : AnswerBytes → List ℕ
two_of a = a.bytes ∷ a.uncounted ∷ []

-- the line of the request q, or of its preview where n is not 0
pub record Composed (q : Request) (n : ℕ) (d : List ℕ) (r : ℕ) (e : List ℕ) : Type 0 where
  pub count : r ≡ length (written_text (length d) (not (eqb n 0)) q)
  pub buffer : e ≡ written_text (length d) (not (eqb n 0)) q ++ drop (length (written_text (length d) (not (eqb n 0)) q)) d

-- ---- the record's calls by numbers: q is the request

pub record Called (cs : List ℕ) (q : Request) (r : ℕ) (es : List ℕ) : Type 0 where
  pub columns : es ≡ columns_at (step (plant_at cs) q).plant
  pub refusal : r ≡ (told (step (plant_at cs) q).answer).number

-- `out` takes what is told or handed out from the outcome; a refusal has zeros there
pub record CalledOut (cs : List ℕ) (q : Request) (out : Outcome → List ℕ) (r : ℕ) (es ts : List ℕ) : Type 0 where
  pub call : Called cs q r es
  pub told : ts ≡ out (step (plant_at cs) q)

-- burnt, oxygen, nitrate and warn
abbrev pub four_of : Outcome → List ℕ
four_of o = let t = told o.answer in t.burnt ∷ t.oxygen ∷ t.nitrate ∷ t.warn ∷ []

abbrev pub stripped_of : Outcome → List ℕ
stripped_of o = (told o.answer).stripped ∷ []

abbrev pub n2_told : Outcome → List ℕ
n2_told o = (told o.answer).n2 ∷ []

abbrev pub vector_of : Outcome → List ℕ
vector_of o = o.vector

-- ---- calls that give a refusal or what they tell: a refusal has its number, and zeros are told beside it

abbrev pub number_in : {A : Type 0} → Result A Refusal → ℕ
number_in o = number_of (result_err o)

-- the n numbers, or n zeros
abbrev pub told_in : ℕ → Result (List ℕ) Refusal → List ℕ
told_in n (Ok ts) = ts
told_in n (Err r) = replicate n 0

-- ---- a laboratory sheet s

abbrev pub unseen_of : Result Unseen Refusal → List ℕ
unseen_of (Ok u) = u.milligrams.0 ∷ u.ticks.0 ∷ u.millimoles.0 ∷ u.unsampled ∷ []
unseen_of (Err n) = 0 ∷ 0 ∷ 0 ∷ 0 ∷ []

pub record SheetCalled (cs : List ℕ) (s : List (Finding Float)) (r : ℕ) (es ts : List ℕ) : Type 0 where
  pub columns : es ≡ columns_at (sheet_step (plant_at cs) s).plant
  pub refusal : r ≡ number_in (sheet_step (plant_at cs) s).told
  pub told : ts ≡ unseen_of (sheet_step (plant_at cs) s).told

-- ---- a record made of the nine figures fs

pub record MadeCalled (fs : List ℕ) (r : ℕ) (es : List ℕ) : Type 0 where
  pub columns : es ≡ columns_at (made (figures_of fs)).plant
  pub refusal : r ≡ number_of (made (figures_of fs)).refusal

-- ---- what is in the tanks

abbrev pub totals_of : Result HeldTotals Refusal → List ℕ
totals_of (Ok h) = h.cod.0 ∷ h.tkn.0 ∷ h.oxygen.0 ∷ h.nitrate.0 ∷ []
totals_of (Err n) = 0 ∷ 0 ∷ 0 ∷ 0 ∷ []

pub record TotalsCalled (cs : List ℕ) (r : ℕ) (ts : List ℕ) : Type 0 where
  pub refusal : r ≡ number_in (held_of (plant_at cs))
  pub told : ts ≡ totals_of (held_of (plant_at cs))

-- ---- the conversions of a vector by itself, with the figures fs: v is handed over, and w comes out, which has zeros under a refusal

abbrev pub fed_of : Result Fed Refusal → List ℕ
fed_of (Ok o) = o.burnt.0 ∷ o.oxygen.0 ∷ o.nitrate.0 ∷ o.warn ∷ []
fed_of (Err n) = 0 ∷ 0 ∷ 0 ∷ 0 ∷ []

abbrev pub fed_vector : Result Fed Refusal → List ℕ
fed_vector (Ok o) = o.vector
fed_vector (Err n) = replicate 26 0

pub record AsmToAdmCalled (fs v : List ℕ) (r : ℕ) (w ts : List ℕ) : Type 0 where
  pub refusal : r ≡ number_in (asm_to_adm (figures_of fs) v)
  pub vector : w ≡ fed_vector (asm_to_adm (figures_of fs) v)
  pub told : ts ≡ fed_of (asm_to_adm (figures_of fs) v)

abbrev pub stripped_in : Result Returned Refusal → List ℕ
stripped_in (Ok o) = o.stripped.0 ∷ []
stripped_in (Err n) = 0 ∷ []

abbrev pub returned_vector : Result Returned Refusal → List ℕ
returned_vector (Ok o) = o.vector
returned_vector (Err n) = replicate 13 0

pub record AdmToAsmCalled (fs v : List ℕ) (r : ℕ) (w ts : List ℕ) : Type 0 where
  pub refusal : r ≡ number_in (adm_to_asm (figures_of fs) v)
  pub vector : w ≡ returned_vector (adm_to_asm (figures_of fs) v)
  pub told : ts ≡ stripped_in (adm_to_asm (figures_of fs) v)

-- ---- a proposal d

-- the vector that closes, and the gas; a refusal leaves the proposal as it is
abbrev pub vector_in : List ℕ → Result Closed Refusal → List ℕ
vector_in d (Ok c) = c.vector
vector_in d (Err n) = d

abbrev pub gas_in : Result Closed Refusal → List ℕ
gas_in (Ok c) = c.gas.0 ∷ []
gas_in (Err n) = 0 ∷ []

pub record CloseCalled (cs d : List ℕ) (r : ℕ) (w ts : List ℕ) : Type 0 where
  pub refusal : r ≡ number_in (close_of (plant_at cs) d)
  pub vector : w ≡ vector_in d (close_of (plant_at cs) d)
  pub told : ts ≡ gas_in (close_of (plant_at cs) d)

-- COD too much, nitrogen too much, sin above its ceiling
abbrev pub three_of : Result Gaps Refusal → List ℕ
three_of (Ok g) = g.cod.0 ∷ g.tkn.0 ∷ g.sin.0 ∷ []
three_of (Err n) = 0 ∷ 0 ∷ 0 ∷ []

pub record GapCalled (cs d : List ℕ) (r : ℕ) (ts : List ℕ) : Type 0 where
  pub refusal : r ≡ number_in (gap_of (plant_at cs) d)
  pub told : ts ≡ three_of (gap_of (plant_at cs) d)

-- ---- a blend: c is the loads' slice before it, l the same behind it, and ks that of the k

pub record BlendCalled (cs c ks : List ℕ) (r : ℕ) (es l : List ℕ) : Type 0 where
  pub columns : es ≡ columns_at (blend_step (plant_at cs) c ks)
  pub refusal : r ≡ number_in (blend (plant_at cs) c ks)
  pub loads : l ≡ loads_left (plant_at cs) c ks
