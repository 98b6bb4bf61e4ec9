-- The call on a line: document 01, "Lines in brackets" and "What the link sends away", and document 02, E3 and E7.
--
--   form_outcome   what a line that has been read gives on a record; no form is refused with 11
--   line_outcome   the outcome with a buffer of m bytes, refused with 12 where m is under 512
--   line_text      the answer's bytes
--   held_refusal   the refusal of the held line
--   LineAnswered   the promise of the call: the outcome, the figures handed in, the count and the whole buffer
--   HeldAnswered   the same of the held line
use Rattle.std.specs.Prelude.{cond, Option, Some, None, List, ◌≡◌, ℕ, ltb, length}
use Rattle.std.specs.Result.{result_err}
use Rattle.refusals.specs.declared.Refusal.{Refusal}
use Rattle.refusals.specs.declared.Refusal.TheVariants.{NoForm, ShortBuffer}
use Rattle.plant.specs.declared.record.Plant.{Plant}
use Rattle.plant.specs.declared.answer.Outcome.{Outcome}
use Rattle.plant.specs.Answer.{refused}
use Rattle.plant.specs.Calls.{outcome_by}
use Rattle.reading.specs.declared.form.Asked.{Asked}
use Rattle.lines.specs.declared.asking.LineOutcome.{LineOutcome}
use Rattle.reading.specs.Line.{read_line}
use Rattle.writing.specs.Buffer.{Answered}
use Rattle.writing.specs.Answer.{answer_text, held_text, fitting}
use Rattle.holding.specs.Held.{held_of}
use Rattle.lines.specs.declared.asking.HeldOutcome.{HeldOutcome}

abbrev pub form_outcome : Plant → Option Asked → Outcome
form_outcome p (Some a) = outcome_by p a.preview a.request
form_outcome p None = refused p NoForm

unfoldable pub line_outcome : ℕ → Plant → List ℕ → Outcome
line_outcome m p s = cond (ltb m 512) (refused p ShortBuffer) (form_outcome p (read_line s))

abbrev pub outcome_text : Outcome → List ℕ
outcome_text o = answer_text o.answer o.vector

-- under 12 there is none
unfoldable pub line_text : ℕ → Plant → List ℕ → List ℕ
line_text m p s = fitting m (outcome_text (form_outcome p (read_line s)))

-- the held line: 12 in a short buffer, else the record's own refusal, if any
unfoldable pub held_refusal : ℕ → Plant → Option Refusal
held_refusal m p = cond (ltb m 512) (Some ShortBuffer) (result_err (held_of p))

-- from the record p, the line s and the buffer d to the result r and the buffer e
pub record LineAnswered (p : Plant) (s d : List ℕ) (r : LineOutcome) (e : List ℕ) : Type 0 where
  pub outcome : r.outcome ≡ line_outcome (length d) p s
  pub figures : r.outcome.plant.figures ≡ p.figures
  pub text : Answered d (line_text (length d) p s) r.length e

pub record HeldAnswered (p : Plant) (d : List ℕ) (r : HeldOutcome) (e : List ℕ) : Type 0 where
  pub refusal : r.refusal ≡ held_refusal (length d) p
  pub text : Answered d (fitting (length d) (held_text (held_of p))) r.length e
