-- Laws of the call on a line. Assumes nothing.
--
--   outcome-short, outcome-full   what the outcome is in a buffer under 512 bytes, and in a longer one
--   form-figures                  a line, whatever it is, returns the figures that it was handed
--   line-short, line-full         the promise of the call, in the same two cases
--   held-short, held-full         the promise of the held line, in the same two cases
use mathlib.Core.Bool.{Bool, true, false, cond}
use mathlib.Core.List.{List}
use mathlib.Core.Path.{◌≡◌, refl, sym, ap, subst, ◌∙◌}
use Prim.Native.Nat.{ℕ, ◌≤◌, ◌<◌}
use lib.ListN.{length}
use borrow.Author.Tests.{lt-ltb, le-ltb}
use Rattle.std.specs.Prelude.{Option, None, Some, Result}
use Rattle.std.specs.Result.{result_err}
use Rattle.refusals.specs.declared.Refusal.{Refusal}
use Rattle.refusals.specs.declared.Refusal.TheVariants.{ShortBuffer}
use Rattle.plant.specs.declared.record.Plant.{Plant}
use Rattle.plant.specs.declared.answer.Outcome.{Outcome}
use Rattle.plant.specs.Answer.{refused}
use Rattle.plant.specs.Calls.{preview_of, outcome_by}
use Rattle.plant.proofs.Laws.Calls.{figures-kept}
use Rattle.holding.specs.declared.holding.HeldTotals.{HeldTotals}
use Rattle.holding.specs.Held.{held_of}
use Rattle.reading.specs.declared.form.Asked.{Asked}
use Rattle.reading.specs.Line.{read_line}
use Rattle.writing.specs.Buffer.{Answered}
use Rattle.writing.specs.Answer.{fitting, held_text}
use Rattle.lines.specs.Asking.{form_outcome, line_outcome, outcome_text, line_text, LineAnswered, held_refusal, HeldAnswered}
use Rattle.writing.proofs.Laws.Answer.{too_short, held-replied}

pub outcome-short : (m : ℕ) (p : Plant) (s : List ℕ) → m < 512 → line_outcome m p s ≡ refused p ShortBuffer
unfolding line_outcome
outcome-short m p s h = ap (λ b. cond b (refused p ShortBuffer) (form_outcome p (read_line s))) (lt-ltb m 512 h)

pub outcome-full : (m : ℕ) (p : Plant) (s : List ℕ) → 512 ≤ m → line_outcome m p s ≡ form_outcome p (read_line s)
unfolding line_outcome
outcome-full m p s h = ap (λ b. cond b (refused p ShortBuffer) (form_outcome p (read_line s))) (le-ltb m 512 h)

pub form-figures : (p : Plant) (l : Option Asked) → (form_outcome p l).plant.figures ≡ p.figures
unfolding preview_of
form-figures p None = refl
form-figures p (Some a) = go a.preview
  where
    go : (b : Bool) → (outcome_by p b a.request).plant.figures ≡ p.figures
    go true = refl
    go false = figures-kept p a.request

module _ {p : Plant} {s d : List ℕ} {o : Outcome} where
  pub line-short : length d < 512 → o ≡ refused p ShortBuffer → LineAnswered p s d (record { outcome = o; length = 0 }) d
  unfolding line_text
  line-short h q =
      record {
        outcome = q ∙ sym (outcome-short (length d) p s h);
        figures = ap (λ (x : Outcome). x.plant.figures) q;
        text = too_short d (outcome_text (form_outcome p (read_line s))) h;
      }

  pub line-full : {l : Option Asked} {n : ℕ} {e : List ℕ} → 512 ≤ length d → l ≡ read_line s → o ≡ form_outcome p l
      → Answered d (fitting (length d) (outcome_text o)) n e
      → LineAnswered p s d (record { outcome = o; length = n }) e
  unfolding line_text
  line-full {l} {n} {e} h r q a =
      let t : o ≡ form_outcome p (read_line s) = q ∙ ap (form_outcome p) r in
      record {
        outcome = t ∙ sym (outcome-full (length d) p s h);
        figures = ap (λ (x : Outcome). x.plant.figures) t ∙ form-figures p (read_line s);
        text = subst (λ (x : Outcome). Answered d (fitting (length d) (outcome_text x)) n e) t a;
      }

-- ---- the held line

module _ {p : Plant} {d : List ℕ} {h : Result HeldTotals Refusal} {n : ℕ} {e : List ℕ} where
  pub held-short : length d < 512 → h ≡ held_of p → Answered d (fitting (length d) (held_text h)) n e
      → HeldAnswered p d (record { refusal = Some ShortBuffer; length = n }) e
  unfolding held_refusal
  held-short l q a = record
      { refusal = sym (ap (λ b. cond b (Some ShortBuffer) (result_err (held_of p))) (lt-ltb (length d) 512 l)); text = held-replied q a }

  pub held-full : 512 ≤ length d → h ≡ held_of p → Answered d (fitting (length d) (held_text h)) n e
      → HeldAnswered p d (record { refusal = result_err h; length = n }) e
  unfolding held_refusal
  held-full l q a = record {
    refusal = ap (λ (t : Result HeldTotals Refusal). result_err t) q
        ∙ sym (ap (λ b. cond b (Some ShortBuffer) (result_err (held_of p))) (le-ltb (length d) 512 l));
    text = held-replied q a;
  }
