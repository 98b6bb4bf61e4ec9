-- Previews by line. Assumes nothing.
--
--   preview-given   PreviewLaw: (preview FORM) prints what FORM would, and leaves the record as it is
use mathlib.Core.Bool.{Bool, true, false, cond, false≢true}
use mathlib.Core.List.{List, [], ◌∷◌, ◌++◌}
use mathlib.Core.Path.{◌≡◌, refl, sym, ap, subst, ◌∙◌}
use Prim.Native.Nat.{ℕ, ◌≤◌}
use lib.Dec.{leb}
use lib.ListN.{length}
use borrow.Author.Tests.{leb-true, leb-false}
use Rattle.refusals.specs.declared.Refusal.TheVariants.{NoForm}
use Rattle.plant.specs.declared.record.Plant.{Plant}
use Rattle.plant.specs.declared.answer.Outcome.{Outcome}
use Rattle.plant.specs.Answer.{refused}
use Rattle.plant.specs.Calls.{preview_of, outcome_by}
use Rattle.std.proofs.Common.{Option, Some, None}
use Rattle.reading.specs.declared.form.Asked.{Asked}
use Rattle.reading.specs.Text.{newline}
use Rattle.reading.specs.Form.{no_form}
use Rattle.reading.specs.Line.{preview_line, is_previewed, read_line, preview_text}
use Rattle.lines.specs.Asking.{form_outcome, outcome_text}
use Rattle.lines.specs.Session.{given_by, PreviewLaw}
use Rattle.reading.proofs.Laws.Line.{line-long, preview-form-law}

module _ (p : Plant) where
  -- ---- a preview of what a line is read as

  -- the preview of a call, and of a preview
  abbrev Previewed : (Outcome → Type 0) → Asked → Bool → Type 0
  Previewed A a b = A (form_outcome p (cond b no_form (Some (record { request = a.request; preview = true }))))

  plant-by : (l : Option Asked) → (form_outcome p (preview_line l)).plant ≡ p
  unfolding preview_of
  plant-by None = refl
  plant-by (Some a) = go a.preview
    where
      go : (b : Bool) → Previewed (λ (o : Outcome). o.plant ≡ p) a b
      go true = refl
      go false = refl

  answer-by : (l : Option Asked) → is_previewed l ≡ false → outcome_text (form_outcome p (preview_line l)) ≡ outcome_text (form_outcome p l)
  unfolding preview_of
  answer-by None e = refl
  answer-by (Some a) e = go a.preview e
    where
      go : (b : Bool) → b ≡ false → Previewed (λ (o : Outcome). outcome_text o ≡ outcome_text (outcome_by p b a.request)) a b
      go true e = absurd (false≢true (sym e))
      go false e = refl

  nested-by : (l : Option Asked) → is_previewed l ≡ true → form_outcome p (preview_line l) ≡ refused p NoForm
  nested-by None e = refl
  nested-by (Some a) e = go a.preview e
    where
      go : (b : Bool) → b ≡ true → Previewed (λ (o : Outcome). o ≡ refused p NoForm) a b
      go true e = refl
      go false e = absurd (false≢true e)

  -- ---- the line of the preview, which is too long or not

  module _ (u : List ℕ) where
    given_whole : length (preview_text u) ≤ 1024 → given_by p (preview_text u) ≡ form_outcome p (preview_line (read_line u))
    unfolding given_by
    given_whole h = ap (form_outcome p) (preview-form-law u h)

    -- what holds of a preview, and of a line that is no form, holds of the line of a preview
    by_length : (A : Outcome → Type 0) → A (form_outcome p (preview_line (read_line u))) → A (refused p NoForm)
        → A (given_by p (preview_text u))
    unfolding given_by
    by_length A y n = go (leb (length (preview_text u)) 1024) refl
      where
        go : (b : Bool) → leb (length (preview_text u)) 1024 ≡ b → A (form_outcome p (read_line (preview_text u)))
        go true e = subst (λ (l : Option Asked). A (form_outcome p l)) (sym (preview-form-law u (leb-true _ _ e))) y
        go false e = subst (λ (l : Option Asked). A (form_outcome p l)) (line-long (preview_text u) (leb-false _ _ e)) n

pub preview-given : PreviewLaw
unfolding given_by
preview-given p u =
    let l = read_line u in
    record {
      plant = by_length p u (λ (o : Outcome). o.plant ≡ p) (plant-by p l) refl;
      answer = λ h e. ap (λ (o : Outcome). outcome_text o ++ (newline ∷ [])) (given_whole p u h)
          ∙ ap (λ (t : List ℕ). t ++ (newline ∷ [])) (answer-by p l e);
      nested = λ e. by_length p u (λ (o : Outcome). o ≡ refused p NoForm) (nested-by p l e) refl;
    }
