-- A conversion behind its test. Assumes nothing.
--
--   err-is         what a `?` returns
--   taken, sent    what is given where the test t, which stands for b, held, and where it did not
use mathlib.Core.Bool.{Bool, true, false, cond}
use mathlib.Core.Path.{◌≡◌, sym, ap, ◌∙◌}
use Rattle.std.specs.Prelude.{Result, Err}
use Rattle.std.specs.Result.{IsErrAnd}
use Rattle.std.proofs.lemmas.Result.{err_from_is_err_and}
use Rattle.refusals.specs.declared.Refusal.{Refusal}

pub err-is : {A : Type 0} {e r : Refusal} (x : Result A Refusal) → IsErrAnd x (λ y. y ≡ e) → e ≡ r → x ≡ Err r
err-is x h g = let y = err_from_is_err_and x h in y.1 ∙ ap Err (y.2 ∙ g)

module _ {A : Type 0} (b : Bool) (yes no : Result A Refusal) {x : Result A Refusal} {t : Bool} where
  pub taken : t ≡ b → t ≡ true → x ≡ yes → x ≡ cond b yes no
  taken e h g = rw (sym e ∙ h) g

  pub sent : t ≡ b → t ≡ false → x ≡ no → x ≡ cond b yes no
  sent e h g = rw (sym e ∙ h) g
