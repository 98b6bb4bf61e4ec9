-- What `map` of an array gives, as a list. Assumes nothing.
--
--   mapped   where each call gives h of the element, it is h of each element
use mathlib.Core.List.{List, map}
use mathlib.Core.Path.{◌≡◌, sym, ◌∙◌}
use Prim.Native.Nat.{ℕ, ◌<◌}
use native.Mathlib.Omega.{arith}
use lib.ListN.{length, length-map}
use denote.Param.Members.{Mut}
use Rattle.std.specs.Fn.{Called}
use Rattle.std.specs.Array.{IsMapOf}
use Rattle.std.proofs.lemmas.Grind.{same_number_lists}
use Rattle.std.proofs.lemmas.List.{get_or-map}

pub mapped : {F A : Type 0} (g : Mut F (A × Unit {0}) ℕ) (h : A → ℕ) (d : A)
    → ((p : F) (x : A) (y : ℕ) (q : F) → Called g p (x, tt) y q → y ≡ h x)
    → {f : F} {xs : List A} {ys : List ℕ} {n : ℕ} → IsMapOf g f xs ys n → length xs ≡ n → ys ≡ map h xs
mapped g h d call {f} {xs} {ys} {n} m e =
    same_number_lists ys (map h xs) (m.long ∙ sym (length-map xs h ∙ e))
    (λ k l. let i : k < n = omega (arith, m.long) in call _ _ _ _ (m.at k d 0 i).2 ∙ sym (get_or-map h xs k d 0 (omega arith)))
