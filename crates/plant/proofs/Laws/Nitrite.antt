-- Laws of nitrite that is lumped into nitrate. Assumes nothing.
--
--   set-added                       a column that is raised in its place is a sum with a vector of that column alone
--   with-nitrite-set                what the code makes of a vector and its nitrite
--   with-nitrite-adds               a total of it is that of the vector and that of the lumped ticks
use mathlib.Core.List.{List, [], ◌∷◌, ◌++◌}
use mathlib.Core.Path.{◌≡◌, refl, sym, ap, ap₂}
use Prim.Native.Nat.{ℕ, zero, suc, ◌+◌}
use native.Mathlib.Omega.{arith}
use native.Mathlib.Nat.{add-zero}
use lib.ListN.{length, get_or, set, replicate}
use Rattle.vectors.specs.declared.units.Ticks.{Ticks}
use Rattle.vectors.specs.Columns.{added}
use Rattle.vectors.specs.Laws.{Linear}
use Rattle.plant.specs.Nitrite.{lumped, nitrate_alone, with_nitrite}

added-zeros : (v : List ℕ) (n : ℕ) → length v ≡ n → added v (replicate n 0) ≡ v
unfolding added
added-zeros [] zero e = refl
added-zeros [] (suc n) e = absurd (omega (arith, e))
added-zeros (x ∷ v) zero e = absurd (omega (arith, e))
added-zeros (x ∷ v) (suc n) e = ap₂ (λ (y : ℕ) (w : List ℕ). y ∷ w) (add-zero x) (added-zeros v n (omega (arith, e)))

-- column i, with n columns behind it
pub set-added : (i n : ℕ) (v : List ℕ) (m : ℕ) → length v ≡ i + suc n
    → set v i (get_or v i 0 + m) ≡ added v (replicate i 0 ++ (m ∷ replicate n 0))
unfolding added
set-added i n [] m e = absurd (omega (arith, e))
set-added zero n (x ∷ v) m e = ap (λ (w : List ℕ). (x + m) ∷ w) (sym (added-zeros v n (omega (arith, e))))
set-added (suc i) n (x ∷ v) m e =
    ap₂ (λ (y : ℕ) (w : List ℕ). y ∷ w) (sym (add-zero x)) (set-added i n v m (omega (arith, e)))

pub with-nitrite-set : (v : List ℕ) (n : Ticks) → length v ≡ 13 → set v 8 (get_or v 8 0 + lumped n.0) ≡ with_nitrite v n
unfolding with_nitrite
with-nitrite-set v n e = set-added 8 4 v (lumped n.0) e

pub with-nitrite-adds : {total : List ℕ → ℕ} → Linear total → (v : List ℕ) (n : Ticks)
    → total (with_nitrite v n) ≡ total v + total (nitrate_alone (lumped n.0))
unfolding with_nitrite
with-nitrite-adds is v n = is.adds v (nitrate_alone (lumped n.0))
