-- Laws of sums, differences and quotients, which the unit functions and the stages share. Assumes nothing.
--
--   afford      as much of x as m has nitrogen for: at most x, and its nitrogen at most m
--   share-le    a share is at most the whole
--   plus        a sum, by its two parts
--   minus       a difference, by its two parts
use mathlib.Core.Path.{◌≡◌}
use Prim.Native.Nat.{ℕ, ◌+◌, ◌-◌, ◌*◌, ◌/◌, ◌≤◌, min}
use native.Mathlib.Nat.{mul-div-le, div-le_of_le-mul, mul-le-mul_left, mul-le-mul_right}
use native.Mathlib.Omega.{arith}

pub afford : (x m n : ℕ) → (min x (m / n) ≤ x) × (n * min x (m / n) ≤ m)
afford x m n =
    let h : min x (m / n) ≤ m / n = omega arith in
    (omega arith, omega (arith, mul-le-mul_left n h, mul-div-le m n))

pub share-le : (a b x : ℕ) → a ≤ b → a * x / b ≤ x
share-le a b x h = div-le_of_le-mul b (mul-le-mul_right x h)

pub plus : {x a b a' b' : ℕ} → x ≡ a + b → a ≡ a' → b ≡ b' → x ≡ a' + b'
plus e p q = cc

pub minus : {x a b a' b' : ℕ} → x ≡ a - b → a ≡ a' → b ≡ b' → x ≡ a' - b'
minus e p q = cc
