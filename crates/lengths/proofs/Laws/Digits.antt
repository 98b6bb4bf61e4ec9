-- Laws of counting digits. Assumes nothing.
--
--   digits-one    zero has one digit
--   digits-more   a number of at least 10 to the k, and below the next power, has k + 1
use mathlib.Core.Path.{◌≡◌, sym, ap, subst, ◌∙◌}
use Prim.Native.Nat.{ℕ, ◌+◌, ◌-◌, ◌*◌, ◌^◌, ◌≤◌, ◌<◌}
use native.Mathlib.Nat.{pow-suc}
use native.Mathlib.Numerals.{add-one}
use native.Mathlib.Omega.{arith}
use lib.ListN.{length}
use Rattle.io.specs.Digits.{IsDigitCount}
use Rattle.reading.specs.Number.{decimal}
use Rattle.writing.proofs.Laws.Decimal.{decimal-is, fewest-le, digits-length}

-- the length of the digits is their count
digits-count : (n k : ℕ) → n < 18446744073709551616 → IsDigitCount 10 1 n k → k ≡ length (decimal n)
digits-count n k h are = sym (digits-length k n) ∙ ap length (decimal-is n k (fewest-le n k h are) are)

pub digits-one : (n : ℕ) → n ≡ 0 → 1 ≡ length (decimal n)
digits-one n e =
    let few : n < 10 ^ 1 = omega (arith, e) in
    digits-count n 1 (omega (arith, e)) (omega arith, few, λ h. absurd (omega (arith, h)))

pub digits-more : (n k : ℕ) → n < 18446744073709551616 → 10 ^ k ≤ n → n < 10 * 10 ^ k → k + 1 ≡ length (decimal n)
digits-more n k h least most =
    let power : 10 ^ (k + 1) ≡ 10 ^ k * 10 = ap (λ (j : ℕ). 10 ^ j) (add-one k) ∙ pow-suc 10 k in
    let before : k ≡ k + 1 - 1 = omega arith in
    let below : n < 10 ^ (k + 1) = omega (arith, power, most) in
    digits-count n (k + 1) h (omega arith, below, λ some. subst (λ (j : ℕ). 10 ^ j ≤ n) before least)
