-- Laws of one value. Assumes nothing.
--
--   count-by-value                  the count of a float, by any fraction that it is
--   fields_value                    the fraction that a float's fields stand for, in units of 2^-149
--   fields-top, field-below         the highest field is an infinity's or a NaN's, so that a finite float's is below it
--   countable-..                    what the test "at least zero" tells: a finite one that passes can be counted, one that fails cannot
--   bits-counted                    what the code reads off the bits is the float's count
--   infinite-uncounted, test-uncounted   the tests that fail
--   shr-or, shl-or                  a shift of 64 places or more
--   size-..                         m × 2^k of the smallest values, scaled: for k below 149, and from there on
--   counted-le, count-le, limit-le  no count is above the ceiling, neither what an entry counts as nor its limit's
use mathlib.Core.Bool.{Bool, true, false, cond, ◌&&◌, ◌||◌}
use mathlib.Core.Path.{◌≡◌, refl, sym, ap, ◌∙◌, subst}
use Prim.Native.Nat.{ℕ, zero, suc, ◌+◌, ◌-◌, ◌*◌, ◌/◌, ◌%◌, ◌^◌, ◌≤◌, ◌<◌, zero-le}
use native.Mathlib.Nat.{le-mul_of_pos_right, mul-one, zero-mul, mul_right_comm, mul_assoc}
use native.Mathlib.Nat.{div-eq_of_lt, mod-eq_of_lt, mul-div_cancel, lt_of_lt_of_le, mul-le-mul_right, zero-lt-suc}
use native.Mathlib.Omega.{arith}
use lib.Dec.{T, eqb, leb, eqb→eq}
use lib.IntN.{ℤ, pos}
use lib.Pow.{pow_pos, pow-add, pow_mono}
use lib.Ieee.{Float, nan, inf, fin, up, down, binary32, fits, of_bits, of_fields, odd, to_bits, le, lt, eq}
use lib.Ieee.Bits.{of_bits-to_bits, is_true}
use lib.Ieee.Exact.{HasValue, odd_sign}
use lib.Ieee.Fits.{up_pos, down_pos}
use lib.Ieee.Nearest.{div_same}
use lib.Ieee.Order.{le_of_values}
use borrow.Author.Tests.{leb-true, ne_eqb}
use Rattle.std.proofs.lemmas.Bool.{and_parts, true≢false}
use Rattle.std.specs.Prelude.{Option, None, Some, Result, Ok, Err}
use Rattle.std.specs.Option.{SomeIff, unwrap_or}
use Rattle.std.specs.Float.{float_is_finite}
use Rattle.std.specs.Result.{result_map_both}
use Rattle.refusals.specs.declared.Refusal.{Refusal}
use Rattle.refusals.specs.declared.Refusal.TheVariants.{NoAmount, CountAbove}
use Rattle.sheets.specs.declared.finding.Finding.{Finding}
use Rattle.sheets.specs.declared.finding.Finding.TheVariants.{Measured, BelowLimit, NotSampled}
use Rattle.sheets.specs.Value.{countable, count_of, capped, counted_of, size_of, reading_of, count, limit}
use Rattle.sheets.specs.Sheet.{read_as}

-- ---- the exact value

pub count-by-value : (x : Float) (s : Bool) (a c scale : ℕ) → 0 < c → HasValue x s a c → count_of scale x ≡ a * scale / c
unfolding count_of
count-by-value nan s a c scale h v = absurd v
count-by-value (inf t) s a c scale h v = absurd v
count-by-value (fin t m e) s a c scale h v =
    div_same (m * up e * scale) (down e) (a * scale) c (down_pos e) h
    (mul_right_comm (m * up e) scale c ∙ ap (λ (n : ℕ). n * scale) v.1 ∙ mul_right_comm a (down e) scale)

-- a field above 0 has the leading digit
size-suc : (x t : ℕ) → size_of (suc x) t ≡ (8388608 + t) * 2 ^ x
size-suc x t = rw (ne_eqb (suc x) 0 (omega arith)) (ap (λ (k : ℕ). (8388608 + t) * 2 ^ k) (omega arith))

pub fields_value : (s : Bool) (field digits : ℕ) → field < 255
    → HasValue (of_fields binary32 s field digits) s (size_of field digits) (2 ^ 149)
unfolding of_fields
fields_value s zero t h = subst (λ (n : ℕ). HasValue (odd 24 s t 0 149) s n (2 ^ 149)) (mul-one t) (odd_sign 24 s t 0 149)
fields_value s (suc x) t h =
    rw (ne_eqb (suc x) 255 (omega arith))
    (subst (λ (n : ℕ). HasValue (odd 24 s (8388608 + t) x 149) s n (2 ^ 149)) (sym (size-suc x t)) (odd_sign 24 s (8388608 + t) x 149))

fields-top : (s : Bool) (field digits : ℕ) → field ≡ 255 → float_is_finite (of_fields binary32 s field digits) ≡ false
unfolding of_fields float_is_finite
fields-top s field t e = rw e (go (eqb t 0))
  where
    go : (b : Bool) → float_is_finite (cond b (inf s) nan) ≡ false
    go true = refl
    go false = refl

-- ---- the test "at least zero"

abbrev zero_float : Float
zero_float = fin false 0 (pos 0)

-- a product with a factor that is not zero
no-product : (m u : ℕ) → 0 < u → m * u ≡ 0 → m ≡ 0
no-product m u h e = omega (arith, le-mul_of_pos_right m h)

-- minus zero is level with zero, and no other negative number is
level-zero : (a b : ℕ) → (eqb a b && (false || eqb a 0)) ≡ true → b ≡ 0
level-zero a b e =
    let p = and_parts (eqb a b) (eqb a 0) e in
    sym (eqb→eq a b (subst T (sym p.0) tt)) ∙ eqb→eq a 0 (subst T (sym p.1) tt)

pub countable-passed : (x : Float) (s : Bool) (a c : ℕ) → HasValue x s a c → le zero_float x ≡ true → countable x ≡ true
unfolding countable le lt eq
countable-passed nan s a c v e = absurd v
countable-passed (inf t) s a c v e = absurd v
countable-passed (fin false m z) s a c v e = refl
countable-passed (fin true m z) s a c v e =
    rw (no-product m (up z) (up_pos z) (sym (mul-one (m * up z)) ∙ level-zero (0 * 1 * down z) (m * up z * 1) e))

minus-zero : (z : ℤ) → le zero_float (fin true 0 z) ≡ true
unfolding le lt eq
minus-zero z = rw (zero-mul (down z), zero-mul (up z)) refl

pub countable-failed : (x : Float) → le zero_float x ≡ false → countable x ≡ false
unfolding countable
countable-failed nan e = refl
countable-failed (inf t) e = refl
countable-failed (fin false m z) e =
    let none : 0 * down z ≤ m * up z * 1 = rw (zero-mul (down z)) zero-le in
    let t = le_of_values zero_float (fin false m z) 0 1 (m * up z) (down z) (zero-lt-suc 0) (down_pos z) (refl, refl) (refl, refl) none in
    absurd (true≢false (sym (is_true _ t) ∙ e))
countable-failed (fin true zero z) e = absurd (true≢false (sym (minus-zero z) ∙ e))
countable-failed (fin true (suc m) z) e = ne_eqb (suc m) 0 (omega arith)

-- ---- off the bits

-- the fields of a float's bits are the float's
bits-fields : (x : Float) → T (fits binary32 x)
    → let b = to_bits binary32 x in x ≡ of_fields binary32 (leb 2147483648 b) (b % 2147483648 / 8388608) (b % 8388608)
unfolding of_bits
bits-fields x h = sym (of_bits-to_bits binary32 x h)

pub bits-counted : (x : Float) (scale ceiling : ℕ) → T (fits binary32 x) → le zero_float x ≡ true
    → let b = to_bits binary32 x in b % 2147483648 / 8388608 < 255
    → capped ceiling (size_of (b % 2147483648 / 8388608) (b % 8388608) * scale / 2 ^ 149) ≡ counted_of scale ceiling x
unfolding counted_of
bits-counted x scale ceiling h p l =
    let b = to_bits binary32 x in
    let s = leb 2147483648 b in
    let field = b % 2147483648 / 8388608 in
    let digits = b % 8388608 in
    let v = subst (λ (y : Float). HasValue y s (size_of field digits) (2 ^ 149)) (sym (bits-fields x h)) (fields_value s field digits l) in
    rw (countable-passed x s (size_of field digits) (2 ^ 149) v p)
    (ap (capped ceiling) (sym (count-by-value x s (size_of field digits) (2 ^ 149) scale (pow_pos 149) v)))

pub field-below : (x : Float) → T (fits binary32 x) → float_is_finite x ≡ true → to_bits binary32 x % 2147483648 / 8388608 < 255
field-below x h p =
    let b = to_bits binary32 x in
    let field = b % 2147483648 / 8388608 in
    let n : field ≡ 255 → ⊥ = λ e. true≢false
    (sym p ∙ ap float_is_finite (bits-fields x h) ∙ fields-top (leb 2147483648 b) field (b % 8388608) e) in
    omega arith

pub infinite-uncounted : (x : Float) (scale ceiling : ℕ) → float_is_finite x ≡ false → Err NoAmount ≡ counted_of scale ceiling x
unfolding counted_of countable float_is_finite
infinite-uncounted nan scale ceiling e = refl
infinite-uncounted (inf s) scale ceiling e = refl
infinite-uncounted (fin s m z) scale ceiling e = absurd (true≢false e)

pub test-uncounted : (x : Float) (scale ceiling : ℕ) → le zero_float x ≡ false → Err NoAmount ≡ counted_of scale ceiling x
unfolding counted_of
test-uncounted x scale ceiling e = rw (countable-failed x e)

-- ---- shifts

pub shifted_none : (n by : ℕ) → n < 18446744073709551616 → 64 ≤ by → 0 ≡ n / 2 ^ by
shifted_none n by h l = sym (div-eq_of_lt (lt_of_lt_of_le h (pow_mono l)))

-- a shift of 64 places or more leaves nothing
pub shr-or : (o : Option ℕ) (n by : ℕ) → SomeIff o (by < 64) (n / 2 ^ by) → n < 18446744073709551616 → unwrap_or o 0 ≡ n / 2 ^ by
shr-or None n by h l = shifted_none n by l (omega arith)
shr-or (Some x) n by h l = h.1

pub shl-or : (o : Option ℕ) (n by : ℕ) → SomeIff o (by < 64) (n * 2 ^ by % 18446744073709551616) → n * 2 ^ by < 18446744073709551616
    → unwrap_or o 0 ≡ n * 2 ^ by
shl-or None zero by h l = sym (zero-mul (2 ^ by))
shl-or None (suc n) by h l =
    let far : 2 ^ 64 ≤ 2 ^ by = let e : 64 ≤ by = omega arith in pow_mono e in
    let more : 1 * 2 ^ by ≤ suc n * 2 ^ by = mul-le-mul_right (2 ^ by) (omega arith) in
    absurd (omega arith)
shl-or (Some x) n by h l = h.1 ∙ mod-eq_of_lt l

-- m × 2^k of the smallest values, scaled
pub size-down : (m k scale : ℕ) → k < 149 → m * scale / 2 ^ (149 - k) ≡ m * 2 ^ k * scale / 2 ^ 149
size-down m k scale h =
    let e : 149 ≡ k + (149 - k) = omega arith in
    div_same (m * scale) (2 ^ (149 - k)) (m * 2 ^ k * scale) (2 ^ 149) (pow_pos (149 - k)) (pow_pos 149)
    (ap (λ (n : ℕ). m * scale * n) (ap (λ (j : ℕ). 2 ^ j) e ∙ pow-add 2 k (149 - k))
    ∙ sym (mul_assoc (m * scale) (2 ^ k) (2 ^ (149 - k)))
    ∙ ap (λ (n : ℕ). n * 2 ^ (149 - k)) (mul_right_comm m scale (2 ^ k)))

pub size-up : (m k scale : ℕ) → 149 ≤ k → m * scale * 2 ^ (k - 149) ≡ m * 2 ^ k * scale / 2 ^ 149
size-up m k scale h =
    sym (mul-div_cancel (m * scale * 2 ^ (k - 149)) (pow_pos 149))
    ∙ ap (λ (n : ℕ). n / 2 ^ 149)
    (mul_assoc (m * scale) (2 ^ (k - 149)) (2 ^ 149)
    ∙ ap (λ (n : ℕ). m * scale * n) (sym (pow-add 2 (k - 149) 149) ∙ ap (λ (j : ℕ). 2 ^ j) (omega arith))
    ∙ mul_right_comm m scale (2 ^ k))

-- ---- an entry

-- no count is above the ceiling
counted-le : (scale ceiling : ℕ) (x : Float) (n : ℕ) → counted_of scale ceiling x ≡ Ok n → n ≤ ceiling
unfolding counted_of
counted-le scale ceiling x n = go (countable x) (leb (count_of scale x) ceiling) (count_of scale x) (leb-true (count_of scale x) ceiling)
  where
    go : (a b : Bool) (m : ℕ) → (b ≡ true → m ≤ ceiling)
        → cond a (cond b (Ok m) (Err CountAbove)) (Err NoAmount) ≡ Ok n → n ≤ ceiling
    go true true m h e = let q : m ≡ n = cc in omega (arith, h refl)
    go true false m h e = absurd (cc)
    go false b m h e = absurd (cc)

-- nor is what an entry counts as, nor its limit's count
module _ (f : ℕ → Finding ℕ) (g : Finding ℕ → ℕ) (ceiling : ℕ) where
  read-le : ((n : ℕ) → n ≤ ceiling → g (f n) ≤ ceiling) → (r : Result ℕ Refusal) → ((n : ℕ) → r ≡ Ok n → n ≤ ceiling)
      → read_as g 0 (result_map_both f (λ (e : Refusal). e) r) ≤ ceiling
  read-le h (Ok n) k = h n (k n refl)
  read-le h (Err e) k = zero-le

pub count-le : (scale ceiling : ℕ) (x : Finding Float) → read_as count 0 (reading_of scale ceiling x) ≤ ceiling
count-le scale ceiling (Measured x) = read-le Measured count ceiling (λ n h. h) _ (counted-le scale ceiling x)
count-le scale ceiling (BelowLimit x) = read-le BelowLimit count ceiling (λ n h. zero-le) _ (counted-le scale ceiling x)
count-le scale ceiling NotSampled = zero-le

pub limit-le : (scale ceiling : ℕ) (x : Finding Float) → read_as limit 0 (reading_of scale ceiling x) ≤ ceiling
limit-le scale ceiling (Measured x) = read-le Measured limit ceiling (λ n h. zero-le) _ (counted-le scale ceiling x)
limit-le scale ceiling (BelowLimit x) = read-le BelowLimit limit ceiling (λ n h. h) _ (counted-le scale ceiling x)
limit-le scale ceiling NotSampled = zero-le
