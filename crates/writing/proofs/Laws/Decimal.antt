-- Laws of writing numbers. Assumes nothing.
--
--   decimal-is       the kit's digits, as few as there can be, are a number's digits
--   fewest-le        there are at most twenty of them
--   digits-length    so many digits as are asked for
--   decimal-length   there are at most twenty
--   glyph-is         the byte of a digit
--   decimal-digits   they are digits, and there is one
--   decimal-value    they stand for the number
use mathlib.Core.Bool.{Bool, true, false, cond}
use mathlib.Core.List.{List, [], ◌∷◌, ◌++◌}
use mathlib.Core.Path.{◌≡◌, refl, sym, ap, subst, ◌∙◌}
use Prim.Native.Nat.{ℕ, zero, suc, ◌+◌, ◌-◌, ◌*◌, ◌/◌, ◌%◌, ◌^◌, ◌≤◌, ◌<◌}
use native.Mathlib.Nat.{pow-le-pow_right, div-lt_iff_lt-mul, zero-lt-suc, pow-suc, mod-lt, mod-add-div}
use native.Mathlib.Omega.{arith}
use lib.Dec.{leb}
use lib.ListN.{length, length-append}
use borrow.Author.Tests.{leb-true, leb-false, le-leb, lt-ltb}
use Rattle.io.specs.Digits.{last_digits, hex_digit_ascii, IsDigitCount}
use Rattle.std.proofs.lemmas.Bool.{and_parts}
use Rattle.reading.specs.Number.{is_digit, all_digits, value_after, places_from, decimal}

-- a number of more than m + 1 digits has no fewer than m + 2
more-places : (m n k : ℕ) → k ≤ suc (suc m) → n < 10 ^ k → 10 ^ suc m ≤ n → suc (suc m) ≡ k
more-places m n k b h g = go (leb k (suc m)) refl
  where
    go : (t : Bool) → leb k (suc m) ≡ t → suc (suc m) ≡ k
    go true e = absurd (omega (arith, pow-le-pow_right {n = 10} (omega arith) (leb-true k (suc m) e)))
    go false e = omega (arith, leb-false k (suc m) e)

-- and one of fewer has no more than m + 1
fewer-places : (m n k : ℕ) → 1 ≤ k → k ≤ suc (suc m) → (1 < k → 10 ^ (k - 1) ≤ n) → n < 10 ^ suc m → k ≤ suc m
fewer-places m n k a b l g = go (leb k (suc m)) refl
  where
    go : (t : Bool) → leb k (suc m) ≡ t → k ≤ suc m
    go true e = leb-true k (suc m) e
    go false e =
        let h : suc m < k = leb-false k (suc m) e in
        let p : k - 1 ≡ suc m = omega arith in
        absurd (omega (arith, l (omega arith), ap (λ (j : ℕ). 10 ^ j) p))

places_is : (m n k : ℕ) → 1 ≤ k → k ≤ suc m → n < 10 ^ k → (1 < k → 10 ^ (k - 1) ≤ n) → places_from m n ≡ k
unfolding places_from
places_is zero n k a b h l = omega arith
places_is (suc m) n k a b h l = go (leb (10 ^ suc m) n) refl (λ c. places_is m n k a c h l)
  where
    go : (t : Bool) → leb (10 ^ suc m) n ≡ t → (k ≤ suc m → places_from m n ≡ k) → cond t (suc (suc m)) (places_from m n) ≡ k
    go true e f = more-places m n k b h (leb-true (10 ^ suc m) n e)
    go false e f = f (fewer-places m n k a b l (leb-false (10 ^ suc m) n e))

-- a number of the code has at most twenty digits
pub fewest-le : (n k : ℕ) → n < 18446744073709551616 → IsDigitCount 10 1 n k → k ≤ 20
fewest-le n k h f = go (leb k 20) refl
  where
    go : (t : Bool) → leb k 20 ≡ t → k ≤ 20
    go true e = leb-true k 20 e
    go false e =
        let g : 20 < k = leb-false k 20 e in
        absurd (omega (arith, f.2 (omega arith), pow-le-pow_right {n = 10} (omega arith) {i = 20} {j = k - 1} (omega arith)))

pub decimal-is : (n k : ℕ) → k ≤ 20 → IsDigitCount 10 1 n k → last_digits 10 k n ≡ decimal n
unfolding decimal
decimal-is n k h f = ap (λ (j : ℕ). last_digits 10 j n) (sym (places_is 19 n k f.0 h f.1 f.2))

-- ---- lengths

pub digits-length : (k n : ℕ) → length (last_digits 10 k n) ≡ k
digits-length zero n = refl
digits-length (suc k) n = omega (arith, length-append (last_digits 10 k (n / 10)) (hex_digit_ascii (n % 10) ∷ []), digits-length k (n / 10))

places-le : (m n : ℕ) → places_from m n ≤ suc m
unfolding places_from
places-le zero n = omega arith
places-le (suc m) n = go (leb (10 ^ suc m) n) (places-le m n)
  where
    go : (t : Bool) → places_from m n ≤ suc m → cond t (suc (suc m)) (places_from m n) ≤ suc (suc m)
    go true h = omega arith
    go false h = omega arith

pub decimal-length : (n : ℕ) → length (decimal n) ≤ 20
unfolding decimal
decimal-length n = omega (arith, digits-length (places_from 19 n) n, places-le 19 n)

-- ---- what the digits stand for

both : (s t : List ℕ) → all_digits s ≡ true → all_digits t ≡ true → all_digits (s ++ t) ≡ true
unfolding all_digits
both [] t p q = q
both (b ∷ s) t p q = let c = and_parts (is_digit b) (all_digits s) p in rw c.0 (both s t c.1 q)

value-append : (n : ℕ) (s t : List ℕ) → value_after n (s ++ t) ≡ value_after (value_after n s) t
unfolding value_after
value-append n [] t = refl
value-append n (b ∷ s) t = value-append (n * 10 + (b - 48)) s t

pub glyph-is : (d : ℕ) → d < 10 → hex_digit_ascii d ≡ 48 + d
glyph-is d h = ap (λ t. cond t (48 + d) (87 + d)) (lt-ltb d 10 h)

last-digit : (n : ℕ) → hex_digit_ascii (n % 10) ≡ 48 + n % 10
last-digit n = glyph-is (n % 10) (mod-lt n (omega arith))

digit-all : (d : ℕ) → d < 10 → all_digits ((48 + d) ∷ []) ≡ true
unfolding all_digits
digit-all d h = simp (le-leb 48 (48 + d) (omega arith), le-leb (48 + d) 57 (omega arith))

digits-all : (k n : ℕ) → all_digits (last_digits 10 k n) ≡ true
unfolding all_digits
digits-all zero n = refl
digits-all (suc k) n =
    both (last_digits 10 k (n / 10)) (hex_digit_ascii (n % 10) ∷ []) (digits-all k (n / 10))
    (ap (λ (b : ℕ). all_digits (b ∷ [])) (last-digit n) ∙ digit-all (n % 10) (mod-lt n (omega arith)))

digits_value : (k n : ℕ) → n < 10 ^ k → value_after 0 (last_digits 10 k n) ≡ n
unfolding value_after
digits_value zero n h = omega arith
digits_value (suc k) n h =
    let below = (div-lt_iff_lt-mul (zero-lt-suc 9)).1 (subst (λ (x : ℕ). n < x) (pow-suc 10 k) h) in
    let i : value_after 0 (last_digits 10 k (n / 10)) ≡ n / 10 = digits_value k (n / 10) below in
    value-append 0 (last_digits 10 k (n / 10)) (hex_digit_ascii (n % 10) ∷ [])
    ∙ ap (λ (m : ℕ). m * 10 + (hex_digit_ascii (n % 10) - 48)) i
    ∙ ap (λ (g : ℕ). n / 10 * 10 + (g - 48)) (last-digit n)
    ∙ omega (arith, mod-add-div n 10)

places-most : (m n : ℕ) → n < 10 ^ suc m → n < 10 ^ places_from m n
unfolding places_from
places-most zero n h = h
places-most (suc m) n h = go (leb (10 ^ suc m) n) refl (places-most m n)
  where
    go : (t : Bool) → leb (10 ^ suc m) n ≡ t → (n < 10 ^ suc m → n < 10 ^ places_from m n) → n < 10 ^ cond t (suc (suc m)) (places_from m n)
    go true e f = h
    go false e f = f (leb-false (10 ^ suc m) n e)

places-one : (m n : ℕ) → 1 ≤ places_from m n
unfolding places_from
places-one zero n = omega arith
places-one (suc m) n = go (leb (10 ^ suc m) n) (places-one m n)
  where
    go : (t : Bool) → 1 ≤ places_from m n → 1 ≤ cond t (suc (suc m)) (places_from m n)
    go true h = omega arith
    go false h = h

pub decimal-digits : (n : ℕ) → (all_digits (decimal n) ≡ true) × (1 ≤ length (decimal n))
unfolding decimal
decimal-digits n = (digits-all (places_from 19 n) n, omega (arith, digits-length (places_from 19 n) n, places-one 19 n))

pub decimal-value : (n : ℕ) → n < 10 ^ 20 → value_after 0 (decimal n) ≡ n
unfolding decimal
decimal-value n h = digits_value (places_from 19 n) n (places-most 19 n h)
