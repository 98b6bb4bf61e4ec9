-- A number and its digits. Assumes nothing.
--
--   value-from, value-first        what digits stand for: behind others, and by the first of them
--   value-below, value-least       it is below a power of ten, and no less than the power before where no 0 leads
--   leads-least, least-leads       no 0 leads exactly where there are as few digits as there can be
--   places-least, decimal-least    a number's digits are as few
--   decimal-read                   they are read as the number
--   value-digits                   digits are those of what they stand for
--   number_is                      bytes that are read as a number
--   decimal-only                   they are the number's digits
use mathlib.Core.Bool.{Bool, true, false, cond, not, ◌&&◌, false≢true}
use mathlib.Core.List.{List, [], ◌∷◌, ◌++◌, append_assoc, append-nil}
use mathlib.Core.Path.{◌≡◌, refl, sym, ap, ap₂, ◌∙◌}
use Prim.Native.Nat.{ℕ, zero, suc, ◌+◌, ◌-◌, ◌*◌, ◌/◌, ◌%◌, ◌^◌, ◌≤◌, ◌<◌}
use native.Mathlib.Nat.{pow-suc, mul_comm, mul_assoc, add-mul, add-zero, zero-add, mul-le-mul_right}
use native.Mathlib.Omega.{arith}
use lib.Dec.{leb, eqb}
use lib.ListN.{length}
use borrow.Author.Tests.{leb-true, le-leb, eqb-true, eqb-false, not-true}
use Rattle.io.specs.Digits.{last_digits, hex_digit_ascii, IsDigitCount}
use Rattle.std.proofs.lemmas.Bool.{and_parts}
use Rattle.std.proofs.lemmas.Option.{none-some}
use Rattle.std.proofs.Common.{Some, None}
use Rattle.reading.specs.Number.{is_digit, all_digits, value_after, leads, largest, read_after, read_number, places_from, decimal}
use Rattle.writing.proofs.Laws.Decimal.{decimal-is, fewest-le, digits-length, decimal-digits, decimal-value, glyph-is}

-- ---- what digits stand for

-- behind digits that stand for n
value-from : (n : ℕ) (s : List ℕ) → value_after n s ≡ n * 10 ^ length s + value_after 0 s
unfolding value_after
value-from n [] = omega arith
value-from n (b ∷ s) =
    let d = b - 48 in
    let p = pow-suc 10 (length s) in
    let here : (n * 10 + d) * 10 ^ length s ≡ n * 10 * 10 ^ length s + d * 10 ^ length s = add-mul (n * 10) d (10 ^ length s) in
    let swap : n * 10 * 10 ^ length s ≡ n * (10 ^ suc (length s)) =
    mul_assoc n 10 (10 ^ length s) ∙ ap (λ (x : ℕ). n * x) (mul_comm 10 (10 ^ length s) ∙ sym p) in
    omega (arith, value-from (n * 10 + d) s, value-from (0 * 10 + d) s, here, swap)

digit-is : (b : ℕ) → is_digit b ≡ true → (48 ≤ b) × (b ≤ 57)
digit-is b e = let c = and_parts (leb 48 b) (leb b 57) e in (leb-true 48 b c.0, leb-true b 57 c.1)

-- the first digit, and the others
value-first : (b : ℕ) (s : List ℕ) → value_after 0 (b ∷ s) ≡ (b - 48) * 10 ^ length s + value_after 0 s
unfolding value_after
value-first b s = value-from (0 * 10 + (b - 48)) s ∙ ap (λ (d : ℕ). d * 10 ^ length s + value_after 0 s) first
  where
    first : 0 * 10 + (b - 48) ≡ b - 48
    first = omega arith

value-below : (s : List ℕ) → all_digits s ≡ true → value_after 0 s < 10 ^ length s
unfolding all_digits value_after
value-below [] e = omega arith
value-below (b ∷ s) e =
    let c = and_parts (is_digit b) (all_digits s) e in
    let d = digit-is b c.0 in
    let h : b - 48 ≤ 9 = omega arith in
    omega (arith, value-first b s, value-below s c.1, mul-le-mul_right (10 ^ length s) h, pow-suc 10 (length s))

-- where the first digit is not 0
value-least : (b : ℕ) (s : List ℕ) → is_digit b ≡ true → eqb b 48 ≡ false → 10 ^ length s ≤ value_after 0 (b ∷ s)
value-least b s e z =
    let d = digit-is b e in
    let n : b ≡ 48 → ⊥ = eqb-false b 48 z in
    let h : 1 ≤ b - 48 = omega arith in
    omega (arith, value-first b s, mul-le-mul_right (10 ^ length s) h)

-- ---- as few digits as there can be

-- one digit less
power-before : (b : ℕ) (s : List ℕ) → 10 ^ (length (b ∷ s) - 1) ≡ 10 ^ length s
power-before b s = ap (λ (k : ℕ). 10 ^ k) before
  where
    before : suc (length s) - 1 ≡ length s
    before = omega arith

leads-least : (s : List ℕ) → all_digits s ≡ true → leads s ≡ true → IsDigitCount 10 1 (value_after 0 s) (length s)
unfolding all_digits leads
leads-least [] e l = absurd (false≢true l)
leads-least (b ∷ []) e l = (omega arith, value-below (b ∷ []) e, λ h. absurd (omega arith))
leads-least (b ∷ (c ∷ s)) e l =
    let d = (and_parts (is_digit b) (all_digits (c ∷ s)) e).0 in
    let h = value-least b (c ∷ s) d (not-true (eqb b 48) l) in
    (omega arith, value-below (b ∷ (c ∷ s)) e, λ k. omega (arith, power-before b (c ∷ s), h))

least-leads : (s : List ℕ) → all_digits s ≡ true → IsDigitCount 10 1 (value_after 0 s) (length s) → leads s ≡ true
unfolding all_digits leads value_after
least-leads [] e f = absurd (omega (arith, f.0))
least-leads (b ∷ []) e f = refl
least-leads (b ∷ (c ∷ s)) e f = go (eqb b 48) refl
  where
    go : (t : Bool) → eqb b 48 ≡ t → not t ≡ true
    go true z =
        let d = and_parts (is_digit b) (all_digits (c ∷ s)) e in
        let v : value_after 0 (b ∷ (c ∷ s)) ≡ value_after 0 (c ∷ s) =
        ap (λ (x : ℕ). value_after (0 * 10 + (x - 48)) (c ∷ s)) (eqb-true b 48 z) in
        absurd (omega (arith, value-below (c ∷ s) d.1, v, f.2 (omega arith), power-before b (c ∷ s)))
    go false z = refl

-- looked for from m + 1 downwards, the digits of n are as few as there can be
places-least : (m n : ℕ) → 1 < places_from m n → 10 ^ (places_from m n - 1) ≤ n
unfolding places_from
places-least zero n h = absurd (omega arith)
places-least (suc m) n h = go (leb (10 ^ suc m) n) refl h (places-least m n)
  where
    go : (t : Bool) → leb (10 ^ suc m) n ≡ t → 1 < cond t (suc (suc m)) (places_from m n)
        → (1 < places_from m n → 10 ^ (places_from m n - 1) ≤ n) → 10 ^ (cond t (suc (suc m)) (places_from m n) - 1) ≤ n
    go true e k f =
        let q : suc (suc m) - 1 ≡ suc m = omega arith in
        omega (arith, leb-true (10 ^ suc m) n e, ap (λ (j : ℕ). 10 ^ j) q)
    go false e k f = f k

decimal-places : (n : ℕ) → length (decimal n) ≡ places_from 19 n
unfolding decimal
decimal-places n = digits-length (places_from 19 n) n

decimal-least : (n : ℕ) → n ≤ largest → IsDigitCount 10 1 (value_after 0 (decimal n)) (length (decimal n))
decimal-least n h = (d.1, value-below (decimal n) d.0, least)
  where
    d : (all_digits (decimal n) ≡ true) × (1 ≤ length (decimal n))
    d = decimal-digits n

    least : 1 < length (decimal n) → 10 ^ (length (decimal n) - 1) ≤ value_after 0 (decimal n)
    least k =
        let l = decimal-places n in
        omega (arith, places-least 19 n (omega arith), ap (λ (j : ℕ). 10 ^ (j - 1)) l, decimal-value n (omega arith))

-- ---- a number's digits are read as the number

pub decimal-read : (n : ℕ) → n ≤ largest → read_number (decimal n) ≡ Some n
unfolding read_number read_after
decimal-read n h =
    let d = (decimal-digits n).0 in
    simp (least-leads (decimal n) d (decimal-least n h), d, decimal-value n (omega arith), le-leb n largest h)

-- ---- no other bytes are

-- digits behind the j digits of n
value-digits : (j n : ℕ) (s : List ℕ) → all_digits s ≡ true → last_digits 10 (j + length s) (value_after n s) ≡ last_digits 10 j n ++ s
unfolding all_digits value_after
value-digits j n [] e = rw add-zero (sym (append-nil (last_digits 10 j n)))
value-digits j n (b ∷ s) e =
    ap (λ (k : ℕ). last_digits 10 k (value_after m s)) place
    ∙ value-digits (suc j) m s c.1
    ∙ append_assoc (last_digits 10 j (m / 10)) (hex_digit_ascii (m % 10) ∷ []) s
    ∙ ap₂ (λ (x y : ℕ). last_digits 10 j x ++ (y ∷ s)) before last
  where
    m : ℕ
    m = n * 10 + (b - 48)

    c : (is_digit b ≡ true) × (all_digits s ≡ true)
    c = and_parts (is_digit b) (all_digits s) e

    place : j + suc (length s) ≡ suc j + length s
    place = omega arith

    before : m / 10 ≡ n
    before = let d = digit-is b c.0 in omega arith

    last : hex_digit_ascii (m % 10) ≡ b
    last =
        let d = digit-is b c.0 in
        let r : m % 10 ≡ b - 48 = omega arith in
        glyph-is (m % 10) (omega arith) ∙ omega arith

-- what is read as a number
number_is : (s : List ℕ) (n : ℕ) → read_number s ≡ Some n
    → (leads s ≡ true) × (all_digits s ≡ true) × (value_after 0 s ≡ n) × (n ≤ largest)
unfolding read_number read_after
number_is s n e = go (leads s) (all_digits s && leb (value_after 0 s) largest) refl refl e
  where
    go : (a b : Bool) → leads s ≡ a → (all_digits s && leb (value_after 0 s) largest) ≡ b
        → cond a (cond b (Some (value_after 0 s)) None) None ≡ Some n
        → (leads s ≡ true) × (all_digits s ≡ true) × (value_after 0 s ≡ n) × (n ≤ largest)
    go true true p q r =
        let c = and_parts (all_digits s) _ q in
        let v : value_after 0 s ≡ n = cc in
        (p, c.0, v, omega (arith, leb-true (value_after 0 s) largest c.1))
    go true false p q r = absurd (none-some _ r)
    go false b p q r = absurd (none-some _ r)

pub decimal-only : (s : List ℕ) (n : ℕ) → read_number s ≡ Some n → s ≡ decimal n
decimal-only s n e =
    let i = number_is s n e in
    let v = i.2 in
    let f = leads-least s i.1 i.0 in
    let g : IsDigitCount 10 1 n (length s) = rw v at f in
    sym (value-digits 0 0 s i.1)
    ∙ ap₂ (λ (k m : ℕ). last_digits 10 k m) (zero-add (length s)) v
    ∙ decimal-is n (length s) (fewest-le n (length s) (omega (arith, i.3)) g) g
