-- Laws of reading numbers. Assumes nothing.
--
--   other-at, large-at, digit_at          one turn of a loop over digits that stand at i
--   digits-end                            its end
--   number-empty, number-zero, number-led how a number begins
use mathlib.Core.Bool.{true, false, and-false}
use mathlib.Core.List.{List, [], ◌∷◌}
use mathlib.Core.Logic.{◌⊎◌, inl, inr}
use mathlib.Core.Path.{◌≡◌, refl, sym, ap, ◌∙◌}
use Prim.Native.Nat.{ℕ, ◌+◌, ◌-◌, ◌*◌, ◌≤◌, ◌<◌}
use native.Mathlib.Nat.{le_refl, le_trans, lt_of_lt_of_le}
use native.Mathlib.Omega.{arith}
use lib.ListN.{length, drop, get_or, drop_of_length-le}
use borrow.Author.Tests.{lt-leb, le-leb, eq-eqb, ne_eqb}
use Rattle.std.proofs.Common.{Some, None}
use Rattle.std.proofs.lemmas.List.{drop_more}
use Rattle.reading.specs.Number.{is_digit, all_digits, value_after, leads, largest, read_after, read_number}

-- a further digit makes no number smaller
value_grows : (s : List ℕ) (n : ℕ) → n ≤ value_after n s
unfolding value_after
value_grows [] n = le_refl n
value_grows (b ∷ s) n = le_trans (omega arith) (value_grows s (n * 10 + (b - 48)))

module _ (n b : ℕ) (t : List ℕ) where
  other : is_digit b ≡ false → read_after n (b ∷ t) ≡ None
  unfolding read_after all_digits value_after
  other h = rw h

  large : largest < n * 10 + (b - 48) → read_after n (b ∷ t) ≡ None
  unfolding read_after all_digits value_after
  large h = simp (lt-leb (value_after (n * 10 + (b - 48)) t) largest (lt_of_lt_of_le h (value_grows t (n * 10 + (b - 48)))), and-false)

  digit : is_digit b ≡ true → read_after n (b ∷ t) ≡ read_after (n * 10 + (b - 48)) t
  unfolding read_after all_digits value_after
  digit h = rw h

module _ (s : List ℕ) (n i : ℕ) (h : i < length s) where
  pub other-at : is_digit (get_or s i 0) ≡ false → read_after n (drop i s) ≡ None
  other-at k = ap (read_after n) (drop_more s i 0 h) ∙ other n (get_or s i 0) (drop (i + 1) s) k

  pub large-at : largest < n * 10 + (get_or s i 0 - 48) → read_after n (drop i s) ≡ None
  large-at k = ap (read_after n) (drop_more s i 0 h) ∙ large n (get_or s i 0) (drop (i + 1) s) k

  -- m is the number behind it
  pub digit_at : (m : ℕ) → m ≡ n * 10 + (get_or s i 0 - 48) → is_digit (get_or s i 0) ≡ true
      → read_after n (drop i s) ≡ read_after m (drop (i + 1) s)
  digit_at m e k =
      ap (read_after n) (drop_more s i 0 h)
      ∙ digit n (get_or s i 0) (drop (i + 1) s) k
      ∙ ap (λ (j : ℕ). read_after j (drop (i + 1) s)) (sym e)

at-end : (n : ℕ) → n ≤ largest → read_after n [] ≡ Some n
unfolding read_after all_digits value_after
at-end n h = simp (le-leb n largest h)

pub digits-end : (s : List ℕ) (n i : ℕ) → length s ≤ i → n ≤ largest → read_after n (drop i s) ≡ Some n
digits-end s n i h k = ap (read_after n) (drop_of_length-le s h) ∙ at-end n k

pub number-empty : (s : List ℕ) → length s ≡ 0 → read_number s ≡ None
unfolding read_number leads
number-empty [] h = refl
number-empty (b ∷ s) h = absurd (omega arith)

pub number-zero : (s : List ℕ) → get_or s 0 0 ≡ 48 → 1 < length s → read_number s ≡ None
unfolding read_number leads
number-zero [] h k = refl
number-zero (b ∷ []) h k = absurd (omega arith)
number-zero (b ∷ (a ∷ s)) h k = simp (eq-eqb b 48 h)

pub number-led : (s : List ℕ) → (length s ≡ 0 → ⊥) → (get_or s 0 0 ≡ 48 → ⊥) ⊎ (length s ≤ 1) → read_number s ≡ read_after 0 s
unfolding read_number leads
number-led [] h k = absurd (h refl)
number-led (b ∷ []) h k = refl
number-led (b ∷ (a ∷ s)) h (inl k) = simp (ne_eqb b 48 k)
number-led (b ∷ (a ∷ s)) h (inr k) = absurd (omega arith)
