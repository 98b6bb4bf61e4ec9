-- Numbers: document 01, "Lines in brackets": decimal without leading zeros, at most 2^64 − 1.
--
--   read_number   the number that bytes stand for, or none
--   decimal       a number's digits; those of a number below 10^20, as every number of the code is
use Rattle.std.specs.Prelude.{Bool, true, false, cond, not, ◌&&◌, Option, Some, None, List, [], ◌∷◌, ℕ, zero, suc, ◌+◌, ◌-◌, ◌*◌, ◌^◌}
use Rattle.std.specs.Prelude.{leb, eqb}
use Rattle.io.specs.Digits.{last_digits}

-- ---- reading

abbrev pub is_digit : ℕ → Bool
is_digit b = leb 48 b && leb b 57

unfoldable pub all_digits : List ℕ → Bool
all_digits [] = true
all_digits (b ∷ s) = is_digit b && all_digits s

-- the number that the digits s stand for, after digits that stand for n
unfoldable pub value_after : ℕ → List ℕ → ℕ
value_after n [] = n
value_after n (b ∷ s) = value_after (n * 10 + (b - 48)) s

-- there is a digit, and 0 leads only by itself
unfoldable pub leads : List ℕ → Bool
leads [] = false
leads (b ∷ []) = true
leads (b ∷ (c ∷ s)) = not (eqb b 48)

abbrev pub largest : ℕ
largest = 18_446_744_073_709_551_615

-- digits and no more than 2^64 − 1, after digits that stand for n
unfoldable pub read_after : ℕ → List ℕ → Option ℕ
read_after n s = cond (all_digits s && leb (value_after n s) largest) (Some (value_after n s)) None

unfoldable pub read_number : List ℕ → Option ℕ
read_number s = cond (leads s) (read_after 0 s) None

-- ---- writing

-- how many digits n has, looked for from k + 1 downwards
unfoldable pub places_from : ℕ → ℕ → ℕ
places_from zero n = 1
places_from (suc k) n = cond (leb (10 ^ suc k) n) (suc (suc k)) (places_from k n)

unfoldable pub decimal : ℕ → List ℕ
decimal n = last_digits 10 (places_from 19 n) n
