-- One entry of a laboratory sheet: document 02, E6.
--
--   Finding      the enum of the code: a measured value, a result below a detection limit with that limit, or not sampled; of values as
--                they are sent, and of counts
--   countable    whether a value or a limit can be counted: it is finite and not negative, and minus zero counts as zero
--   count_of     the floor of its exact value times a scale
--   counted_of   its count, or its refusal, 13 or 14
--   size_of      a step on the code's way: the size of a float in units of the smallest, 2^-149, by its two fields
--   reading_of   what an entry comes to: the same entry by its count, or the refusal
--   count        what a reading counts as
--   limit        the count of its limit
--   missing      whether it was not sampled
--
-- An f32 is `nan`, `inf s` or `fin s m e`, which is exactly m × 2^e, negative where s is true; 2^e is up e / down e (lib.Ieee).
use Rattle.std.specs.Prelude.{Bool, true, false, cond, not, ◌||◌, ℕ, ◌+◌, ◌-◌, ◌*◌, ◌/◌, ◌^◌, eqb, leb, Float, Result, Ok, Err}
use Rattle.std.specs.Float.{nan, inf, fin}
use Rattle.std.specs.Float.Ieee.{up, down}
use Rattle.std.specs.Result.{result_map_both}
use Rattle.refusals.specs.declared.Refusal.{Refusal}
use Rattle.refusals.specs.declared.Refusal.TheVariants.{NoAmount, CountAbove}
use Rattle.sheets.specs.declared.finding.Finding.{Finding}
use Rattle.sheets.specs.declared.finding.Finding.TheVariants.{Measured, BelowLimit, NotSampled}

unfoldable pub countable : Float → Bool
countable nan = false
countable (inf s) = false
countable (fin s m e) = not s || eqb m 0

-- of a value that cannot be counted nobody asks
unfoldable pub count_of : ℕ → Float → ℕ
count_of scale nan = 0
count_of scale (inf s) = 0
count_of scale (fin s m e) = m * up e * scale / down e

abbrev pub capped : ℕ → ℕ → Result ℕ Refusal
capped ceiling n = cond (leb n ceiling) (Ok n) (Err CountAbove)

-- 13 where it cannot be counted, 14 where its count is above the ceiling
unfoldable pub counted_of : ℕ → ℕ → Float → Result ℕ Refusal
counted_of scale ceiling x = cond (countable x) (capped ceiling (count_of scale x)) (Err NoAmount)

-- a field of 0 has no leading digit, and counts as a field of 1 (lib.Ieee, of_fields)
abbrev pub size_of : ℕ → ℕ → ℕ
size_of field digits = cond (eqb field 0) digits ((8_388_608 + digits) * 2 ^ (field - 1))

abbrev pub reading_of : ℕ → ℕ → Finding Float → Result (Finding ℕ) Refusal
reading_of scale ceiling (Measured x) = result_map_both Measured (λ r. r) (counted_of scale ceiling x)
reading_of scale ceiling (BelowLimit x) = result_map_both BelowLimit (λ r. r) (counted_of scale ceiling x)
reading_of scale ceiling NotSampled = Ok NotSampled

-- a result below its limit counts as zero, and so does an entry that was not sampled
abbrev pub count : Finding ℕ → ℕ
count (Measured n) = n
count (BelowLimit n) = 0
count NotSampled = 0

abbrev pub limit : Finding ℕ → ℕ
limit (Measured n) = 0
limit (BelowLimit n) = n
limit NotSampled = 0

abbrev pub missing : Finding ℕ → Bool
missing (Measured n) = false
missing (BelowLimit n) = false
missing NotSampled = true
