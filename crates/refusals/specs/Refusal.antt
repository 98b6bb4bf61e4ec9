-- Refusals: document 01, "What the link sends away", and document 02, E6 to E10 and E12.
--
--   Refusal     the enum of the code
--   number      its number in the table
--   number_of   the same, and 0 where there is none
--   table       the refusals that the table has
--   of_number   the table's refusal of a number, and Other where it has none
--   in_table    whether a refusal is the table's
use Rattle.std.specs.Prelude.{Bool, true, false, cond, ℕ, eqb, List, [], ◌∷◌, Option, None, Some}
use Rattle.refusals.specs.declared.Refusal.{Refusal}
use Rattle.refusals.specs.declared.Refusal.TheVariants.{RecordAbove, NotThousandths, ColumnAbove, FeedShort, ReturnShort, CodOpen}
use Rattle.refusals.specs.declared.Refusal.TheVariants.{TknOpen, CarriedOpen, TankAbove, NoForm, ShortBuffer, NoAmount}
use Rattle.refusals.specs.declared.Refusal.TheVariants.{CountAbove, NotPermitted, NoBlend, Other}

abbrev pub number : Refusal → ℕ
number RecordAbove = 1  -- a column of the record is above its ceiling
number NotThousandths = 2  -- k is not 1 to 1000
number ColumnAbove = 3  -- a column that is received, accepted or proposed, or nitrite (E12), is above its ceiling
number FeedShort = 4  -- inert nitrogen is short on feed
number ReturnShort = 5  -- and on return
-- 6 was document 01's for burnt COD above A, and is not used again: no feed burns more than A (E8; BurntLaw of interface)
number CodOpen = 7  -- the proposal's COD is open
number TknOpen = 8  -- its TKN differs
number CarriedOpen = 9  -- co or cn differs
number TankAbove = 10  -- a column of the destination would pass its ceiling
number NoForm = 11  -- a line is no form
number ShortBuffer = 12  -- the buffer is under 512 bytes for an answer, or under 1,025 for a line (E5)
number NoAmount = 13  -- E6: a value is negative, infinite or no number
number CountAbove = 14  -- E6: a count is above its column's ceiling
number NotPermitted = 15  -- E7: the figures are no permitted set
number NoBlend = 16  -- E10: not one to eight loads, or not thirteen columns for each k
number (Other n) = n

abbrev pub number_of : Option Refusal → ℕ
number_of None = 0
number_of (Some r) = number r

abbrev pub table : List Refusal
table =
    RecordAbove ∷ NotThousandths ∷ ColumnAbove ∷ FeedShort ∷ ReturnShort ∷ CodOpen ∷ TknOpen ∷ CarriedOpen ∷ TankAbove
    ∷ NoForm ∷ ShortBuffer ∷ NoAmount ∷ CountAbove ∷ NotPermitted ∷ NoBlend ∷ []

abbrev pub found_in : List Refusal → ℕ → Refusal
found_in [] n = Other n
found_in (r ∷ rs) n = cond (eqb n (number r)) r (found_in rs n)

abbrev pub of_number : ℕ → Refusal
of_number n = found_in table n

abbrev pub in_table : Refusal → Bool
in_table (Other n) = false
in_table r = true
