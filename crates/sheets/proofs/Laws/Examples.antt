-- The values of specs/Examples.antt count as the definition says, by computation. Assumes nothing.
use mathlib.Core.Path.{refl}
use lib.Count.{count_trailing_zeros}
use lib.Ieee.{odd, of_fields, of_bits}
use Rattle.sheets.specs.Value.{countable, count_of, counted_of}
use Rattle.sheets.specs.Examples.{ExamplesHold}

pub examples-hold : ExamplesHold
unfolding count_trailing_zeros odd of_fields of_bits countable count_of counted_of
examples-hold = refl
