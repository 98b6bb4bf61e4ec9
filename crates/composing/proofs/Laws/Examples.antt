-- The lines of specs/Examples.antt are those of the definition, by computation. Assumes nothing.
use mathlib.Core.Path.{refl}
use Rattle.reading.specs.Number.{places_from, decimal}
use Rattle.writing.specs.Answer.{column_text, column_or_none, columns_from}
use Rattle.composing.specs.Examples.{ExamplesHold}

pub examples-hold : ExamplesHold
unfolding places_from decimal column_text column_or_none columns_from
examples-hold = refl
