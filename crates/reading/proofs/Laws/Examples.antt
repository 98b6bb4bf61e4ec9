-- The lines of specs/Examples.antt are read as the table says, by computation. Assumes nothing.
use mathlib.Core.Path.{refl}
use Rattle.reading.specs.Text.{same_bytes, look_up, up_to, behind, on_first, pieces}
use Rattle.reading.specs.Number.{all_digits, value_after, leads, read_after, read_number}
use Rattle.reading.specs.Names.{column_from}
use Rattle.reading.specs.Form.{read_field, read_piece, add_field, read_pieces, from_fields, rises}
use Rattle.reading.specs.Form.{numbered_by, form_of}
use Rattle.reading.specs.Line.{in_brackets, call_by, is_preview, read_line}
use Rattle.reading.specs.Examples.{ExamplesHold}

infixr 20 ◌also◌
◌also◌ : {A B : Type 0} → A → B → A × B
a also b = (a, b)

pub examples-hold : ExamplesHold
unfolding same_bytes look_up up_to behind on_first pieces all_digits value_after leads read_after read_number column_from
    read_field read_piece add_field read_pieces from_fields rises numbered_by form_of in_brackets call_by is_preview read_line
examples-hold =
    refl also refl also refl also refl also refl also refl also refl also refl also refl also refl also refl also refl
    also
    refl also refl also refl also refl also refl also refl also refl also refl also refl also refl also refl also refl
    also
    refl also refl also refl also refl also refl also refl also refl also refl also refl also refl also refl also refl
    also
    refl also refl also refl also refl also refl also refl also refl also refl also refl also refl also refl also refl
    also
    refl also refl also refl also refl also refl also refl also refl also refl also refl also refl also refl also refl
    also
    refl also refl also refl also refl also refl also refl also refl also refl also refl also refl also refl also refl
    also
    refl also refl also refl also refl also refl also refl also refl also refl also refl also refl also refl also refl
    also
    refl also refl also refl also refl also tt
