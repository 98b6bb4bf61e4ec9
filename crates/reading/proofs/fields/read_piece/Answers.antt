-- `reading::fields::read_piece` meets its contract. Assumes nothing.
use mathlib.Core.List.{List}
use mathlib.Core.Path.{ap, ◌∙◌}
use Prim.Native.Nat.{ℕ}
use Rattle.reading.specs.Names.{unpadded_all}
use Rattle.reading.specs.Form.{read_field, field_from}
use Rattle.reading.proofs.Laws.Form.{piece-none, piece-well}
use Rattle.reading.proofs.fields.read_piece.Goals as goal

pub returns-in_err-strip_prefix : goal.returns-in_err-strip_prefix
returns-in_err-strip_prefix c =
    c.from_residual.ensures ∙ ap (field_from _) (piece-none _ c.args.s.now c.in_err-strip_prefix.ensures.cases)

pub returns : goal.returns
returns c =
    let a = c.args in
    let names = unpadded_all a.names.table.now in
    let cut = c.in_ok-strip_prefix.ensures.cases in
    c.read_field.ensures
    ∙ ap (λ (s : List ℕ). field_from a.from (read_field names s)) cut.1
    ∙ ap (field_from a.from) (piece-well names a.s.now cut.0)
