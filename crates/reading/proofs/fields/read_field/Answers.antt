-- `reading::fields::read_field` meets its contract. Assumes nothing.
use mathlib.Core.Path.{sym, ap, ap₂, ◌∙◌}
use Prim.Native.Nat.{ℕ, ◌+◌, ◌-◌}
use lib.ListN.{length, take, drop}
use Rattle.std.proofs.Common.{Option, Some, None}
use Rattle.reading.specs.Number.{read_number}
use Rattle.reading.specs.Names.{unpadded_all}
use Rattle.reading.specs.Form.{field_of}
use Rattle.reading.proofs.Laws.Text.{up-first}
use Rattle.reading.proofs.Laws.Form.{field-split, field-none}
use Rattle.reading.proofs.fields.read_field.Goals as goal

pub returns-in_err-k : goal.returns-in_err-k
returns-in_err-k c = c.from_residual.ensures ∙ field-none _ _ _ (up-first 32 c.args.s.now None c.in_err-k.ensures)

pub returns-in_err-column : goal.returns-in_err-column
returns-in_err-column c =
    let a = c.args in
    let k = c.in_ok-k.k in
    let rest = take (length a.s.now - (k + 1)) (drop (k + 1) a.s.now) in
    c.from_residual-in_err-column.ensures
    ∙ ap (λ (x : Option ℕ). field_of x (read_number rest)) (sym c.in_err-column.was ∙ c.find.ensures)
    ∙ field-split (unpadded_all a.names.table.now) a.from a.s.now k (up-first 32 a.s.now (Some k) c.in_ok-k.ensures)

pub returns-in_err-number : goal.returns-in_err-number
returns-in_err-number c =
    let a = c.args in
    let k = c.in_ok-k.k in
    c.from_residual-in_err-number.ensures
    ∙ ap₂ field_of (sym c.in_ok-column.was ∙ c.find.ensures) (sym c.in_err-number.was ∙ c.read_number.ensures)
    ∙ field-split (unpadded_all a.names.table.now) a.from a.s.now k (up-first 32 a.s.now (Some k) c.in_ok-k.ensures)

pub returns : goal.returns
returns c =
    let a = c.args in
    let k = c.in_ok-k.k in
    ap₂ field_of (sym c.in_ok-column.was ∙ c.find.ensures) (sym c.in_ok-number.was ∙ c.read_number.ensures)
    ∙ field-split (unpadded_all a.names.table.now) a.from a.s.now k (up-first 32 a.s.now (Some k) c.in_ok-k.ensures)
