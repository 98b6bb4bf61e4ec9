-- `reading::form::read_numbered` meets its contract. Assumes nothing.
use mathlib.Core.Path.{sym, ap, ap₂, ◌∙◌}
use mathlib.Core.List.{List}
use Prim.Native.Nat.{ℕ, ◌-◌}
use lib.ListN.{length, take, drop}
use Rattle.std.proofs.Common.{Option}
use Rattle.reading.specs.Names.{names_of}
use Rattle.reading.specs.Form.{read_fields, paired}
use Rattle.reading.proofs.Laws.Form.{numbered-split}
use Rattle.reading.proofs.form.read_numbered.Goals as goal

-- what stands from k on
abbrev rest : List ℕ → ℕ → List ℕ
rest u k = take (length u - k) (drop k u)

pub returns-in_err-n : goal.returns-in_err-n
returns-in_err-n c =
    c.from_residual.ensures
    ∙ ap (λ (n : Option ℕ). paired n (read_fields (names_of c.args.vector) (rest c.args.u.now c.place-k.result)))
    (sym c.in_err-n.was ∙ c.read_number.ensures)
    ∙ numbered-split c.args.u.now c.place-k.result c.place-k.ensures.0 (names_of c.args.vector)

pub returns-in_err-f : goal.returns-in_err-f
returns-in_err-f c =
    c.from_residual-in_err-f.ensures
    ∙ ap₂ paired (sym c.in_ok-n.was ∙ c.read_number.ensures) (sym c.in_err-f.was ∙ c.read_fields.ensures)
    ∙ numbered-split c.args.u.now c.place-k.result c.place-k.ensures.0 (names_of c.args.vector)

pub returns : goal.returns
returns c =
    ap₂ paired (sym c.in_ok-n.was ∙ c.read_number.ensures) (sym c.in_ok-f.was ∙ c.read_fields.ensures)
    ∙ numbered-split c.args.u.now c.place-k.result c.place-k.ensures.0 (names_of c.args.vector)
