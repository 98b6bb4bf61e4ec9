-- `reading::number::read_number` meets its contract. Assumes nothing.
use native.Mathlib.Omega.{arith}
use mathlib.Core.Path.{sym, ◌∙◌}
use mathlib.Core.Logic.{inl, inr}
use Rattle.reading.proofs.Laws.Number.{number-empty, number-zero, number-led}
use Rattle.reading.proofs.number.read_number.Goals as goal
use Rattle.reading.proofs.number.read_number.Goals.{then-s-eq48+else-s-gt1, else-s-eq48}

pub returns-then-s-eq0 : goal.returns-then-s-eq0
returns-then-s-eq0 c = sym (number-empty _ c.if-s-eq0.true)

pub returns-then-s-gt1 : goal.returns-then-s-gt1
returns-then-s-gt1 c = sym (number-zero _ c.if-s-eq48.true (omega arith))

pub returns : goal.returns
returns c =
    c.digits.ensures ∙ sym (number-led _ c.if-s-eq0.false
    (elim c.if-s-eq48.branch [ then-s-eq48+else-s-gt1 w ↦ inr (omega arith) | else-s-eq48 w ↦ inl w.if-s-eq48.false ]))
