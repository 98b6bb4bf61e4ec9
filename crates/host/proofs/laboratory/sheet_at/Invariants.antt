-- Loops of `laboratory::sheet_at`.
use Rattle.vectors.proofs.Laws.Columns.{Filled}
use Rattle.host.specs.Sheet.{sheet_at}
use Rattle.host.proofs.laboratory.sheet_at.Given as goal

abbrev pub invariant-loop-i : goal.invariant-loop-i
invariant-loop-i l = Filled (sheet_at l.kinds l.values) l.initial.sheet l.sheet l.i
