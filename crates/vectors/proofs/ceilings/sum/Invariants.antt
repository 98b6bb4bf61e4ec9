-- Loops of `ceilings::sum`.
use Rattle.vectors.specs.Columns.{added}
use Rattle.vectors.proofs.Laws.Columns.{Filled}
use Rattle.vectors.proofs.ceilings.sum.Given as goal

abbrev pub invariant-loop-i : goal.invariant-loop-i
invariant-loop-i g l = Filled (added l.fn.a l.b) l.fn.a l.s l.i
