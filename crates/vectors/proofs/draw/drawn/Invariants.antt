-- Loops of `draw::drawn`.
use Rattle.vectors.specs.Draw.{drawn}
use Rattle.vectors.proofs.Laws.Columns.{Filled}
use Rattle.vectors.proofs.draw.drawn.Given as goal

abbrev pub invariant-loop-i : goal.invariant-loop-i
invariant-loop-i g l = Filled (drawn l.k l.fn.v) l.fn.v l.s l.i
