-- Loops of `draw::rest`.
use Rattle.vectors.specs.Draw.{rest}
use Rattle.vectors.proofs.Laws.Columns.{Filled}
use Rattle.vectors.proofs.draw.rest.Given as goal

abbrev pub invariant-loop-i : goal.invariant-loop-i
invariant-loop-i g l = Filled (rest l.k l.fn.v) l.fn.v l.s l.i
