-- Loops of `call::draw_off`.
use Rattle.vectors.proofs.Laws.Columns.{Filled}
use Rattle.blends.specs.Blend.{loads_of, rests}
use Rattle.blends.proofs.call.draw_off.Given as goal

abbrev pub invariant-loop-i : goal.invariant-loop-i
invariant-loop-i l = Filled (rests (loads_of l.fn.loads l.fn.ks)) l.fn.loads l.loads l.i
