-- Loops of `totals::weighed`.
use mathlib.Core.Path.{◌≡◌}
use Prim.Native.Nat.{◌+◌}
use lib.ListN.{drop}
use Rattle.vectors.specs.Totals.{weigh, weigh_from}
use Rattle.vectors.proofs.totals.weighed.Given as goal

abbrev pub invariant-loop-i : goal.invariant-loop-i
invariant-loop-i g l = l.sum + weigh_from l.i (drop l.i l.weights) l.v ≡ weigh l.weights l.v
