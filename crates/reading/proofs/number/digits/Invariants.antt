-- Loops of `number::digits`.
use mathlib.Core.Path.{◌≡◌}
use Prim.Native.Nat.{◌≤◌}
use lib.ListN.{drop}
use Rattle.reading.specs.Number.{largest, read_after}
use Rattle.reading.proofs.number.digits.Given as goal

abbrev pub invariant-loop-b : goal.invariant-loop-b
invariant-loop-b l = (l.n ≤ largest) × (read_after l.n (drop l.b-index l.s) ≡ read_after 0 l.s)
