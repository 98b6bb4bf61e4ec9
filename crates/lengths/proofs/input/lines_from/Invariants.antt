-- Loop of `input::lines_from`: n lines are counted, and those from `at` on are left.
use mathlib.Core.Path.{◌≡◌}
use Prim.Native.Nat.{◌+◌, ◌-◌, ◌≤◌}
use lib.ListN.{length, drop}
use Rattle.lines.specs.Session.{cut_lines}
use Rattle.lengths.proofs.input.lines_from.Given as goal

abbrev pub invariant-loop-at : goal.invariant-loop-at
invariant-loop-at l =
    (l.n ≤ l.at) × (l.n + length (cut_lines (drop l.at l.input)) ≡ length (cut_lines (drop l.fn.from l.input)))

abbrev pub decreases-loop-at : goal.decreases-loop-at
decreases-loop-at l = length l.input - l.at
