-- Loop of `input::answer_bytes`: so many lines are counted, with so many bytes of answers, and those from `from` on are left.
use mathlib.Core.Path.{◌≡◌}
use Prim.Native.Nat.{◌+◌, ◌-◌, ◌*◌, ◌≤◌}
use lib.ListN.{length, take, drop}
use Rattle.lines.specs.Session.{cut_lines, answers, after_lines}
use Rattle.lengths.specs.Lengths.{counted, uncounted}
use Rattle.lengths.proofs.input.answer_bytes.Given as goal

abbrev pub invariant-loop-counted : goal.invariant-loop-counted
invariant-loop-counted l =
    let left = cut_lines (drop l.from l.input) in
    let n = 1000 - l.counted in
    record {
      few : l.counted ≤ 1000;
      low : l.bytes ≤ 513 * l.counted;
      bytes : l.bytes + length (answers l.p (take n left)) ≡ length (answers l.fn.plant (counted l.input));
      plant : after_lines l.p (take n left) ≡ after_lines l.fn.plant (counted l.input);
      others : drop n left ≡ uncounted l.input;
    }

abbrev pub decreases-loop-counted : goal.decreases-loop-counted
decreases-loop-counted l = 1000 - l.counted
