-- Loops of `blocks::answer_block`.
use mathlib.Core.Path.{◌≡◌}
use Prim.Native.Nat.{◌-◌, ◌≤◌}
use lib.ListN.{length}
use Rattle.lines.specs.Blocks.{desk, block_of}
use Rattle.lines.proofs.blocks.answer_block.Given as goal

abbrev pub invariant-loop-q : goal.invariant-loop-q
invariant-loop-q l = (length l.line ≡ length l.initial.line) × (length l.out ≡ length l.initial.out) ×
    (l.initial.q.at ≤ length l.initial.out → l.q.at ≤ length l.initial.out) ×
    (block_of l.block (desk l.q l.line l.out) ≡ block_of l.block (desk l.initial.q l.initial.line l.initial.out))

abbrev pub decreases-loop-q : goal.decreases-loop-q
decreases-loop-q l = length l.block - l.q.used
