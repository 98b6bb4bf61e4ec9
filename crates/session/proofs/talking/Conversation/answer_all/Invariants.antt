-- Loops of `talking::Conversation::answer_all`: what is carried, and what is written, are those of the run through the bytes that are
-- used, and each turn uses more.
use Rattle.std.proofs.Common.{length, ◌-◌, ◌≡◌, ◌≤◌, take}
use Rattle.std.specs.Io.KnownBytes.{Appends}
use Rattle.lines.specs.Session.{core, run}
use Rattle.lines.specs.Blocks.{carried}
use Rattle.session.proofs.talking.Conversation.answer_all.Given as goal

abbrev pub invariant-loop-self : goal.invariant-loop-self
invariant-loop-self g l =
    let run_so_far = run (carried l.initial.self.place l.initial.self.line) (take l.self.place.used l.block) in
    (l.self.place.held ≤ 1025) × (l.self.place.at ≡ 0)
    × (carried l.self.place l.self.line ≡ core run_so_far)
    × Appends (g.O.Write.contents l.initial.self.to) (g.O.Write.contents l.self.to) run_so_far.printed

abbrev pub decreases-loop-self : goal.decreases-loop-self
decreases-loop-self g l = length l.block - l.self.place.used
