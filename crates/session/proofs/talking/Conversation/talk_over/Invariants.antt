-- Loops of `talking::Conversation::talk_over`: between blocks no answer is left to write, the input's buffer keeps its length, and of the
-- bytes that were read so far, what is carried and what is written are those of the run through them.
use Rattle.std.proofs.Common.{List, ℕ, ◌≡◌, ◌≤◌, length}
use Rattle.std.specs.Io.KnownBytes.{Appends, Consumes}
use Rattle.lines.specs.Session.{start, core, run}
use Rattle.lines.specs.Blocks.{carried}
use Rattle.session.proofs.talking.Conversation.talk_over.Given as goal

abbrev pub invariant-loop : goal.invariant-loop
invariant-loop g l =
    (l.self.place.held ≤ 1025) × (l.self.place.at ≡ 0) × (length l.input ≡ length l.initial.input)
    × ((xs : List ℕ)
    × Consumes (g.I.Read.remaining l.initial.from) (g.I.Read.remaining l.from) xs
    × Appends (g.O.Write.contents l.initial.self.to) (g.O.Write.contents l.self.to) (run (start l.initial.self.place.plant) xs).printed
    × (carried l.self.place l.self.line ≡ core (run (start l.initial.self.place.plant) xs)))
