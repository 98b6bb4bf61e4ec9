-- Loops of `channel::read_some`: a read that failed took nothing.
use Rattle.std.proofs.Common.{◌≡◌, length}
use Rattle.std.specs.Io.KnownBytes.{Keeps}
use Rattle.session.proofs.channel.read_some.Given as goal

abbrev pub invariant-loop : goal.invariant-loop
invariant-loop g l = (length l.input ≡ length l.initial.input) × Keeps (g.I.Read.remaining l.initial.from)
    (g.I.Read.remaining l.from)
