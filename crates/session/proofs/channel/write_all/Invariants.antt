-- Loops of `channel::write_all`: what is written and what is left are the bytes.
use Rattle.std.proofs.Common.{List, ℕ, ◌≡◌, ◌++◌}
use Rattle.std.specs.Io.KnownBytes.{Appends}
use Rattle.session.proofs.channel.write_all.Given as goal

abbrev pub invariant-loop : goal.invariant-loop
invariant-loop g l = (done : List ℕ) × (l.s ≡ done ++ l.rest) × Appends (g.O.Write.contents l.initial.to) (g.O.Write.contents l.to) done
