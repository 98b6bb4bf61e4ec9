-- `lines::blocks::Place::has_room` meets its contract. Assumes nothing.
use native.Mathlib.Omega.{arith}
use Rattle.std.proofs.lemmas.Bool.Decides.{nat_tests}
use Rattle.lines.specs.Blocks.{fits}
use Rattle.lines.proofs.blocks.Place.has_room.Goals as goal

pub returns-then-self-out : goal.returns-then-self-out
unfolding fits
returns-then-self-out c = grind (arith, nat_tests)

pub returns-else-self-out : goal.returns-else-self-out
unfolding fits
returns-else-self-out c = grind (arith, nat_tests)
