-- `plant::record::is_thousandths` meets its contract. Assumes nothing.
use mathlib.Core.Path.{refl}
use borrow.Author.Tests.{le-leb, lt-leb}
use Rattle.plant.specs.Record.{thousandths}
use Rattle.plant.proofs.record.is_thousandths.Goals as goal

pub returns-then-k-ge1 : goal.returns-then-k-ge1
unfolding thousandths
returns-then-k-ge1 c = rw (le-leb 1 c.args.k c.if-k-ge1.true) refl

pub returns-else-k-ge1 : goal.returns-else-k-ge1
unfolding thousandths
returns-else-k-ge1 c = rw (lt-leb 1 c.args.k c.if-k-ge1.false) refl
