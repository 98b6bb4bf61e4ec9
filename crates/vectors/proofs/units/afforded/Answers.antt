-- `vectors::units::afforded` meets its contract. Assumes nothing.
use Rattle.vectors.proofs.Laws.Units.{afford}
use Rattle.vectors.proofs.units.afforded.Goals as goal

pub returns : goal.returns
returns c = (c.min.ensures, rw c.min.ensures (afford c.args.x.0 c.args.m.0 c.args.figure))
