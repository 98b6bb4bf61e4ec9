-- `vectors::ceilings::sum_is_within` meets its contract. Assumes nothing.
use Rattle.vectors.proofs.Laws.Columns.{room-told}
use borrow.Author.Rules.{rules}
use Rattle.vectors.proofs.ceilings.sum_is_within.Goals as goal

pub returns : goal.returns
returns g c = room-told c.args.a c.args.b c.all_fit.ensures c.CEILINGS.ensures (search rules) (search rules)
