-- `blends::claims::laws_hold` meets its contract. Assumes nothing.
use Rattle.blends.proofs.Laws.Draws.{order-kept, column-splits-left, draws-total, blend-receives, blend-kept}
use Rattle.blends.proofs.claims.laws_hold.Goals as goal

pub returns-clause-order : goal.returns-clause-order
returns-clause-order c = order-kept

pub returns-clause-columns : goal.returns-clause-columns
returns-clause-columns c = column-splits-left

pub returns-clause-draws : goal.returns-clause-draws
returns-clause-draws c = draws-total

pub returns-clause-receives : goal.returns-clause-receives
returns-clause-receives c = blend-receives

pub returns-clause-kept : goal.returns-clause-kept
returns-clause-kept c = blend-kept
