-- `vectors::claims::laws_hold` meets its contract. Assumes nothing.
use Rattle.vectors.proofs.Laws.Draw.{column-splits}
use Rattle.vectors.proofs.Laws.Totals.{total-laws}
use Rattle.vectors.proofs.Laws.Figures.{permitted-law, constant-laws, same-laws}
use Rattle.vectors.proofs.claims.laws_hold.Goals as goal

pub returns-clause-column_splits : goal.returns-clause-column_splits
returns-clause-column_splits c = column-splits

pub returns-clause-totals : goal.returns-clause-totals
returns-clause-totals c = total-laws

pub returns-clause-constants : goal.returns-clause-constants
returns-clause-constants c = constant-laws

pub returns-clause-permitted : goal.returns-clause-permitted
returns-clause-permitted c = permitted-law

pub returns-clause-same : goal.returns-clause-same
returns-clause-same c = same-laws
