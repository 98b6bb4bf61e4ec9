-- `lengths::claims::laws_hold` meets its contract. Assumes nothing.
use Rattle.lengths.proofs.Laws.Cut.{alone, all}
use Rattle.lengths.proofs.claims.laws_hold.Goals as goal

pub returns-clause-alone : goal.returns-clause-alone
returns-clause-alone c = alone

pub returns-clause-all : goal.returns-clause-all
returns-clause-all c = all
