-- `refusals::laws_hold` meets its contract. Assumes nothing.
use Rattle.refusals.proofs.Laws.Refusal.{same-law, number-law}
use Rattle.refusals.proofs.laws_hold.Goals as goal

pub returns-clause-same : goal.returns-clause-same
returns-clause-same c = same-law

pub returns-clause-numbers : goal.returns-clause-numbers
returns-clause-numbers c = number-law
