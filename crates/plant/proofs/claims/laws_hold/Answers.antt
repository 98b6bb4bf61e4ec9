-- `plant::claims::laws_hold` meets its contract. Assumes nothing.
use Rattle.plant.proofs.Laws.Calls.{tells, exact, figures-kept}
use Rattle.plant.proofs.Laws.Record.{made-law}
use Rattle.plant.proofs.Laws.Same.{same-law}
use Rattle.plant.proofs.claims.laws_hold.Goals as goal

pub returns-clause-tells : goal.returns-clause-tells
returns-clause-tells c = tells

pub returns-clause-exact : goal.returns-clause-exact
returns-clause-exact c = exact

pub returns-clause-figures : goal.returns-clause-figures
returns-clause-figures c = figures-kept

pub returns-clause-made : goal.returns-clause-made
returns-clause-made c = made-law

pub returns-clause-same : goal.returns-clause-same
returns-clause-same c = same-law
