-- `plant::settling::settle` meets its contract. Assumes nothing.
use Rattle.plant.specs.Calls.{settling}
use Rattle.plant.proofs.Laws.Calls.{ruled-answered}
use Rattle.plant.proofs.settling.settle.Goals as goal

pub returns : goal.returns
returns c =
    let a = ruled-answered c.args.plant (settling c.args.gas c.args.d) c.settled.ensures c.outcome_of.ensures in
    record { outcome = a.outcome; tells = a.tells; figures = a.figures }
