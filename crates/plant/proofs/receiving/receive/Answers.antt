-- `plant::receiving::receive` meets its contract. Assumes nothing.
use Rattle.plant.specs.Calls.{receiving}
use Rattle.plant.proofs.Laws.Calls.{ruled-answered}
use Rattle.plant.proofs.receiving.receive.Goals as goal

pub returns : goal.returns
returns c =
    let a = ruled-answered c.args.plant (receiving c.args.v) c.received.ensures c.outcome_of.ensures in
    record { outcome = a.outcome; tells = a.tells; figures = a.figures }
