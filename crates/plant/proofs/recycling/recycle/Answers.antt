-- `plant::recycling::recycle` meets its contract. Assumes nothing.
use Rattle.plant.specs.Calls.{recycling}
use Rattle.plant.proofs.Laws.Calls.{ruled-answered}
use Rattle.plant.proofs.recycling.recycle.Goals as goal

pub returns : goal.returns
returns c =
    let a = ruled-answered c.args.plant (recycling c.args.k) c.recycled.ensures c.outcome_of.ensures in
    record { outcome = a.outcome; tells = a.tells; figures = a.figures }
