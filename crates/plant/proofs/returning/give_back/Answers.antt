-- `plant::returning::give_back` meets its contract. Assumes nothing.
use Rattle.plant.specs.Calls.{returning}
use Rattle.plant.proofs.Laws.Calls.{ruled-answered}
use Rattle.plant.proofs.returning.give_back.Goals as goal

pub returns : goal.returns
returns c =
    let a = ruled-answered c.args.plant (returning c.args.k) c.given_back.ensures c.outcome_of.ensures in
    record { outcome = a.outcome; tells = a.tells; figures = a.figures }
