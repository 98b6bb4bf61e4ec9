-- `plant::feeding::feed` meets its contract. Assumes nothing.
use Rattle.plant.specs.Calls.{feeding}
use Rattle.plant.proofs.Laws.Calls.{ruled-answered}
use Rattle.plant.proofs.feeding.feed.Goals as goal

pub returns : goal.returns
returns c =
    let a = ruled-answered c.args.plant (feeding c.args.k) c.fed.ensures c.outcome_of.ensures in
    record { outcome = a.outcome; tells = a.tells; figures = a.figures }
