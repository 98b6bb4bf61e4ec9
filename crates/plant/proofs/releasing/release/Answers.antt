-- `plant::releasing::release` meets its contract. Assumes nothing.
use Rattle.plant.specs.Calls.{release, releasing}
use Rattle.plant.proofs.Laws.Calls.{ruled-answered}
use Rattle.plant.proofs.releasing.release.Goals as goal

pub returns : goal.returns
unfolding release
returns c =
    let a = ruled-answered c.args.plant (releasing c.args.k) c.handed_out.ensures c.outcome_of.ensures in
    record { outcome = a.outcome; tells = a.tells; figures = a.figures }
