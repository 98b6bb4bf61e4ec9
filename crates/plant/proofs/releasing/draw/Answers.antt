-- `plant::releasing::draw` meets its contract. Assumes nothing.
use Rattle.plant.specs.Calls.{draw, drawing}
use Rattle.plant.proofs.Laws.Calls.{ruled-answered}
use Rattle.plant.proofs.releasing.draw.Goals as goal

pub returns : goal.returns
unfolding draw
returns c =
    let a = ruled-answered c.args.plant (drawing c.args.k) c.handed_out.ensures c.outcome_of.ensures in
    record { outcome = a.outcome; tells = a.tells; figures = a.figures }
