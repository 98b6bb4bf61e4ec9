-- `plant::accepting::accept` meets its contract. Assumes nothing.
use Rattle.plant.specs.Calls.{accepting}
use Rattle.plant.proofs.Laws.Calls.{ruled-answered}
use Rattle.plant.proofs.accepting.accept.Goals as goal

pub returns : goal.returns
returns c =
    let a = ruled-answered c.args.plant (accepting c.args.v c.args.n) c.accepted.ensures c.outcome_of.ensures in
    record { outcome = a.outcome; tells = a.tells; figures = a.figures }
