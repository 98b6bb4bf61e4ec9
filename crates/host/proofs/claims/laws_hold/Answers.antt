-- `host::claims::laws_hold` meets its contract. Assumes nothing.
use Rattle.host.proofs.Laws.Record.{plant-columns}
use Rattle.host.proofs.claims.laws_hold.Goals as goal

pub returns : goal.returns
returns c = plant-columns
