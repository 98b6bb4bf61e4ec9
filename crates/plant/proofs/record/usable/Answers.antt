-- `plant::record::usable` meets its contract. Assumes nothing.
use Rattle.plant.specs.Record.{record_refusal}
use Rattle.plant.proofs.Laws.Decision.{stop-first, pass-first, last-is}
use Rattle.plant.proofs.record.usable.Goals as goal

pub returns-in_err-unless : goal.returns-in_err-unless
unfolding record_refusal
returns-in_err-unless c =
    stop-first _ _ _ _ c.is_permitted.ensures c.in_err-unless.ensures.sent c.from_residual.ensures.1

pub returns : goal.returns
unfolding record_refusal
returns c =
    let columns = c.unless-2.ensures in
    pass-first _ _ _ _ c.is_permitted.ensures c.in_ok-unless.ensures.passed
    (last-is _ _ _ c.record_within.ensures columns.passed columns.sent)
