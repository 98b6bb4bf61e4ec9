-- `plant::settling::settled` meets its contract. Assumes nothing.
use mathlib.Core.Path.{sym}
use Rattle.vectors.specs.Columns.{digester_ceilings}
use Rattle.vectors.proofs.Laws.Columns.{within-below}
use Rattle.plant.specs.Calls.{settle, ruled}
use Rattle.plant.proofs.Laws.Decision.{stop-all, pass-all, stop-by, pass-by, stop, pass, flag}
use Rattle.plant.proofs.Laws.Record.{usable-permitted, usable-within, digester-within}
use Rattle.plant.proofs.settling.settled.Goals as goal

pub closes-requires : goal.closes-requires
closes-requires c =
    let p = c.args.plant in
    let usable = sym c.in_ok-usable.ensures in
    let held = within-below digester_ceilings _ (digester-within p (usable-within p usable)) in
    (usable-permitted p usable, (held, within-below digester_ceilings _ (flag c.is_within.ensures c.in_ok-unless.ensures.passed)))

pub returns-in_err-usable : goal.returns-in_err-usable
unfolding settle ruled
returns-in_err-usable c = stop-by _ _ _ c.in_err-usable.ensures c.from_residual.ensures.1

pub returns-in_err-unless : goal.returns-in_err-unless
unfolding settle ruled
returns-in_err-unless c =
    pass-by _ _ _ c.in_ok-usable.ensures
    (stop _ _ _ _ c.is_within.ensures c.in_err-unless.ensures.sent c.from_residual-in_err-unless.ensures.1)

pub returns-in_err-closes : goal.returns-in_err-closes
unfolding settle ruled
returns-in_err-closes c =
    pass-by _ _ _ c.in_ok-usable.ensures
    (pass _ _ _ _ c.is_within.ensures c.in_ok-unless.ensures.passed
    (stop-all _ _ c.in_err-closes.ensures c.from_residual-in_err-closes.ensures.1))

pub returns : goal.returns
unfolding settle ruled
returns c =
    pass-by _ _ _ c.in_ok-usable.ensures
    (pass _ _ _ _ c.is_within.ensures c.in_ok-unless.ensures.passed
    (pass-all _ _ c.in_ok-closes.ensures))
