-- `plant::releasing::handed_out` meets its contract. Assumes nothing.
use native.Mathlib.Omega.{arith}
use Rattle.plant.specs.Calls.{ruled}
use Rattle.plant.proofs.Laws.Decision.{stop-by, pass-by, stop, pass}
use Rattle.plant.proofs.Laws.Record.{reject-within, drawable}
use Rattle.plant.proofs.releasing.handed_out.Goals as goal

pub drawn-drawn-requires : goal.drawn-drawn-requires
drawn-drawn-requires c = (
  omega arith,
  drawable _ _ (reject-within c.args.plant) c.in_ok-usable.ensures c.is_thousandths.ensures c.in_ok-unless.ensures.passed,
)

pub rest-reject-requires : goal.rest-reject-requires
rest-reject-requires c = (
  omega arith,
  drawable _ _ (reject-within c.args.plant) c.in_ok-usable.ensures c.is_thousandths.ensures c.in_ok-unless.ensures.passed,
)

pub returns-in_err-usable : goal.returns-in_err-usable
unfolding ruled
returns-in_err-usable c =
    stop-by _ _ _ c.in_err-usable.ensures c.from_residual.ensures.1

pub returns-in_err-unless : goal.returns-in_err-unless
unfolding ruled
returns-in_err-unless c =
    pass-by _ _ _ c.in_ok-usable.ensures
    (stop _ _ _ _ c.is_thousandths.ensures c.in_err-unless.ensures.sent c.from_residual-in_err-unless.ensures.1)

pub returns : goal.returns
unfolding ruled
returns c =
    pass-by _ _ _ c.in_ok-usable.ensures
    (pass _ _ _ _ c.is_thousandths.ensures c.in_ok-unless.ensures.passed
    (cc (c.drawn-drawn.ensures, c.rest-reject.ensures)))
