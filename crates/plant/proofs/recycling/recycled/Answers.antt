-- `plant::recycling::recycled` meets its contract. Assumes nothing.
use native.Mathlib.Omega.{arith}
use mathlib.Core.Path.{refl, ap, ◌∙◌}
use Rattle.refusals.specs.declared.Refusal.TheVariants.{TankAbove}
use Rattle.plant.specs.Calls.{recycle, ruled}
use Rattle.plant.proofs.Laws.Decision.{stop-by, pass-by, stop, pass, room-lost, room-found, summed}
use Rattle.plant.proofs.Laws.Record.{reject-within, drawable}
use Rattle.plant.proofs.recycling.recycled.Goals as goal

pub drawn-drawn-requires : goal.drawn-drawn-requires
drawn-drawn-requires c = (
  omega arith,
  drawable _ _ (reject-within c.args.plant) c.in_ok-usable.ensures c.is_thousandths.ensures c.in_ok-unless.ensures.passed,
)

pub rest-reject-requires : goal.rest-reject-requires
rest-reject-requires c = (
  omega arith,
  drawable _ _ (reject-within c.args.plant) c.in_ok-usable.ensures c.is_thousandths.ensures c.in_ok-unless.ensures.passed,
)

pub returns-in_err-usable : goal.returns-in_err-usable
unfolding recycle ruled
returns-in_err-usable c =
    stop-by _ _ _ c.in_err-usable.ensures c.from_residual.ensures.1

pub returns-in_err-unless : goal.returns-in_err-unless
unfolding recycle ruled
returns-in_err-unless c =
    pass-by _ _ _ c.in_ok-usable.ensures
    (stop _ _ _ _ c.is_thousandths.ensures c.in_err-unless.ensures.sent c.from_residual-in_err-unless.ensures.1)

pub returns-in_err-sludge : goal.returns-in_err-sludge
unfolding recycle ruled
returns-in_err-sludge c =
    let sum = c.sum_within.ensures ∙ ap (summed c.args.plant) c.drawn-drawn.ensures in
    pass-by _ _ _ c.in_ok-usable.ensures
    (pass _ _ _ _ c.is_thousandths.ensures c.in_ok-unless.ensures.passed
    (stop _ _ _ _ refl (room-lost _ TankAbove _ sum c.ok_or.ensures.value c.in_err-sludge.was)
    c.from_residual-in_err-sludge.ensures.1))

pub returns : goal.returns
unfolding recycle ruled
returns c =
    let sum = c.sum_within.ensures ∙ ap (summed c.args.plant) c.drawn-drawn.ensures in
    let room = room-found _ TankAbove _ sum c.ok_or.ensures.value c.in_ok-sludge.was in
    pass-by _ _ _ c.in_ok-usable.ensures
    (pass _ _ _ _ c.is_thousandths.ensures c.in_ok-unless.ensures.passed
    (pass _ _ _ _ refl room.0 (cc (room.1, c.rest-reject.ensures))))
