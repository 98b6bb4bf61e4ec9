-- `plant::accepting::accepted` meets its contract. Assumes nothing.
use mathlib.Core.Path.{refl, ap, ◌∙◌}
use Rattle.refusals.specs.declared.Refusal.TheVariants.{TankAbove}
use Rattle.plant.specs.Calls.{accept, ruled}
use Rattle.plant.proofs.Laws.Decision.{stop-by, pass-by, stop, pass, room-lost, room-found, summed}
use Rattle.plant.proofs.accepting.accepted.Goals as goal

pub returns-in_err-usable : goal.returns-in_err-usable
unfolding accept ruled
returns-in_err-usable c =
    stop-by _ _ _ c.in_err-usable.ensures c.from_residual.ensures.1

pub returns-in_err-unless : goal.returns-in_err-unless
unfolding accept ruled
returns-in_err-unless c =
    pass-by _ _ _ c.in_ok-usable.ensures
    (stop _ _ _ _ c.is_acceptable.ensures c.in_err-unless.ensures.sent c.from_residual-in_err-unless.ensures.1)

pub returns-in_err-sludge : goal.returns-in_err-sludge
unfolding accept ruled
returns-in_err-sludge c =
    let sum = c.sum_within.ensures ∙ ap (summed c.args.plant) c.with_nitrite-handed.ensures in
    pass-by _ _ _ c.in_ok-usable.ensures
    (pass _ _ _ _ c.is_acceptable.ensures c.in_ok-unless.ensures.passed
    (stop _ _ _ _ refl (room-lost _ TankAbove _ sum c.ok_or.ensures.value c.in_err-sludge.was)
    c.from_residual-in_err-sludge.ensures.1))

pub returns : goal.returns
unfolding accept ruled
returns c =
    let sum = c.sum_within.ensures ∙ ap (summed c.args.plant) c.with_nitrite-handed.ensures in
    let room = room-found _ TankAbove _ sum c.ok_or.ensures.value c.in_ok-sludge.was in
    pass-by _ _ _ c.in_ok-usable.ensures
    (pass _ _ _ _ c.is_acceptable.ensures c.in_ok-unless.ensures.passed
    (pass _ _ _ _ refl room.0 (cc (room.1, c.n2_of.ensures))))
