-- `blends::call::blend` meets its contract. Assumes nothing.
use mathlib.Core.Path.{refl, sym, ◌∙◌}
use Rattle.plant.proofs.Laws.Decision.{stop-all}
use Rattle.blends.specs.Blend.{blend, loads_left}
use Rattle.blends.proofs.Laws.Blend.{decide-err, decide-ok, tests-passed}
use Rattle.blends.proofs.Laws.Draws.{blend-sent, blend-kept}
use Rattle.blends.proofs.call.blend.Goals as goal

pub returns-in_err-sludge-clause-outcome : goal.returns-in_err-sludge-clause-outcome
unfolding blend
returns-in_err-sludge-clause-outcome c =
    let sent = decide-err _ _ (sym c.blended.ensures ∙ c.in_err-sludge.was) in
    stop-all _ _ (sym sent) c.from_residual.ensures.1

pub returns-in_err-sludge-clause-loads : goal.returns-in_err-sludge-clause-loads
returns-in_err-sludge-clause-loads c =
    let a = c.args in
    let sent = decide-err _ _ (sym c.blended.ensures ∙ c.in_err-sludge.was) in
    sym (blend-kept a.plant a.loads.now a.ks.now _ (blend-sent a.plant a.loads.now a.ks.now sent))

pub draw_off-requires-clause-ks : goal.draw_off-requires-clause-ks
draw_off-requires-clause-ks c =
    let none = decide-ok _ _ (sym c.blended.ensures ∙ c.in_ok-sludge.was) in
    (tests-passed c.args.plant c.args.loads.now c.args.ks.now none.0).each

pub returns-clause-outcome : goal.returns-clause-outcome
unfolding blend
returns-clause-outcome c =
    let none = decide-ok _ _ (sym c.blended.ensures ∙ c.in_ok-sludge.was) in
    rw (none.0, none.1) refl

pub returns-clause-loads : goal.returns-clause-loads
unfolding blend loads_left
returns-clause-loads c =
    let none = decide-ok _ _ (sym c.blended.ensures ∙ c.in_ok-sludge.was) in
    rw none.0 c.draw_off.ensures
