-- `blends::call::blended` meets its contract. Assumes nothing.
use mathlib.Core.Path.{sym, ◌∙◌}
use Rattle.refusals.specs.declared.Refusal.TheVariants.{TankAbove}
use Rattle.plant.proofs.Laws.Decision.{pass-by, stop, pass}
use Rattle.plant.proofs.Laws.Record.{sludge-within, usable-within}
use Rattle.blends.proofs.Laws.Blend.{k-tests, are-loads-long, chunks-loads, within-tests, last-room}
use Rattle.blends.proofs.call.blended.Goals as goal

pub returns-in_err-unless-2 : goal.returns-in_err-unless-2
returns-in_err-unless-2 c =
    let ks = c.each_k.ensures ∙ k-tests c.args.loads.now c.args.ks.now in
    pass-by _ _ _ c.in_ok-usable.ensures
    (pass _ _ _ _ c.are_loads.ensures c.in_ok-unless.ensures.passed
    (stop _ _ _ _ ks c.in_err-unless-2.ensures.sent c.from_residual-in_err-unless-2.ensures.1))

pub returns-in_err-unless-3 : goal.returns-in_err-unless-3
returns-in_err-unless-3 c =
    let a = c.args in
    let long = are-loads-long a.loads.now a.ks.now (sym c.are_loads.ensures ∙ c.in_ok-unless.ensures.passed) in
    let ks = c.each_k.ensures ∙ k-tests a.loads.now a.ks.now in
    let columns = c.each_within.ensures ∙ within-tests a.loads.now a.ks.now _ long c.as_chunks.ensures.front in
    pass-by _ _ _ c.in_ok-usable.ensures
    (pass _ _ _ _ c.are_loads.ensures c.in_ok-unless.ensures.passed
    (pass _ _ _ _ ks c.in_ok-unless-2.ensures.passed
    (stop _ _ _ _ columns c.in_err-unless-3.ensures.sent c.from_residual-in_err-unless-3.ensures.1)))

pub with_draws-requires-clause-sludge : goal.with_draws-requires-clause-sludge
with_draws-requires-clause-sludge c = sludge-within c.args.plant (usable-within c.args.plant (sym c.in_ok-usable.ensures))

pub returns : goal.returns
returns c =
    let a = c.args in
    let long = are-loads-long a.loads.now a.ks.now (sym c.are_loads.ensures ∙ c.in_ok-unless.ensures.passed) in
    let ks = c.each_k.ensures ∙ k-tests a.loads.now a.ks.now in
    let columns = c.each_within.ensures ∙ within-tests a.loads.now a.ks.now _ long c.as_chunks.ensures.front in
    let loads = chunks-loads a.loads.now a.ks.now _ long c.as_chunks.ensures.front in
    pass-by _ _ _ c.in_ok-usable.ensures
    (pass _ _ _ _ c.are_loads.ensures c.in_ok-unless.ensures.passed
    (pass _ _ _ _ ks c.in_ok-unless-2.ensures.passed
    (pass _ _ _ _ columns c.in_ok-unless-3.ensures.passed
    (last-room _ TankAbove _ (rw loads at c.with_draws.ensures) c.ok_or.ensures.value))))
