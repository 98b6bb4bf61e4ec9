-- `plant::feeding::fed` meets its contract. Assumes nothing.
use native.Mathlib.Omega.{arith}
use mathlib.Core.Path.{sym, refl, ap, ◌∙◌}
use Rattle.std.specs.Prelude.{Ok}
use Rattle.vectors.specs.Columns.{asm1_ceilings}
use Rattle.vectors.proofs.Laws.Draw.{drawn-below}
use Rattle.interface.specs.Feed.{feed_of}
use Rattle.plant.specs.Calls.{feed, ruled}
use Rattle.interface.proofs.Laws.Whole.{err-is}
use Rattle.plant.proofs.Laws.Decision.{stop-by, pass-by, stop, pass, room-lost, room-found}
use Rattle.plant.proofs.Laws.Record.{usable-permitted, sludge-within, drawable}
use Rattle.plant.proofs.feeding.fed.Goals as goal
use mathlib.Core.List.{List, []}
use Prim.Native.Nat.{ℕ}
use Rattle.std.specs.Prelude.{Result}
use Rattle.refusals.specs.declared.Refusal.{Refusal}
use Rattle.vectors.specs.Draw.{rest}
use Rattle.refusals.specs.declared.Refusal.TheVariants.{TankAbove}
use Rattle.refusals.specs.Tests.{first, decide}
use Rattle.interface.specs.declared.feed.Fed as in_feed
use Rattle.plant.specs.declared.record.Plant.{Plant}
use Rattle.plant.specs.declared.answer.Outcome.{Outcome}
use Rattle.plant.specs.Calls.{fed_tests, fed}

-- what comes of a conversion
abbrev converted : Plant → List ℕ → Result in_feed.Fed Refusal → Result Outcome Refusal
converted p r x = decide (first (fed_tests p x)) (fed p x r)

pub drawn-drawn-requires : goal.drawn-drawn-requires
drawn-drawn-requires c = (
  omega arith,
  drawable _ _ (sludge-within c.args.plant) c.in_ok-usable.ensures c.is_thousandths.ensures c.in_ok-unless.ensures.passed,
)

pub rest-sludge-requires : goal.rest-sludge-requires
rest-sludge-requires c = (
  omega arith,
  drawable _ _ (sludge-within c.args.plant) c.in_ok-usable.ensures c.is_thousandths.ensures c.in_ok-unless.ensures.passed,
)

pub feed_of-requires : goal.feed_of-requires
feed_of-requires c =
    let low = drawable _ _ (sludge-within c.args.plant) c.in_ok-usable.ensures c.is_thousandths.ensures c.in_ok-unless.ensures.passed in
    (usable-permitted c.args.plant (sym c.in_ok-usable.ensures), rw c.drawn-drawn.ensures (drawn-below asm1_ceilings _ _ low.0 low.1))

pub returns-in_err-usable : goal.returns-in_err-usable
unfolding feed ruled
returns-in_err-usable c = stop-by _ _ _ c.in_err-usable.ensures c.from_residual.ensures.1

pub returns-in_err-unless : goal.returns-in_err-unless
unfolding feed ruled
returns-in_err-unless c =
    pass-by _ _ _ c.in_ok-usable.ensures
    (stop _ _ _ _ c.is_thousandths.ensures c.in_err-unless.ensures.sent c.from_residual-in_err-unless.ensures.1)

pub returns-in_err-o : goal.returns-in_err-o
unfolding feed ruled
returns-in_err-o c =
    let p = c.args.plant in
    let r = rest c.args.k p.sludge in
    let e = c.in_err-o.ensures ∙ ap (feed_of p.figures) c.drawn-drawn.ensures in
    pass-by _ _ _ c.in_ok-usable.ensures
    (pass _ _ _ _ c.is_thousandths.ensures c.in_ok-unless.ensures.passed
    (err-is c.from_residual-in_err-o.result c.from_residual-in_err-o.ensures.1 refl ∙ ap (converted p r) e))

pub returns-in_err-digester : goal.returns-in_err-digester
unfolding feed ruled
returns-in_err-digester c =
    let p = c.args.plant in
    let r = rest c.args.k p.sludge in
    let e = c.in_ok-o.ensures ∙ ap (feed_of p.figures) c.drawn-drawn.ensures in
    pass-by _ _ _ c.in_ok-usable.ensures
    (pass _ _ _ _ c.is_thousandths.ensures c.in_ok-unless.ensures.passed
    (stop (fed p (Ok c.in_ok-o.o) r) _ TankAbove [] refl
    (room-lost _ TankAbove _ c.sum_within.ensures c.ok_or.ensures.value c.in_err-digester.was)
    c.from_residual-in_err-digester.ensures.1
    ∙ ap (converted p r) e))

pub returns : goal.returns
unfolding feed ruled
returns c =
    let p = c.args.plant in
    let r = rest c.args.k p.sludge in
    let e = c.in_ok-o.ensures ∙ ap (feed_of p.figures) c.drawn-drawn.ensures in
    let room = room-found _ TankAbove _ c.sum_within.ensures c.ok_or.ensures.value c.in_ok-digester.was in
    pass-by _ _ _ c.in_ok-usable.ensures
    (pass _ _ _ _ c.is_thousandths.ensures c.in_ok-unless.ensures.passed
    (pass (fed p (Ok c.in_ok-o.o) r) _ TankAbove [] refl room.0
    (cc (c.rest-sludge.ensures, room.1))
    ∙ ap (converted p r) e))
