-- `plant::returning::given_back` meets its contract. Assumes nothing.
use native.Mathlib.Omega.{arith}
use mathlib.Core.Path.{sym, refl, ap, ◌∙◌}
use Rattle.std.specs.Prelude.{Ok}
use Rattle.vectors.specs.Columns.{digester_ceilings}
use Rattle.vectors.proofs.Laws.Draw.{drawn-below}
use Rattle.interface.specs.Return.{return_of}
use Rattle.plant.specs.Calls.{give_back, ruled}
use Rattle.interface.proofs.Laws.Whole.{err-is}
use Rattle.plant.proofs.Laws.Decision.{stop-by, pass-by, stop, pass, room-lost, room-found}
use Rattle.plant.proofs.Laws.Record.{usable-permitted, digester-within, drawable}
use Rattle.plant.proofs.returning.given_back.Goals as goal
use mathlib.Core.List.{List, []}
use Prim.Native.Nat.{ℕ}
use Rattle.std.specs.Prelude.{Result}
use Rattle.refusals.specs.declared.Refusal.{Refusal}
use Rattle.vectors.specs.Draw.{rest}
use Rattle.refusals.specs.declared.Refusal.TheVariants.{TankAbove}
use Rattle.refusals.specs.Tests.{first, decide}
use Rattle.interface.specs.declared.returning.Returned as in_return
use Rattle.plant.specs.declared.record.Plant.{Plant}
use Rattle.plant.specs.declared.answer.Outcome.{Outcome}
use Rattle.plant.specs.Calls.{returned_tests, returned}

-- what comes of a conversion
abbrev converted : Plant → List ℕ → Result in_return.Returned Refusal → Result Outcome Refusal
converted p r x = decide (first (returned_tests p x)) (returned p x r)

pub drawn-drawn-requires : goal.drawn-drawn-requires
drawn-drawn-requires c = (
  omega arith,
  drawable _ _ (digester-within c.args.plant) c.in_ok-usable.ensures c.is_thousandths.ensures c.in_ok-unless.ensures.passed,
)

pub rest-digester-requires : goal.rest-digester-requires
rest-digester-requires c = (
  omega arith,
  drawable _ _ (digester-within c.args.plant) c.in_ok-usable.ensures c.is_thousandths.ensures c.in_ok-unless.ensures.passed,
)

pub return_of-requires : goal.return_of-requires
return_of-requires c =
    let low = drawable _ _ (digester-within c.args.plant) c.in_ok-usable.ensures c.is_thousandths.ensures c.in_ok-unless.ensures.passed in
    (usable-permitted c.args.plant (sym c.in_ok-usable.ensures), rw c.drawn-drawn.ensures (drawn-below digester_ceilings _ _ low.0 low.1))

pub returns-in_err-usable : goal.returns-in_err-usable
unfolding give_back ruled
returns-in_err-usable c = stop-by _ _ _ c.in_err-usable.ensures c.from_residual.ensures.1

pub returns-in_err-unless : goal.returns-in_err-unless
unfolding give_back ruled
returns-in_err-unless c =
    pass-by _ _ _ c.in_ok-usable.ensures
    (stop _ _ _ _ c.is_thousandths.ensures c.in_err-unless.ensures.sent c.from_residual-in_err-unless.ensures.1)

pub returns-in_err-o : goal.returns-in_err-o
unfolding give_back ruled
returns-in_err-o c =
    let p = c.args.plant in
    let r = rest c.args.k p.digester in
    let e = c.in_err-o.ensures ∙ ap (return_of p.figures) c.drawn-drawn.ensures in
    pass-by _ _ _ c.in_ok-usable.ensures
    (pass _ _ _ _ c.is_thousandths.ensures c.in_ok-unless.ensures.passed
    (err-is c.from_residual-in_err-o.result c.from_residual-in_err-o.ensures.1 refl ∙ ap (converted p r) e))

pub returns-in_err-reject : goal.returns-in_err-reject
unfolding give_back ruled
returns-in_err-reject c =
    let p = c.args.plant in
    let r = rest c.args.k p.digester in
    let e = c.in_ok-o.ensures ∙ ap (return_of p.figures) c.drawn-drawn.ensures in
    pass-by _ _ _ c.in_ok-usable.ensures
    (pass _ _ _ _ c.is_thousandths.ensures c.in_ok-unless.ensures.passed
    (stop (returned p (Ok c.in_ok-o.o) r) _ TankAbove [] refl
    (room-lost _ TankAbove _ c.sum_within.ensures c.ok_or.ensures.value c.in_err-reject.was)
    c.from_residual-in_err-reject.ensures.1
    ∙ ap (converted p r) e))

pub returns : goal.returns
unfolding give_back ruled
returns c =
    let p = c.args.plant in
    let r = rest c.args.k p.digester in
    let e = c.in_ok-o.ensures ∙ ap (return_of p.figures) c.drawn-drawn.ensures in
    let room = room-found _ TankAbove _ c.sum_within.ensures c.ok_or.ensures.value c.in_ok-reject.was in
    pass-by _ _ _ c.in_ok-usable.ensures
    (pass _ _ _ _ c.is_thousandths.ensures c.in_ok-unless.ensures.passed
    (pass (returned p (Ok c.in_ok-o.o) r) _ TankAbove [] refl room.0
    (cc (c.rest-digester.ensures, room.1))
    ∙ ap (converted p r) e))
