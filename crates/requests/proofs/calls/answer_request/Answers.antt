-- `requests::calls::answer_request` meets its contract. Assumes nothing.
use mathlib.Core.Path.{◌≡◌, sym, ap, ◌∙◌}
use Rattle.plant.specs.declared.record.Plant.{Plant}
use Rattle.plant.specs.declared.answer.Call.{Call}
use Rattle.plant.specs.declared.answer.Request.{Request}
use Rattle.plant.specs.declared.answer.Outcome.{Outcome}
use Rattle.plant.specs.Calls.{step_by}
use Rattle.plant.proofs.Laws.Calls.{Answered, answered}
use Rattle.requests.proofs.calls.answer_request.Goals as goal

by_call : (p : Plant) (r : Request) (w : Call) {o : Outcome} → r.call ≡ w → o ≡ step_by p w r.sludge r.digester
    → Answered p r o
by_call p r w e h = answered p r (h ∙ ap (λ x. step_by p x r.sludge r.digester) (sym e))

pub returns-in-Receive : goal.returns-in-Receive
unfolding step_by
returns-in-Receive c =
    let a = by_call c.args.plant c.args.request _ c.in-Receive.is c.receive.ensures.outcome in
    record { outcome = a.outcome; tells = a.tells; figures = a.figures }

pub returns-in-Feed : goal.returns-in-Feed
unfolding step_by
returns-in-Feed c =
    let a = by_call c.args.plant c.args.request _ c.in-Feed.is c.feed.ensures.outcome in
    record { outcome = a.outcome; tells = a.tells; figures = a.figures }

pub returns-in-Settle : goal.returns-in-Settle
unfolding step_by
returns-in-Settle c =
    let a = by_call c.args.plant c.args.request _ c.in-Settle.is c.settle.ensures.outcome in
    record { outcome = a.outcome; tells = a.tells; figures = a.figures }

pub returns-in-Return : goal.returns-in-Return
unfolding step_by
returns-in-Return c =
    let a = by_call c.args.plant c.args.request _ c.in-Return.is c.give_back.ensures.outcome in
    record { outcome = a.outcome; tells = a.tells; figures = a.figures }

pub returns-in-Release : goal.returns-in-Release
unfolding step_by
returns-in-Release c =
    let a = by_call c.args.plant c.args.request _ c.in-Release.is c.release.ensures.outcome in
    record { outcome = a.outcome; tells = a.tells; figures = a.figures }

pub returns-in-Recycle : goal.returns-in-Recycle
unfolding step_by
returns-in-Recycle c =
    let a = by_call c.args.plant c.args.request _ c.in-Recycle.is c.recycle.ensures.outcome in
    record { outcome = a.outcome; tells = a.tells; figures = a.figures }

pub returns-in-Draw : goal.returns-in-Draw
unfolding step_by
returns-in-Draw c =
    let a = by_call c.args.plant c.args.request _ c.in-Draw.is c.draw.ensures.outcome in
    record { outcome = a.outcome; tells = a.tells; figures = a.figures }

pub returns-in-Accept : goal.returns-in-Accept
unfolding step_by
returns-in-Accept c =
    let a = by_call c.args.plant c.args.request _ c.in-Accept.is c.accept.ensures.outcome in
    record { outcome = a.outcome; tells = a.tells; figures = a.figures }
