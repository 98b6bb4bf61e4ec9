-- `requests::calls::answer_entry` meets its contract. Assumes nothing.
use mathlib.Core.Bool.{Bool}
use mathlib.Core.Path.{◌≡◌, refl, sym, ap, ◌∙◌}
use Rattle.plant.specs.declared.record.Plant.{Plant}
use Rattle.plant.specs.declared.answer.Request.{Request}
use Rattle.plant.specs.declared.answer.Outcome.{Outcome}
use Rattle.plant.specs.Calls.{outcome_by}
use Rattle.plant.proofs.Laws.Calls.{previewed}
use Rattle.requests.proofs.calls.answer_entry.Goals as goal

by_kind : (p : Plant) (r : Request) (x : Bool) {b : Bool} {o : Outcome} → b ≡ x → o ≡ outcome_by p x r
    → o ≡ outcome_by p b r
by_kind p r x e h = h ∙ ap (λ (y : Bool). outcome_by p y r) (sym e)

pub returns-then-preview : goal.returns-then-preview
returns-then-preview c =
    let seen = previewed c.args.plant c.args.request c.answer_request-outcome.ensures.outcome in
    record { outcome = by_kind _ _ _ c.if-preview.true seen.0; tells = seen.1; figures = refl }
