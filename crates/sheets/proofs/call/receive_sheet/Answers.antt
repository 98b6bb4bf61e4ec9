-- `sheets::call::receive_sheet` meets its contract. Assumes nothing.
use mathlib.Core.Path.{refl, ap, ◌∙◌}
use Rattle.plant.specs.Calls.{step, receiving}
use Rattle.sheets.specs.declared.call.SheetOutcome.{SheetOutcome}
use Rattle.sheets.proofs.Laws.Sheet.{limits-below, sheet-received, sheet-turned, sheet-figures}
use Rattle.sheets.proofs.call.receive_sheet.Goals as goal

pub unseen_in-unseen-requires : goal.unseen_in-unseen-requires
unseen_in-unseen-requires c = limits-below c.args.sheet c.in-Ok.readings c.in-Ok.ensures

pub returns-in-Ok : goal.returns-in-Ok
returns-in-Ok c =
    let a = c.args in
    let given = c.receive.ensures.outcome ∙ ap (λ v. step a.plant (receiving v)) c.counts_of.ensures in
    let out = sheet-received a.sheet c.in-Ok.readings c.in-Ok.ensures a.plant c.unseen_in-unseen.ensures given c.received.ensures in
    record { outcome = out; figures = ap (λ (o : SheetOutcome). o.plant.figures) out ∙ sheet-figures a.plant a.sheet }

pub returns-in-Err : goal.returns-in-Err
returns-in-Err c = record { outcome = sheet-turned c.args.sheet c.in-Err.refusal c.in-Err.ensures c.args.plant; figures = refl }
