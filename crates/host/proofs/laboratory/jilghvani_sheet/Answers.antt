-- `host::laboratory::jilghvani_sheet` meets its contract. Assumes nothing.
use borrow.Author.Rules.{rules}
use Rattle.host.proofs.Laws.Sheet.{sheet-called}
use Rattle.host.proofs.laboratory.jilghvani_sheet.Goals as goal

pub returns : goal.returns
returns c =
    sheet-called c.plant_at.ensures c.sheet_at.ensures c.receive_sheet-o.ensures.outcome c.put_plant.ensures (search rules) (search rules)
