-- `host::hauled::jilghvani_blend` meets its contract. Assumes nothing.
use Rattle.host.proofs.Laws.Hauled.{blend-refused}
use Rattle.host.proofs.hauled.jilghvani_blend.Goals as goal

pub returns-in-Err : goal.returns-in-Err
returns-in-Err c =
    blend-refused c.told-columns c.plant_at.ensures c.blend.ensures.outcome c.in-Err.is c.blend.ensures.loads c.number.ensures
