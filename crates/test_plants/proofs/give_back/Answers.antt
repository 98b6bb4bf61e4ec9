-- `test_plants::give_back` meets its contract. Assumes nothing.
use mathlib.Core.Path.{sym, ◌∙◌}
use lib.Dec.{lit≤}
use Rattle.vectors.specs.Columns.{digester_ceilings}
use Rattle.vectors.proofs.Laws.Figures.{house-permitted}
use Rattle.vectors.proofs.Laws.Draw.{drawn-below}
use Rattle.test_plants.proofs.give_back.Goals as goal

pub return_of-requires : goal.return_of-requires
return_of-requires c = (
  house-permitted,
  rw c.drawn-c.ensures (drawn-below digester_ceilings _ 1000 (sym c.is_within.ensures ∙ c.if-is_within.true) (lit≤ tt)),
)
