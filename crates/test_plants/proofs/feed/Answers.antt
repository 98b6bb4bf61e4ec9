-- `test_plants::feed` meets its contract. Assumes nothing.
use mathlib.Core.Path.{sym, ◌∙◌}
use lib.Dec.{lit≤}
use Rattle.vectors.specs.Columns.{asm1_ceilings}
use Rattle.vectors.proofs.Laws.Figures.{house-permitted}
use Rattle.vectors.proofs.Laws.Draw.{drawn-below}
use Rattle.test_plants.proofs.feed.Goals as goal

pub feed_of-requires : goal.feed_of-requires
feed_of-requires c = (
  house-permitted,
  rw c.drawn-c.ensures (drawn-below asm1_ceilings _ 1000 (sym c.is_within.ensures ∙ c.if-is_within.true) (lit≤ tt)),
)
