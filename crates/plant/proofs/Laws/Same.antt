-- The law of the code's ==. Assumes nothing.
--
--   same-law   SameLaw
use borrow.Author.Rules.{rules}
use Rattle.plant.specs.Laws.{SameLaw}

pub same-law : SameLaw
same-law p q e = search rules
