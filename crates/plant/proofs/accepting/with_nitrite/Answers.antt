-- `plant::accepting::with_nitrite` meets its contract. Assumes nothing.
use native.Mathlib.Omega.{arith}
use Rattle.std.proofs.lemmas.Bool.{and_parts}
use borrow.Author.Tests.{leb-true}
use Rattle.vectors.specs.Columns.{asm1_ceilings, within}
use Rattle.vectors.proofs.Laws.Columns.{within-low}
use Rattle.plant.specs.Nitrite.{nitrite_ceiling}
use Rattle.plant.proofs.Laws.Nitrite.{with-nitrite-set}
use Rattle.plant.proofs.accepting.with_nitrite.Goals as goal
use lib.Dec.{leb}
use mathlib.Core.Path.{refl}

pub overflow_add-handed : goal.overflow_add-handed
overflow_add-handed c =
    let both = and_parts (within asm1_ceilings c.args.v) (leb c.args.n.0 nitrite_ceiling) c.requires in
    omega (arith, within-low asm1_ceilings c.args.v refl both.0 8, leb-true c.args.n.0 nitrite_ceiling both.1)

pub returns : goal.returns
returns c = with-nitrite-set c.args.v c.args.n (omega arith)
