-- `vectors::figures::is_permitted` meets its contract. Assumes nothing.
use mathlib.Core.Path.{refl}
use native.Mathlib.Omega.{arith}
use lib.ListN.{replicate}
use Rattle.vectors.specs.Figures.{figures_list, permitted}
use Rattle.vectors.proofs.Laws.Columns.{within-folded}
use Rattle.vectors.proofs.Laws.Figures.{some-sum}
use Rattle.vectors.proofs.figures.is_permitted.Goals as goal

pub returns : goal.returns
unfolding permitted
returns c =
    let f = c.args.f in
    let folded = within-folded (replicate 9 10000) (figures_list f) (omega arith) in
    rw (c.all_low-low.ensures, c.from.ensures, folded, some-sum f.fch f.fli) refl
