-- `vectors::ceilings::is_within` meets its contract. Assumes nothing.
use mathlib.Core.List.{List}
use mathlib.Core.Path.{ap, ◌∙◌}
use Prim.Native.Nat.{ℕ}
use Rattle.vectors.specs.Columns.{within}
use Rattle.vectors.proofs.Laws.Columns.{within-folded}
use borrow.Author.Rules.{rules}
use Rattle.vectors.proofs.ceilings.is_within.Goals as goal

pub returns : goal.returns
returns g c =
    let v = c.args.v in
    c.all_low.ensures ∙ within-folded c.CEILINGS.result v (search rules) ∙ ap (λ (cs : List ℕ). within cs v) c.CEILINGS.ensures
