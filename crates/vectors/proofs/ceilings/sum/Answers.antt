-- `vectors::ceilings::sum` meets its contract. Assumes nothing.
use mathlib.Core.Path.{sym}
use Rattle.vectors.proofs.Laws.Columns.{filled_none, filled_at, filled_more, added-length, added-column, added-fits}
use borrow.Author.Rules.{rules}
use Rattle.vectors.proofs.ceilings.sum.Goals as goal

pub loop-i-init : goal.loop-i-init
loop-i-init g c = filled_none _ _ (added-length c.args.a c.args.b (search rules))

pub overflow_add-s : goal.overflow_add-s
overflow_add-s g c =
    let l = c.loop-i in
    record {
      fits = rw (filled_at 0 l.invariant (search rules)) (added-fits _ _ _ (search rules) c.requires l.i);
    }

pub loop-i-preserved : goal.loop-i-preserved
loop-i-preserved g c =
    let l = c.loop-i in
    let a = c.args in
    filled_more 0 _ l.invariant (search rules) (rw (filled_at 0 l.invariant (search rules)) (sym (added-column a.a a.b l.i)))
