-- `vectors::draw::drawn` meets its contract. Assumes nothing.
use Rattle.vectors.specs.Draw.{part}
use Rattle.vectors.proofs.Laws.Columns.{filled_at}
use Rattle.vectors.proofs.Laws.Draw.{drawn-fits, mapped-more}
use borrow.Author.Rules.{rules}
use Rattle.vectors.proofs.draw.drawn.Goals as goal

pub overflow_mul-s : goal.overflow_mul-s
overflow_mul-s g c =
    let l = c.loop-i in
    record { fits = rw (filled_at 0 l.invariant (search rules)) (drawn-fits _ _ _ (search rules) c.requires.0 c.requires.1 l.i) }

pub loop-i-preserved : goal.loop-i-preserved
loop-i-preserved g c = mapped-more (part c.args.k) c.loop-i.invariant (search rules)
