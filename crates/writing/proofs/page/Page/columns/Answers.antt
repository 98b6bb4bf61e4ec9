-- `writing::page::Page::columns` meets its contract. Assumes nothing.
use native.Mathlib.Omega.{arith}
use Rattle.writing.specs.Answer.{columns_from}
use Rattle.writing.proofs.Laws.Page.{wrote-nothing, columns-then, columns-all}
use Rattle.writing.proofs.page.Page.columns.Goals as goal

pub loop-c-init : goal.loop-c-init
unfolding columns_from
loop-c-init g c = (omega arith, wrote-nothing c.args.self.now)

pub loop-c-preserved : goal.loop-c-preserved
loop-c-preserved g c =
    let l = c.loop-c in
    (omega arith, columns-then c.args.zeros _ l.c c.args.v.now (omega arith) l.invariant.1 c.column_or_none.ensures.0 (omega arith))

pub returns : goal.returns
returns g c = (columns-all c.args.zeros _ c.loop-c.c c.args.v.now (omega arith) c.loop-c.invariant.1, omega arith)
