-- `writing::put::put_fitting` meets its contract. Assumes nothing.
use native.Mathlib.Omega.{arith}
use borrow.Author.Rules.{rules}
use Rattle.writing.proofs.Laws.Buffer.{put-left, put-fits}
use Rattle.writing.proofs.Laws.Page.{written}
use Rattle.writing.proofs.put.put_fitting.Goals as goal

pub returns-then-buf-at : goal.returns-then-buf-at
returns-then-buf-at c = let a = c.args in put-left a.buf.now a.at a.s.now (omega arith)

pub returns-then-buf-at-2 : goal.returns-then-buf-at-2
returns-then-buf-at-2 c = let a = c.args in put-left a.buf.now a.at a.s.now (omega arith)

pub returns : goal.returns
returns c =
    let a = c.args in
    put-fits a.at a.s.now (omega arith) (written (search rules) c.put.ensures)
