-- `composing::line::write_line` meets its contract. Assumes nothing.
use mathlib.Core.Path.{refl}
use native.Mathlib.Omega.{arith}
use borrow.Author.Rules.{rules}
use Rattle.writing.proofs.Laws.Page.{wrote_then}
use Rattle.composing.proofs.Laws.Buffer.{line_refused, line-written}
use Rattle.composing.proofs.line.write_line.Goals as goal

pub returns-then-buf-lt1025 : goal.returns-then-buf-lt1025
returns-then-buf-lt1025 c = line_refused _ _ _ (omega arith)

pub returns : goal.returns
returns c =
    let w = wrote_then c.put_entry.ensures.0 c.put.ensures (omega arith) in
    line-written c.args.asked.preview c.args.asked.request (search rules) (omega arith) refl w
