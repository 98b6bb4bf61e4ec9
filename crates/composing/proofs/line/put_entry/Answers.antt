-- `composing::line::put_entry` meets its contract. Assumes nothing.
use native.Mathlib.Omega.{arith}
use Rattle.writing.proofs.Laws.Page.{wrote_then, wrote_same}
use Rattle.composing.proofs.Laws.Buffer.{entry-preview}
use Rattle.composing.proofs.line.put_entry.Goals as goal

pub returns-then-asked : goal.returns-then-asked
returns-then-asked c =
    let w = wrote_then c.put.ensures (wrote_then c.put_call.ensures.0 c.put-then-asked.ensures (omega arith)) (omega arith) in
    (wrote_same (entry-preview c.args.asked.now.request c.if-asked.true) w, omega arith)
