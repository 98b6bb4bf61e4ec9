-- `writing::answer::put_handed` meets its contract. Assumes nothing.
use native.Mathlib.Omega.{arith}
use Rattle.reading.specs.Text.{up_to}
use Rattle.writing.specs.Answer.{handed_text}
use Rattle.writing.proofs.Laws.Page.{wrote_then}
use Rattle.writing.proofs.answer.put_handed.Goals as goal

pub returns : goal.returns
unfolding up_to handed_text
returns c =
    (wrote_then c.put.ensures (wrote_then c.columns.ensures.0 c.put-2.ensures (omega arith)) (omega arith), omega arith)
