-- `writing::page::Page::column` meets its contract. Assumes nothing.
use mathlib.Core.Path.{◌∙◌}
use native.Mathlib.Nat.{zero-add}
use native.Mathlib.Omega.{arith}
use Rattle.reading.specs.Text.{space}
use Rattle.reading.proofs.Laws.Text.{up_to-place}
use Rattle.writing.specs.Answer.{column_text}
use Rattle.writing.proofs.Laws.Page.{wrote_then, wrote_same}
use Rattle.writing.proofs.page.Page.column.Goals as goal

pub returns : goal.returns
unfolding column_text
returns c =
    let place = c.find_byte-k.ensures.first_place ∙ zero-add _ in
    let name = wrote_same (up_to-place space c.args.name.now c.find_byte-k.result place) c.put-2.ensures in
    let number = wrote_then c.labelled.ensures.0 c.put-3.ensures (omega arith) in
    (wrote_then c.put.ensures (wrote_then name number (omega arith)) (omega arith), omega arith)
