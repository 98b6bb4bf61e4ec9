-- `writing::page::Page::number` meets its contract. Assumes nothing.
use mathlib.Core.Path.{◌∙◌}
use native.Mathlib.Omega.{arith}
use Rattle.writing.proofs.Laws.Decimal.{fewest-le, decimal-is, decimal-length}
use Rattle.writing.proofs.Laws.Page.{wrote_same}
use Rattle.writing.proofs.page.Page.number.Goals as goal

pub returns : goal.returns
returns c =
    let d = c.decimal-k in
    let n = c.args.n in
    let text = d.ensures.digits ∙ decimal-is n d.result (fewest-le n d.result (omega arith) d.ensures.len) d.ensures.len in
    let w = wrote_same text c.put.ensures in
    (w, omega (arith, w.put.next, decimal-length n))
