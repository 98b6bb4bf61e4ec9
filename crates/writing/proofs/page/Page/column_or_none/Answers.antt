-- `writing::page::Page::column_or_none` meets its contract. Assumes nothing.
use mathlib.Core.Path.{◌≡◌}
use native.Mathlib.Omega.{arith}
use Rattle.reading.specs.Names.{unpadded}
use Rattle.writing.specs.Answer.{column_text, column_or_none}
use Rattle.writing.proofs.Laws.Page.{wrote_same, wrote-nothing, column-all, column-some, column-none}
use Rattle.writing.proofs.page.Page.column_or_none.Goals.{then-zeros-via-then-zeros, then-zeros-via-else-zeros+then-n-ne0}
use Rattle.writing.proofs.page.Page.column_or_none.Goals as goal

pub returns-then-zeros : goal.returns-then-zeros
returns-then-zeros c =
    let a = c.args in
    let name = unpadded a.name.now in
    let same : column_text name a.n ≡ column_or_none a.zeros name a.n = elim c.then-zeros.branch [
      | then-zeros-via-then-zeros w ↦ column-all a.zeros name a.n w.if-zeros.true
      | then-zeros-via-else-zeros+then-n-ne0 w ↦ column-some a.zeros name a.n (λ z. omega (arith, z, w.if-n-ne0.true))
    ] in
    (wrote_same same c.column.ensures.0, c.column.ensures.1)

pub returns-else-n-ne0 : goal.returns-else-n-ne0
returns-else-n-ne0 c =
    let none = column-none c.args.zeros _ c.args.n c.if-zeros.false (omega arith) in
    (wrote_same none (wrote-nothing c.args.self.now), omega arith)
