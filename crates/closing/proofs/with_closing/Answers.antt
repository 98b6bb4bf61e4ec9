-- `closing::with_closing` meets its contract. Assumes nothing.
use mathlib.Core.Path.{ap, ◌∙◌}
use Rattle.vectors.specs.Columns.{Digester, digester_columns}
use Rattle.closing.specs.Closing.{with_closing}
use Rattle.closing.proofs.with_closing.Goals as goal

pub returns : goal.returns
returns c =
    let a = c.args in
    c.from-2.ensures
    ∙ ap (λ (v : Digester). digester_columns (with_closing v a.sin.0 a.co.0 a.cn.0)) c.from.ensures
