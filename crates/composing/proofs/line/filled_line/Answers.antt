-- `composing::line::filled_line` meets its contract. Assumes nothing.
use mathlib.Core.Path.{ap, ◌∙◌}
use lib.ListN.{take, drop}
use Rattle.composing.proofs.Laws.Buffer.{line-filled, line-behind}
use Rattle.composing.proofs.line.filled_line.Goals as goal

pub returns-clause-part : goal.returns-clause-part
returns-clause-part c =
    let count = ap (λ n. take n c.write_line.new.buf) c.unwrap_or-n.ensures in
    (c.split_filled.ensures.part.0 ∙ count ∙ line-filled _ _ _ c.write_line.ensures, c.split_filled.ensures.part.1)

pub returns-clause-behind : goal.returns-clause-behind
returns-clause-behind c =
    let count = ap (λ n. drop n c.write_line.new.buf) c.unwrap_or-n.ensures in
    c.split_filled.ensures.behind ∙ count ∙ line-behind _ _ _ c.write_line.ensures
