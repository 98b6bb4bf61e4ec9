-- `writing::answer::filled_answer` meets its contract. Assumes nothing.
use mathlib.Core.Path.{◌∙◌}
use Rattle.writing.proofs.Laws.Buffer.{filled, behind}
use Rattle.writing.proofs.answer.filled_answer.Goals as goal

pub returns-clause-part : goal.returns-clause-part
returns-clause-part c =
    (c.split_filled.ensures.part.0 ∙ filled c.write_answer-n.ensures, c.split_filled.ensures.part.1)

pub returns-clause-behind : goal.returns-clause-behind
returns-clause-behind c = c.split_filled.ensures.behind ∙ behind c.write_answer-n.ensures
