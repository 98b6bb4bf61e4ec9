-- `writing::answer::write_answer` meets its contract. Assumes nothing.
use mathlib.Core.Path.{refl}
use native.Mathlib.Omega.{arith}
use borrow.Author.Rules.{rules}
use Rattle.writing.proofs.Laws.Answer.{paged}
use Rattle.writing.proofs.answer.write_answer.Goals as goal

pub returns : goal.returns
returns c = paged (search rules) (omega arith) refl c.put_answer.ensures
