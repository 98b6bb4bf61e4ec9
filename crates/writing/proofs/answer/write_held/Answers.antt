-- `writing::answer::write_held` meets its contract. Assumes nothing.
use mathlib.Core.Path.{refl}
use native.Mathlib.Omega.{arith}
use borrow.Author.Rules.{rules}
use Rattle.writing.proofs.Laws.Answer.{paged}
use Rattle.writing.proofs.answer.write_held.Goals as goal

pub returns : goal.returns
returns c = paged (search rules) (omega arith) refl c.put_held.ensures
