-- `writing::answer::put_answer` meets its contract. Assumes nothing.
use mathlib.Core.Path.{sym, ap}
use native.Mathlib.Omega.{arith}
use Rattle.plant.specs.declared.answer.Answer.{Answer}
use Rattle.writing.specs.Answer.{answer_text}
use Rattle.writing.proofs.Laws.Page.{wrote_same}
use Rattle.writing.proofs.answer.put_answer.Goals as goal

pub returns-in-Accepted : goal.returns-in-Accepted
returns-in-Accepted c =
    let told = c.told-in-Accepted.ensures in
    (wrote_same (ap (λ (a : Answer). answer_text a c.args.v) (sym c.in-Accepted.is)) told.0, omega arith)
