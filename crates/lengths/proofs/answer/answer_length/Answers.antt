-- `lengths::answer::answer_length` meets its contract. Assumes nothing.
use mathlib.Core.Path.{ap}
use native.Mathlib.Omega.{arith}
use lib.ListN.{length}
use Rattle.plant.specs.declared.answer.Answer.{Answer}
use Rattle.reading.specs.Text.{ascii}
use Rattle.writing.specs.Answer.{answer_text}
use Rattle.lengths.proofs.Laws.Answer.{fed-length, returned-length, accepted-length, handed-length}
use Rattle.lengths.proofs.answer.answer_length.Goals as goal

pub returns-in-Fed-clause-exact : goal.returns-in-Fed-clause-exact
returns-in-Fed-clause-exact c =
    let f = c.in-Fed in
    omega (
      arith,
      ap (λ (a : Answer). length (answer_text a c.args.v)) f.is,
      fed-length f.burnt.0 f.oxygen.0 f.nitrate.0 f.warn,
      c.digits.ensures.exact,
      c.digits-in-Fed.ensures.exact,
      c.digits-in-Fed-2.ensures.exact,
      c.digits-in-Fed-3.ensures.exact,
    )

pub returns-in-Returned-clause-exact : goal.returns-in-Returned-clause-exact
returns-in-Returned-clause-exact c =
    let r = c.in-Returned in
    omega (
      arith,
      ap (λ (a : Answer). length (answer_text a c.args.v)) r.is,
      returned-length r.stripped.0,
      c.digits-in-Returned.ensures.exact,
    )

pub returns-in-Accepted-clause-exact : goal.returns-in-Accepted-clause-exact
returns-in-Accepted-clause-exact c =
    let r = c.in-Accepted in
    omega (
      arith,
      ap (λ (a : Answer). length (answer_text a c.args.v)) r.is,
      accepted-length r.n2.0,
      c.digits-in-Accepted.ensures.exact,
    )

pub returns-in-Released-clause-exact : goal.returns-in-Released-clause-exact
returns-in-Released-clause-exact c =
    omega (
      arith,
      ap (λ (a : Answer). length (answer_text a c.args.v)) c.in-Released.is,
      handed-length (ascii "(ok release") c.args.v,
      c.columns_length.ensures.exact,
    )

pub returns-in-Drawn-clause-exact : goal.returns-in-Drawn-clause-exact
returns-in-Drawn-clause-exact c =
    omega (
      arith,
      ap (λ (a : Answer). length (answer_text a c.args.v)) c.in-Drawn.is,
      handed-length (ascii "(ok draw") c.args.v,
      c.columns_length-in-Drawn.ensures.exact,
    )
