-- `lengths::answer::held_length` meets its contract. Assumes nothing.
use mathlib.Core.Path.{ap}
use native.Mathlib.Omega.{arith}
use lib.ListN.{length}
use Rattle.std.specs.Prelude.{Result}
use Rattle.refusals.specs.declared.Refusal.{Refusal}
use Rattle.holding.specs.declared.holding.HeldTotals.{HeldTotals}
use Rattle.writing.specs.Answer.{held_text}
use Rattle.lengths.proofs.Laws.Answer.{totals-length}
use Rattle.lengths.proofs.answer.held_length.Goals as goal

pub returns-in-Ok-clause-exact : goal.returns-in-Ok-clause-exact
returns-in-Ok-clause-exact c =
    let t = c.in-Ok in
    omega (
      arith,
      ap (λ (h : Result HeldTotals Refusal). length (held_text h)) t.is,
      totals-length t.t.cod.0 t.t.tkn.0 t.t.oxygen.0 t.t.nitrate.0,
      c.digits.ensures.exact,
      c.digits-in-Ok.ensures.exact,
      c.digits-in-Ok-2.ensures.exact,
      c.digits-in-Ok-3.ensures.exact,
    )
