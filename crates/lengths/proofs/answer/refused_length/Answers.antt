-- `lengths::answer::refused_length` meets its contract. Assumes nothing.
use mathlib.Core.Path.{ap}
use Prim.Native.Nat.{ℕ}
use native.Mathlib.Omega.{arith}
use lib.ListN.{length}
use Rattle.refusals.specs.Refusal.{number}
use Rattle.reading.specs.Number.{decimal}
use Rattle.lengths.proofs.Laws.Answer.{refused-length}
use Rattle.lengths.proofs.answer.refused_length.Goals as goal

pub returns-clause-exact : goal.returns-clause-exact
returns-clause-exact c =
    omega (
      arith,
      c.digits.ensures.exact,
      ap (λ (n : ℕ). length (decimal n)) c.number.ensures,
      refused-length (number c.args.r),
    )
