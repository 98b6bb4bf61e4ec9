-- `sheets::call::unseen_in` meets its contract. Assumes nothing.
use mathlib.Core.Path.{◌≡◌, ◌∙◌}
use Prim.Native.Nat.{◌+◌}
use native.Mathlib.Omega.{arith}
use Rattle.vectors.specs.Totals.{asm1_cod, asm1_oxygen}
use Rattle.sheets.specs.Sheet.{unseen_by}
use Rattle.sheets.proofs.Laws.Sheet.{unseen-added}
use Rattle.sheets.proofs.call.unseen_in.Goals as goal

pub returns : goal.returns
unfolding unseen_by
returns c =
    let v = c.limits_of-limits in
    let all : c.plus.result.0 ≡ asm1_cod v.result + asm1_oxygen v.result = omega arith in
    unseen-added v.result _ all ∙ (λ i. unseen_by (v.ensures i) (c.unsampled.ensures i))
