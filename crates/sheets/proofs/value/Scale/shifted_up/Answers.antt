-- `sheets::value::Scale::shifted_up` meets its contract. Assumes nothing.
use mathlib.Core.Path.{◌≡◌, ◌∙◌}
use Prim.Native.Nat.{◌*◌, ◌^◌, ◌≤◌}
use native.Mathlib.Nat.{le-div_iff_mul-le}
use native.Mathlib.Omega.{arith}
use lib.Pow.{pow_pos}
use borrow.Author.Tests.{le-leb}
use Rattle.sheets.proofs.Laws.Value.{shl-or}
use Rattle.sheets.proofs.value.Scale.shifted_up.Goals as goal

pub returns-then-n-shifted_down : goal.returns-then-n-shifted_down
returns-then-n-shifted_down c =
    let a = c.args in
    let fit : a.n * 2 ^ a.by ≤ a.self.ceiling = (le-div_iff_mul-le (pow_pos a.by)).0 (omega arith) in
    let n : c.unwrap_or.result ≡ a.n * 2 ^ a.by = c.unwrap_or.ensures ∙ shl-or _ _ _ c.checked_shl.ensures (omega arith) in
    rw (n, le-leb _ _ fit)
