-- `sheets::value::Scale::count` meets its contract. Assumes nothing.
use mathlib.Core.Bool.{true, false}
use mathlib.Core.Path.{◌≡◌, ap, ◌∙◌}
use Prim.Native.Nat.{ℕ, ◌*◌, ◌/◌, ◌^◌}
use borrow.Author.Rules.{rules}
use lib.Dec.{T}
use lib.IntN.{pos}
use lib.Ieee.{binary32, fits, fin, of_bits, le}
use Rattle.std.specs.Float.{float_is_finite}
use Rattle.sheets.specs.Value.{capped}
use Rattle.sheets.proofs.Laws.Value.{bits-counted, field-below, infinite-uncounted, test-uncounted}
use Rattle.sheets.proofs.value.Scale.count.Goals as goal

pub returns-then-x : goal.returns-then-x
unfolding of_bits
returns-then-x c =
    let a = c.args in
    let f : T (fits binary32 a.x) = search rules in
    let q : float_is_finite a.x ≡ true = search rules in
    let p : le (fin false 0 (pos 0)) a.x ≡ true = search rules in
    c.count_size.ensures
    ∙ ap (λ (n : ℕ). capped a.self.ceiling (n * a.self.per_unit / 2 ^ 149)) c.parts-m.ensures.size
    ∙ bits-counted a.x a.self.per_unit a.self.ceiling f p (field-below a.x f q)

pub returns-else-x : goal.returns-else-x
unfolding of_bits
returns-else-x c =
    let a = c.args in
    let p : le (fin false 0 (pos 0)) a.x ≡ false = search rules in
    test-uncounted a.x a.self.per_unit a.self.ceiling p

pub returns-else-is_finite : goal.returns-else-is_finite
returns-else-is_finite c =
    let a = c.args in
    let q : float_is_finite a.x ≡ false = search rules in
    infinite-uncounted a.x a.self.per_unit a.self.ceiling q
