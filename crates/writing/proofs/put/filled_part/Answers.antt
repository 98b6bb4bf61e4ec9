-- `writing::put::filled_part` meets its contract. Assumes nothing.
use mathlib.Core.Path.{refl, sym, ap, ◌∙◌}
use Prim.Native.Nat.{ℕ}
use native.Mathlib.Omega.{arith}
use lib.ListN.{take}
use lib.Seq.{length-take-le}
use Rattle.std.proofs.lemmas.List.{take_min}
use Rattle.writing.proofs.put.filled_part.Goals as goal

pub returns : goal.returns
returns c = let a = c.args in (ap (λ (n : ℕ). take n a.buf.now) c.min.ensures ∙ take_min a.n a.buf.now, refl)

pub slice_bounds-result-end : goal.slice_bounds-result-end
slice_bounds-result-end c = sym (length-take-le c.min.result c.args.buf.now (omega arith))
