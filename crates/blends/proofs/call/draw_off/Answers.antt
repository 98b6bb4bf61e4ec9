-- `blends::call::draw_off` meets its contract. Assumes nothing.
use mathlib.Core.Path.{sym}
use Prim.Native.Nat.{◌<◌}
use native.Mathlib.Omega.{arith}
use native.Mathlib.Nat.{mul-le-mul}
use lib.ListN.{length}
use Rattle.vectors.proofs.Laws.Columns.{filled_none, filled_at, filled_more}
use Rattle.vectors.proofs.Laws.Draw.{part-le}
use Rattle.blends.proofs.Laws.Blend.{rests-length, rests-at, columns-low, k-low}
use Rattle.blends.proofs.call.draw_off.Goals as goal

pub loop-i-init : goal.loop-i-init
loop-i-init c = filled_none _ _ (rests-length c.args.ks.now c.args.loads.now c.requires.long)

pub overflow_mul-loads : goal.overflow_mul-loads
overflow_mul-loads c =
    let l = c.loop-i in
    let as_before = filled_at 0 l.invariant (omega (arith, l.invariant.long)) in
    let column = columns-low c.args.ks.now c.args.loads.now l.i c.requires.long c.requires.within (omega (arith, l.invariant.long)) in
    let k = k-low c.args.ks.now l.i c.requires.ks (omega (arith, c.requires.long, l.invariant.long)) in
    record { fits = rw as_before (omega (arith, mul-le-mul column k)) }

pub overflow_sub-loads : goal.overflow_sub-loads
overflow_sub-loads c =
    let l = c.loop-i in
    part-le _ _ (k-low c.args.ks.now l.i c.requires.ks (omega (arith, c.requires.long, l.invariant.long)))

pub loop-i-preserved : goal.loop-i-preserved
loop-i-preserved c =
    let l = c.loop-i in
    let h : l.i < length c.args.loads.now = omega (arith, l.invariant.long) in
    let is = rests-at c.args.ks.now c.args.loads.now l.i c.requires.long h in
    filled_more 0 _ l.invariant h (rw (filled_at 0 l.invariant h) (sym is))
