-- `blends::call::with_draws` meets its contract. Assumes nothing.
use mathlib.Core.List.{[]}
use mathlib.Core.Path.{refl, sym, ◌∙◌}
use native.Mathlib.Omega.{arith}
use Rattle.vectors.specs.Columns.{asm1_ceilings, within}
use Rattle.plant.specs.Record.{thousandths}
use Rattle.plant.proofs.Laws.Record.{thousandths-le}
use Rattle.blends.proofs.Laws.Blend.{all-at, sum-lost, sum-found, draw-next, draw-above, draw-end}
use Rattle.blends.proofs.call.with_draws.Goals as goal

pub drawn-requires : goal.drawn-requires
drawn-requires c =
    let i = c.loop-i.i in (
      omega arith,
      (
        all-at (within asm1_ceilings) c.args.loads.now i [] (omega arith) c.requires.within,
        thousandths-le _ (all-at thousandths c.args.ks.now i 0 (omega arith) c.requires.ks),
      ),
    )

pub returns-in_err-sum : goal.returns-in_err-sum
returns-in_err-sum c =
    let l = c.loop-i in
    let above = draw-above l.sum c.args.loads.now c.args.ks.now l.i c.requires.long (omega arith) asm1_ceilings l.invariant.so_far
    c.drawn.ensures (sum-lost _ _ (sym c.in_err-sum.was ∙ c.sum_within.ensures)) in
    rw above c.from_residual.ensures

pub loop-i-preserved : goal.loop-i-preserved
loop-i-preserved c =
    let l = c.loop-i in
    let found = sum-found _ _ (sym c.in_ok-sum.was ∙ c.sum_within.ensures) in
    record {
      within = rw found.1 found.0;
      so_far = l.invariant.so_far ∙ draw-next l.sum c.args.loads.now c.args.ks.now l.i c.requires.long (omega arith) c.drawn.ensures
          ∙ rw found.1 refl;
    }

pub returns : goal.returns
returns c =
    let l = c.loop-i in
    let all = l.invariant.so_far ∙ draw-end l.sum c.args.loads.now c.args.ks.now l.i c.requires.long c.loop-i-test.false in
    rw (all, l.invariant.within) refl
