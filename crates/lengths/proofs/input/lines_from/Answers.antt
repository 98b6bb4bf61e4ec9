-- `lengths::input::lines_from` meets its contract. Assumes nothing.
use mathlib.Core.Path.{ap}
use mathlib.Core.List.{List}
use Prim.Native.Nat.{ℕ}
use native.Mathlib.Omega.{arith}
use lib.ListN.{length}
use Rattle.lengths.proofs.Laws.Cut.{cut-here, cut-end}
use Rattle.lengths.proofs.input.lines_from.Goals as goal

pub loop-at-preserved : goal.loop-at-preserved
loop-at-preserved c =
    let l = c.loop-at in
    let first = cut-here c.args.input.now l.at c.find_byte-at.result c.loop-at-test.true c.find_byte-at.ensures.first_place in (
      omega (arith, c.find_byte-at.ensures.first_place, l.invariant.0),
      omega (arith, ap (λ (ls : List (List ℕ)). length ls) first, l.invariant.1),
    )

pub returns : goal.returns
returns c =
    let l = c.loop-at in
    omega (arith, l.invariant.1, ap (λ (ls : List (List ℕ)). length ls) (cut-end c.args.input.now l.at c.loop-at-test.false))
