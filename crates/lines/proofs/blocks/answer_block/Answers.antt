-- `lines::blocks::answer_block` meets its contract. Assumes nothing.
use mathlib.Core.Path.{sym, ◌∙◌}
use native.Mathlib.Omega.{arith}
use Rattle.lines.specs.Blocks.{desk}
use Rattle.lines.proofs.Laws.Blocks.{ready-true, step-goes}
use Rattle.lines.proofs.Laws.Run.{block-step, block-done}
use Rattle.lines.proofs.blocks.answer_block.Goals as goal

pub go_through-requires : goal.go_through-requires
go_through-requires c =
    let l = c.loop-q in
    ready-true c.args.block.now (desk l.q l.line l.out) (sym c.is_ready.ensures ∙ c.loop-q-test.true)

pub loop-q-preserved : goal.loop-q-preserved
loop-q-preserved c =
    let l = c.loop-q in
    let i = l.invariant in
    let s = c.go_through in
    let k = desk l.q l.line l.out in
    let goes = step-goes c.args.block.now k (sym c.is_ready.ensures ∙ c.loop-q-test.true) in (
      omega arith,
      omega arith,
      λ b. omega (arith, i.1, s.ensures.at_in_bounds),
      block-step c.args.block.now k _ (s.ensures.desk_after ∙ goes) ∙ i.3,
    )

pub returns-clause-desk_after : goal.returns-clause-desk_after
returns-clause-desk_after c =
    let l = c.loop-q in
    block-done c.args.block.now (desk l.q l.line l.out) (sym c.is_ready.ensures ∙ c.loop-q-test.false) ∙ l.invariant.3
