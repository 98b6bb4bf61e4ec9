-- `lines::blocks::step` meets its contract. Assumes nothing.
use mathlib.Core.Path.{sym, ◌∙◌}
use Rattle.lines.specs.Blocks.{desk}
use Rattle.lines.proofs.Laws.Blocks.{ready-true, step-still, step-goes}
use Rattle.lines.proofs.blocks.step.Goals as goal

pub go_through-requires : goal.go_through-requires
go_through-requires c =
    let a = c.args in ready-true a.block.now (desk a.p a.line.now a.out.now) (sym c.is_ready.ensures ∙ c.if-is_ready.true)

pub returns-then-is_ready-clause-desk_after : goal.returns-then-is_ready-clause-desk_after
returns-then-is_ready-clause-desk_after c = c.go_through.ensures.desk_after ∙ step-goes _ _ (sym c.is_ready.ensures ∙ c.if-is_ready.true)

pub returns-else-is_ready-clause-desk_after : goal.returns-else-is_ready-clause-desk_after
returns-else-is_ready-clause-desk_after c = step-still _ _ (sym c.is_ready.ensures ∙ c.if-is_ready.false)
