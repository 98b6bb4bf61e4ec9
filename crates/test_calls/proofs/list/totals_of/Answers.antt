-- `test_calls::list::totals_of` meets its contract. Assumes nothing.
use native.Mathlib.Omega.{arith}
use Rattle.std.proofs.Common.{sym, ◌∙◌}
use Rattle.vectors.specs.Columns.{asm1_ceilings}
use Rattle.vectors.proofs.Laws.Columns.{within-below}
use Rattle.vectors.proofs.Laws.Figures.{permitted-law}
use Rattle.test_calls.proofs.list.totals_of.Goals as goal

pub cod-requires : goal.cod-requires
cod-requires c = (omega arith, within-below asm1_ceilings _ (sym c.is_within.ensures ∙ c.if-is_within.true))

pub tkn-requires : goal.tkn-requires
tkn-requires c =
    let permitted = (permitted-law c.args.f).bounded (sym c.is_permitted.ensures ∙ c.if-is_permitted.true) in
    (omega arith, (permitted, within-below asm1_ceilings _ (sym c.is_within.ensures ∙ c.if-is_within.true)))
