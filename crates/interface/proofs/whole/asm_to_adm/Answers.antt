-- `interface::whole::asm_to_adm` meets its contract. Assumes nothing.
use mathlib.Core.Path.{sym, ◌∙◌}
use Rattle.vectors.specs.Columns.{asm1_ceilings}
use Rattle.vectors.proofs.Laws.Columns.{within-below}
use Rattle.vectors.proofs.Laws.Figures.{permitted-law}
use Rattle.interface.specs.Whole.{asm_to_adm}
use Rattle.interface.proofs.Laws.Whole.{err-is, taken, sent}
use Rattle.interface.proofs.whole.asm_to_adm.Goals as goal

pub feed_of-requires : goal.feed_of-requires
feed_of-requires c = (
  (permitted-law c.args.f).bounded (sym c.is_permitted.ensures ∙ c.in_ok-unless.ensures.passed),
  within-below asm1_ceilings _ (sym c.is_within.ensures ∙ c.in_ok-unless-2.ensures.passed),
)

pub returns-in_err-unless : goal.returns-in_err-unless
unfolding asm_to_adm
returns-in_err-unless c =
    let e = c.in_err-unless.ensures.sent in
    sent _ _ _ c.is_permitted.ensures e.0 (err-is c.from_residual.result c.from_residual.ensures.1 e.1)

pub returns-in_err-unless-2 : goal.returns-in_err-unless-2
unfolding asm_to_adm
returns-in_err-unless-2 c =
    let e = c.in_err-unless-2.ensures.sent in
    let given = err-is c.from_residual-in_err-unless-2.result c.from_residual-in_err-unless-2.ensures.1 e.1 in
    taken _ _ _ c.is_permitted.ensures c.in_ok-unless.ensures.passed (sent _ _ _ c.is_within.ensures e.0 given)

pub returns : goal.returns
unfolding asm_to_adm
returns c =
    taken _ _ _ c.is_permitted.ensures c.in_ok-unless.ensures.passed
    (taken _ _ _ c.is_within.ensures c.in_ok-unless-2.ensures.passed c.feed_of.ensures)
