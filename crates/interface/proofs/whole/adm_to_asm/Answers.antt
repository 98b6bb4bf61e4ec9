-- `interface::whole::adm_to_asm` meets its contract. Assumes nothing.
use mathlib.Core.Path.{sym, ◌∙◌}
use Rattle.vectors.specs.Columns.{digester_ceilings}
use Rattle.vectors.proofs.Laws.Columns.{within-below}
use Rattle.vectors.proofs.Laws.Figures.{permitted-law}
use Rattle.interface.specs.Whole.{adm_to_asm}
use Rattle.interface.proofs.Laws.Whole.{err-is, taken, sent}
use Rattle.interface.proofs.whole.adm_to_asm.Goals as goal

pub return_of-requires : goal.return_of-requires
return_of-requires c = (
  (permitted-law c.args.f).bounded (sym c.is_permitted.ensures ∙ c.in_ok-unless.ensures.passed),
  within-below digester_ceilings _ (sym c.is_within.ensures ∙ c.in_ok-unless-2.ensures.passed),
)

pub returns-in_err-unless : goal.returns-in_err-unless
unfolding adm_to_asm
returns-in_err-unless c =
    let e = c.in_err-unless.ensures.sent in
    sent _ _ _ c.is_permitted.ensures e.0 (err-is c.from_residual.result c.from_residual.ensures.1 e.1)

pub returns-in_err-unless-2 : goal.returns-in_err-unless-2
unfolding adm_to_asm
returns-in_err-unless-2 c =
    let e = c.in_err-unless-2.ensures.sent in
    let given = err-is c.from_residual-in_err-unless-2.result c.from_residual-in_err-unless-2.ensures.1 e.1 in
    taken _ _ _ c.is_permitted.ensures c.in_ok-unless.ensures.passed (sent _ _ _ c.is_within.ensures e.0 given)

pub returns : goal.returns
unfolding adm_to_asm
returns c =
    taken _ _ _ c.is_permitted.ensures c.in_ok-unless.ensures.passed
    (taken _ _ _ c.is_within.ensures c.in_ok-unless-2.ensures.passed c.return_of.ensures)
