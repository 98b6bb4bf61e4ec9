-- `closing::gap` meets its contract. Assumes nothing.
use mathlib.Core.Path.{sym, ap, ◌∙◌}
use Rattle.std.specs.Prelude.{Ok}
use Rattle.vectors.specs.Columns.{digester_ceilings}
use Rattle.vectors.proofs.Laws.Columns.{within-below}
use Rattle.plant.proofs.Laws.Decision.{stop-by, pass-by, stop, pass}
use Rattle.plant.proofs.Laws.Record.{usable-permitted, usable-within, digester-within}
use Rattle.closing.specs.Closing.{gap_of}
use Rattle.closing.proofs.gap.Goals as goal

pub returns-in_err-usable : goal.returns-in_err-usable
unfolding gap_of
returns-in_err-usable c = stop-by _ _ _ c.in_err-usable.ensures c.from_residual.ensures.1

pub returns-in_err-unless : goal.returns-in_err-unless
unfolding gap_of
returns-in_err-unless c =
    pass-by _ _ _ c.in_ok-usable.ensures
    (stop _ _ _ _ c.is_within.ensures c.in_err-unless.ensures.sent c.from_residual-in_err-unless.ensures.1)

pub invariant_of-proposal : goal.invariant_of-proposal
invariant_of-proposal c =
    record {
      permitted = usable-permitted _ (sym c.in_ok-usable.ensures);
      old_low = within-below digester_ceilings _ (digester-within _ (usable-within _ (sym c.in_ok-usable.ensures)));
      new_low = within-below digester_ceilings _ (sym c.is_within.ensures ∙ c.in_ok-unless.ensures.passed);
    }

pub returns : goal.returns
unfolding gap_of
returns c =
    pass-by _ _ _ c.in_ok-usable.ensures
    (pass _ _ _ _ c.is_within.ensures c.in_ok-unless.ensures.passed
    (ap (λ g. Ok g) c.gaps.ensures))
