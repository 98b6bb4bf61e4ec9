-- `holding::holding::held` meets its contract. Assumes nothing.
use mathlib.Core.Path.{refl, ◌∙◌}
use Rattle.vectors.specs.Units.{milligrams, ticks}
use Rattle.interface.proofs.Laws.Whole.{err-is}
use Rattle.holding.proofs.Laws.Held.{record-below, held-usable, held-refused}
use Rattle.holding.proofs.holding.held.Goals as goal

pub invariant_of-tanks : goal.invariant_of-tanks
invariant_of-tanks c = record { low = record-below c.args.plant c.in_ok-usable.ensures }

pub returns-in_err-usable : goal.returns-in_err-usable
returns-in_err-usable c =
    err-is c.from_residual.result c.from_residual.ensures.1 refl ∙ held-refused c.args.plant c.in_err-usable.ensures

pub returns : goal.returns
returns c =
    held-usable c.args.plant c.in_ok-usable.ensures
    (λ i.
    record {
      cod = milligrams (c.cod.ensures i);
      tkn = ticks (c.tkn.ensures i);
      oxygen = milligrams (c.oxygen.ensures i);
      nitrate = ticks (c.nitrate.ensures i);
    })
