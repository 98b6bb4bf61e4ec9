-- Loops of `call::with_draws`.
use mathlib.Core.Bool.{true}
use mathlib.Core.Path.{◌≡◌}
use lib.ListN.{drop}
use Rattle.std.specs.List.{zip}
use Rattle.vectors.specs.Columns.{asm1_ceilings, within, added}
use Rattle.blends.specs.Blend.{draws}
use Rattle.blends.proofs.call.with_draws.Given as goal

abbrev pub invariant-loop-i : goal.invariant-loop-i
invariant-loop-i l =
    record {
      within : within asm1_ceilings l.sum ≡ true;
      so_far : added l.fn.sludge (draws (zip l.fn.loads l.fn.ks)) ≡ added l.sum (draws (drop l.i (zip l.fn.loads l.fn.ks)));
    }
