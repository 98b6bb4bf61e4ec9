-- Whole files balance. Assumes nothing.
--
--   file   for any input, the sums over its accepted lines balance against its held line, which is never a refusal
use mathlib.Core.Path.{ap, ◌∙◌}
use Rattle.plant.specs.Record.{fresh_plant}
use Rattle.plant.specs.Tanks.{cod_in, tkn_in, oxygen_in, nitrate_in}
use Rattle.holding.specs.Held.{held_totals, held_of}
use Rattle.balances.specs.Balance.{after}
use Rattle.balances.proofs.Laws.Balance.{balance}
use Rattle.balances.proofs.Laws.Within.{held_after}
use Rattle.lines.specs.Session.{cut_lines, entries, FileLaw}
use Rattle.lines.proofs.Laws.Session.{after-entries}

pub file : FileLaw
file f h s =
    let es = entries (cut_lines s) in
    let b = balance f es in
    let p = after (fresh_plant f) es in
    record {
      held = held_totals (cod_in p) (tkn_in p) (oxygen_in p) (nitrate_in p);
      told = ap held_of (after-entries (fresh_plant f) (cut_lines s)) ∙ held_after f h es;
      cod = b.cod;
      tkn = b.tkn;
      oxygen = b.oxygen;
      nitrate = b.nitrate;
    }
