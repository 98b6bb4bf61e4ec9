-- Held: document 01, "Lines in brackets": COD, TKN, oxygen and nitrate summed over all three tanks, or what sends
-- the record away: 15, then 1 (document 02, E7).
--
--   held_totals   the four totals
--   held_of       what is held
--   RecordBelow   the figures of a record are a permitted set, and every column is at most its ceiling
use Rattle.std.specs.Prelude.{Result, ℕ}
use Rattle.refusals.specs.declared.Refusal.{Refusal}
use Rattle.refusals.specs.Tests.{decide}
use Rattle.vectors.specs.Figures.{Permitted}
use Rattle.vectors.specs.Columns.{Below, asm1_ceilings, digester_ceilings}
use Rattle.vectors.specs.Units.{milligrams, ticks}
use Rattle.plant.specs.declared.record.Plant.{Plant}
use Rattle.plant.specs.Record.{record_refusal}
use Rattle.plant.specs.Tanks.{cod_in, tkn_in, oxygen_in, nitrate_in}
use Rattle.holding.specs.declared.holding.HeldTotals.{HeldTotals}

abbrev pub held_totals : ℕ → ℕ → ℕ → ℕ → HeldTotals
held_totals cod tkn oxygen nitrate =
    record { cod = milligrams cod; tkn = ticks tkn; oxygen = milligrams oxygen; nitrate = ticks nitrate }

unfoldable pub held_of : Plant → Result HeldTotals Refusal
held_of p = decide (record_refusal p) (held_totals (cod_in p) (tkn_in p) (oxygen_in p) (nitrate_in p))

pub record RecordBelow (p : Plant) : Type 0 where
  pub figures : Permitted p.figures
  pub sludge : Below asm1_ceilings p.sludge
  pub digester : Below digester_ceilings p.digester
  pub reject : Below asm1_ceilings p.reject
