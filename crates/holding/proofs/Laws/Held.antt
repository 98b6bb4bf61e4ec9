-- Laws of what is held. Assumes nothing.
--
--   record-below                the figures and tanks of a record that is not sent away, as inequalities
--   held-usable, held-refused   the held totals, by what sends the record away
use mathlib.Core.Path.{◌≡◌, sym, ap}
use Rattle.std.specs.Prelude.{None, Some, Ok, Err}
use Rattle.refusals.specs.declared.Refusal.{Refusal}
use Rattle.vectors.specs.Columns.{asm1_ceilings, digester_ceilings}
use Rattle.vectors.proofs.Laws.Columns.{within-below}
use Rattle.plant.specs.declared.record.Plant.{Plant}
use Rattle.plant.specs.Record.{record_refusal}
use Rattle.plant.specs.Tanks.{cod_in, tkn_in, oxygen_in, nitrate_in}
use Rattle.plant.proofs.Laws.Record.{usable-permitted, usable-within, sludge-within, digester-within, reject-within}
use Rattle.holding.specs.declared.holding.HeldTotals.{HeldTotals}
use Rattle.holding.specs.Held.{RecordBelow, held_totals, held_of}

pub record-below : (p : Plant) → None ≡ record_refusal p → RecordBelow p
record-below p e =
    let h = usable-within p (sym e) in
    record {
      figures = usable-permitted p (sym e);
      sludge = within-below asm1_ceilings p.sludge (sludge-within p h);
      digester = within-below digester_ceilings p.digester (digester-within p h);
      reject = within-below asm1_ceilings p.reject (reject-within p h);
    }

-- ---- what is held

module _ (p : Plant) where
  pub held-usable : {x : HeldTotals} → None ≡ record_refusal p → x ≡ held_totals (cod_in p) (tkn_in p) (oxygen_in p) (nitrate_in p)
      → Ok x ≡ held_of p
  unfolding held_of
  held-usable h e = rw (sym h) (ap Ok e)

  pub held-refused : {r : Refusal} → Some r ≡ record_refusal p → Err r ≡ held_of p
  unfolding held_of
  held-refused h = rw (sym h)
