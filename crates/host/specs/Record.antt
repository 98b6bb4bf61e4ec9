-- The record as a host lends it: 61 numbers one behind the other.
--
--   plant_at     the plant record that 61 numbers stand for: sludge 13, digester 26, reject 13, and nine figures (document 02, E7)
--   columns_at   a plant record's 61 numbers
--   ColumnsLaw   they are those that the record was taken from, so that a refused call leaves them as they were.
--                proofs/Laws/Record.antt proves it: plant-columns
use Rattle.std.specs.Prelude.{List, ◌++◌, ◌≡◌, ℕ, length, take, drop}
use Rattle.vectors.specs.Figures.{figures_of, figures_list}
use Rattle.plant.specs.declared.record.Plant.{Plant}

abbrev pub plant_at : List ℕ → Plant
plant_at cs =
    record {
      sludge = take 13 cs;
      digester = take 26 (drop 13 cs);
      reject = take 13 (drop 39 cs);
      figures = figures_of (take 9 (drop 52 cs));
    }

abbrev pub columns_at : Plant → List ℕ
columns_at p = p.sludge ++ (p.digester ++ (p.reject ++ figures_list p.figures))

abbrev pub ColumnsLaw : Type 0
ColumnsLaw = (cs : List ℕ) → length cs ≡ 61 → columns_at (plant_at cs) ≡ cs
