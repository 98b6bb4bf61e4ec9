-- The units of the code: document 01, "Units, columns and the house set". The definitions are over whole numbers; where one gives a
-- struct of the code, these put a number into its unit.
--
--   milligrams   of COD or of oxygen
--   ticks        of nitrogen or of nitrate, 0.0001 mg N each
--   millimoles   of alkalinity or of inorganic carbon
use Rattle.std.specs.Prelude.{ℕ}
use Rattle.vectors.specs.declared.units.Milligrams.{Milligrams}
use Rattle.vectors.specs.declared.units.Millimoles.{Millimoles}
use Rattle.vectors.specs.declared.units.Ticks.{Ticks}

abbrev pub milligrams : ℕ → Milligrams
milligrams n = record { 0 = n }

abbrev pub ticks : ℕ → Ticks
ticks n = record { 0 = n }

abbrev pub millimoles : ℕ → Millimoles
millimoles n = record { 0 = n }
