-- The laws of the definitions: what the rest of the repository, and a reader, may rely on. proofs/Laws proves each.
--
--   ColumnSplits    a column is its draw plus its rest
--   Additive        a total of a sum is the sum of the totals
--   Splits          a total of a vector is that of its draw plus that of its rest
--   Empty           a total of zeros is zero
--   Linear          a total that is these three
--   TotalLaws       COD, TKN, oxygen and nitrate of both vectors are linear
--   PermittedLaw    the test of a set of figures is the inequalities
--   ConstantLaws    the code's constants are the house set and the ceilings
--   SameLaws        what the code's == holds of is the same: sets of figures, and counts of each unit
use Rattle.std.specs.Prelude.{true, List, ◌≡◌, ℕ, ◌+◌, ◌≤◌, get_or, replicate}
use Rattle.vectors.specs.declared.figures.Figures.{Figures}
use Rattle.vectors.specs.Figures.{house, permitted, Permitted}
use Rattle.vectors.specs.Columns.{cod_ceiling, tick_ceiling, added}
use Rattle.vectors.specs.Totals.{asm1_cod, asm1_tkn, asm1_oxygen, asm1_nitrate, digester_cod, digester_tkn, digester_oxygen}
use Rattle.vectors.specs.Totals.{digester_nitrate}
use Rattle.vectors.specs.Draw.{drawn, rest}
use Rattle.vectors.specs.declared.figures.TheConstants.{HOUSE}
use Rattle.vectors.specs.declared.vector.TheConstants.{COD_CEILING, TICK_CEILING}
use Rattle.vectors.specs.declared.units.Milligrams.{Milligrams}
use Rattle.vectors.specs.declared.units.Ticks.{Ticks}
use Rattle.vectors.specs.declared.units.Millimoles.{Millimoles}
use Rattle.vectors.specs.contracts.figures.FiguresPartialEq.TheImpl as figures_eq
use Rattle.vectors.specs.contracts.units.MilligramsPartialEq.TheImpl as milligrams_eq
use Rattle.vectors.specs.contracts.units.TicksPartialEq.TheImpl as ticks_eq
use Rattle.vectors.specs.contracts.units.MillimolesPartialEq.TheImpl as millimoles_eq

-- ---- draws and sums

abbrev pub ColumnSplits : Type 0
ColumnSplits = (k : ℕ) → k ≤ 1000 → (c : List ℕ) (i : ℕ) → get_or (drawn k c) i 0 + get_or (rest k c) i 0 ≡ get_or c i 0

abbrev pub Additive : (List ℕ → ℕ) → Type 0
Additive total = (a b : List ℕ) → total (added a b) ≡ total a + total b

abbrev pub Splits : (List ℕ → ℕ) → Type 0
Splits total = (k : ℕ) → k ≤ 1000 → (c : List ℕ) → total (drawn k c) + total (rest k c) ≡ total c

abbrev pub Empty : (List ℕ → ℕ) → Type 0
Empty total = (n : ℕ) → total (replicate n 0) ≡ 0

pub record Linear (total : List ℕ → ℕ) : Type 0 where
  pub adds : Additive total
  pub splits : Splits total
  pub none : Empty total

pub record TotalLaws : Type 0 where
  pub asm1_cod : Linear asm1_cod
  pub asm1_tkn : (f : Figures) → Linear (asm1_tkn f)
  pub asm1_oxygen : Linear asm1_oxygen
  pub asm1_nitrate : Linear asm1_nitrate
  pub digester_cod : Linear digester_cod
  pub digester_tkn : (f : Figures) → Linear (digester_tkn f)
  pub digester_oxygen : Linear digester_oxygen
  pub digester_nitrate : Linear digester_nitrate

-- ---- figures

pub record PermittedIs (f : Figures) : Type 0 where
  pub bounded : permitted f ≡ true → Permitted f
  pub passes : Permitted f → permitted f ≡ true

abbrev pub PermittedLaw : Type 0
PermittedLaw = (f : Figures) → PermittedIs f

-- ---- the code's constants

pub record ConstantLaws : Type 0 where
  pub house : HOUSE ≡ house
  pub cod_ceiling : COD_CEILING ≡ cod_ceiling
  pub tick_ceiling : TICK_CEILING ≡ tick_ceiling

-- ---- the code's ==

-- what `==` of the code holds of is the same
pub record SameLaws : Type 0 where
  pub figures : (f g : Figures) → figures_eq.ghosts.eq f g ≡ true → f ≡ g
  pub milligrams : (x y : Milligrams) → milligrams_eq.ghosts.eq x y ≡ true → x ≡ y
  pub ticks : (x y : Ticks) → ticks_eq.ghosts.eq x y ≡ true → x ≡ y
  pub millimoles : (x y : Millimoles) → millimoles_eq.ghosts.eq x y ≡ true → x ≡ y
