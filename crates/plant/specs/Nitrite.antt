-- Nitrite from the side-stream reactor: document 02, E12. ASM1 has no column for it, so that it is lumped into nitrate by equal COD.
--
--   nitrite_ceiling   10^16 ticks
--   acceptable        neither a column nor the nitrite is above its ceiling (refusal 3)
--   lumped            what of n ticks of nitrite joins sno
--   with_nitrite      a vector with that in its sno
--   n2_of             the rest, told as N2
use Rattle.std.specs.Prelude.{Bool, ◌&&◌, List, ◌∷◌, ◌++◌, ℕ, ◌-◌, ◌*◌, ◌/◌, leb, replicate}
use Rattle.vectors.specs.declared.units.Ticks.{Ticks}
use Rattle.vectors.specs.Units.{ticks}
use Rattle.vectors.specs.Columns.{asm1_ceilings, within, added}

abbrev pub nitrite_ceiling : ℕ
nitrite_ceiling = 10_000_000_000_000_000

abbrev pub acceptable : List ℕ → Ticks → Bool
acceptable v n = within asm1_ceilings v && leb n.0 nitrite_ceiling

-- on its way to N2 nitrite takes 24/14 mg of COD for 1 mg N, and nitrate 40/14
abbrev pub lumped : ℕ → ℕ
lumped n = 3 * n / 5

-- m ticks of nitrate and nothing else
abbrev pub nitrate_alone : ℕ → List ℕ
nitrate_alone m = replicate 8 0 ++ (m ∷ replicate 4 0)

unfoldable pub with_nitrite : List ℕ → Ticks → List ℕ
with_nitrite v n = added v (nitrate_alone (lumped n.0))

abbrev pub n2_of : Ticks → Ticks
n2_of n = ticks (n.0 - lumped n.0)
