-- What the two vectors prove of their tables (the trait Vector of the code): each total is a weighing of the columns, and its bound for
-- a vector within its ceilings. An impl's laws are proved from specs/ alone, so these proofs stand here.
--
--   asm1_cod-weigh, ..   the totals as weighings
--   asm1_cod-le, ..      their bounds
use Rattle.std.specs.Prelude.{List, ◌≡◌, ℕ, ◌+◌, ◌≤◌}
use native.Mathlib.Nat.{mul-le-mul_right}
use native.Mathlib.Omega.{arith}
use Rattle.vectors.specs.declared.figures.Figures.{Figures}
use Rattle.vectors.specs.Columns.{asm1, asm1_ceilings, digester, digester_ceilings, Below}
use Rattle.vectors.specs.Figures.{Permitted}
use Rattle.vectors.specs.Totals.{asm1_cod, asm1_tkn, digester_cod, digester_tkn, degraders, weigh, weigh_from}
use Rattle.vectors.specs.Totals.{asm1_cod_weights, asm1_fractions, digester_cod_weights, digester_fractions}

-- ---- the totals as weighings

pub asm1_cod-weigh : (c : List ℕ) → asm1_cod c ≡ weigh asm1_cod_weights c
unfolding weigh_from
asm1_cod-weigh c = omega arith

pub asm1_tkn-weigh : (f : Figures) (c : List ℕ) → asm1_tkn f c ≡ weigh (asm1_fractions f) c
unfolding weigh_from
asm1_tkn-weigh f c = omega arith

pub digester_cod-weigh : (c : List ℕ) → digester_cod c ≡ weigh digester_cod_weights c
unfolding weigh_from
digester_cod-weigh c = omega arith

pub digester_tkn-weigh : (f : Figures) (c : List ℕ) → digester_tkn f c ≡ weigh (digester_fractions f) c
unfolding weigh_from
digester_tkn-weigh f c = omega arith

-- ---- bounds, for vectors within their ceilings

pub asm1_cod-le : (c : List ℕ) → Below asm1_ceilings c → asm1_cod c ≤ 7_000_000_000_000
asm1_cod-le c b = omega (arith, b)

pub asm1_tkn-le : (f : Figures) (c : List ℕ) → Permitted f → Below asm1_ceilings c → asm1_tkn f c ≤ 70_000_000_000_000_000
asm1_tkn-le f c h b =
    let v = asm1 c in
    omega (arith, b, mul-le-mul_right (v.xbh + v.xba) h.ixb_le, mul-le-mul_right (v.xi + v.xp) h.ixe_le)

pub digester_cod-le : (c : List ℕ) → Below digester_ceilings c → digester_cod c ≤ 22_000_000_000_000
digester_cod-le c b = omega (arith, b)

pub digester_tkn-le : (f : Figures) (c : List ℕ) → Permitted f → Below digester_ceilings c → digester_tkn f c ≤ 130_000_000_000_000_000
digester_tkn-le f c h b =
    let d = digester c in
    omega (
      arith,
      b,
      mul-le-mul_right d.xc h.nxc_le,
      mul-le-mul_right (d.si + d.xi) h.ni_le,
      mul-le-mul_right (d.xpr + d.saa) h.naa_le,
      mul-le-mul_right (degraders d) h.nbac_le,
    )
