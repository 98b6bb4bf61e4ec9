-- The nine figures, the house set and the permitted sets: document 01, "Units, columns and the house set", and document 02, E7.
--
--   Figures                    the struct of the code: ixb ixe nxc ni naa nbac in ticks of nitrogen per milligram of COD, fxi fch fli in
--                              parts in ten thousand
--   house                      the house set: ixb and ixe are iXB and iXP of source document 001, Table 7; the others are house figures
--   figures_of, figures_list   the set that nine numbers are, in this order, and its numbers again
--   permitted                  the sets that a record may have: 0 to 10000 each, and no divisor zero
--   Permitted                  the same as one inequality for each bound; ./Laws.antt claims that both say the same
use Rattle.std.specs.Prelude.{Bool, ◌&&◌, List, [], ◌∷◌, ℕ, ◌+◌, ◌≤◌, leb, get_or, replicate}
use Rattle.vectors.specs.declared.figures.Figures.{Figures}
use Rattle.vectors.specs.Columns.{within}

abbrev pub house : Figures
house =
    record { ixb = 880; ixe = 880; nxc = 280; ni = 280; naa = 980; nbac = 875; fxi = 8000; fch = 2000; fli = 2500 }

-- ---- as nine numbers

-- a number past the end of a list counts as zero
abbrev pub figures_of : List ℕ → Figures
figures_of n =
    record {
      ixb = get_or n 0 0;
      ixe = get_or n 1 0;
      nxc = get_or n 2 0;
      ni = get_or n 3 0;
      naa = get_or n 4 0;
      nbac = get_or n 5 0;
      fxi = get_or n 6 0;
      fch = get_or n 7 0;
      fli = get_or n 8 0;
    }

abbrev pub figures_list : Figures → List ℕ
figures_list f = f.ixb ∷ f.ixe ∷ f.nxc ∷ f.ni ∷ f.naa ∷ f.nbac ∷ f.fxi ∷ f.fch ∷ f.fli ∷ []

-- ---- permitted sets

-- each 0 to 10000; nxc and naa at least 1, and fch + fli too
unfoldable pub permitted : Figures → Bool
permitted f = within (replicate 9 10000) (figures_list f) && (leb 1 f.nxc && (leb 1 f.naa && leb 1 (f.fch + f.fli)))

pub record Permitted (f : Figures) : Type 0 where
  pub ixb_le : f.ixb ≤ 10000
  pub ixe_le : f.ixe ≤ 10000
  pub nxc_le : f.nxc ≤ 10000
  pub ni_le : f.ni ≤ 10000
  pub naa_le : f.naa ≤ 10000
  pub nbac_le : f.nbac ≤ 10000
  pub fxi_le : f.fxi ≤ 10000
  pub fch_le : f.fch ≤ 10000
  pub fli_le : f.fli ≤ 10000
  pub nxc_some : 1 ≤ f.nxc
  pub naa_some : 1 ≤ f.naa
  pub fch_fli_some : 1 ≤ f.fch + f.fli
