-- Return: document 01, "Return"; source document 004, "ADM1 → ASM1".
--
--   soluble, particulate         the COD that becomes ss, and xs
--   Nitrogen                     what the three nitrogen columns hold
--   nitrogen_of                  document 01's start: xnd, snd and snh by the digester's columns
--   taken                        nitrogen taken from xnd, then snd, then snh
--   returned_vector              the ASM1 vector
--   return_digester, return_of   the whole conversion: refusal 5 (ReturnShort), or the vector and the COD stripped
--
-- Where document 01 parts from 004: ixe × xi is taken from xnd, then snd, then snh, and a shortage refuses the return, where 004 lets xnd
-- go below zero.
use Rattle.std.specs.Prelude.{Bool, cond, Result, Ok, Err, List, ℕ, ◌+◌, ◌-◌, ◌*◌, ltb}
use Rattle.refusals.specs.declared.Refusal.{Refusal}
use Rattle.refusals.specs.declared.Refusal.TheVariants.{ReturnShort}
use Rattle.vectors.specs.declared.figures.Figures.{Figures}
use Rattle.interface.specs.declared.returning.Returned.{Returned}
use Rattle.vectors.specs.Columns.{Asm1, asm1_columns, Digester, digester}
use Rattle.vectors.specs.Totals.{degraders}
use Rattle.vectors.specs.Units.{milligrams}

-- ---- COD (004, "COD Conversions", "Dissolved Gaseous COD")

abbrev pub soluble : Digester → ℕ
soluble d = d.ssu + d.saa + d.sfa + d.sva + d.sbu + d.spro + d.sac

abbrev pub particulate : Digester → ℕ
particulate d = d.xc + d.xch + d.xpr + d.xli + degraders d

abbrev pub stripped : Digester → ℕ
stripped d = d.sh2 + d.sch4

-- ---- nitrogen (004, "TKN Conversions")

pub record Nitrogen : Type 0 where
  pub xnd : ℕ
  pub snd : ℕ
  pub snh : ℕ

abbrev pub nitrogen_of : Figures → Digester → Nitrogen
nitrogen_of f d =
    record {
      xnd = f.nxc * d.xc + f.naa * d.xpr + f.nbac * degraders d + f.ni * d.xi;
      snd = f.naa * d.saa + f.ni * d.si;
      snh = d.sin;
    }

-- q taken from n; a difference below zero counts as zero
unfoldable pub taken : ℕ → Nitrogen → Nitrogen
taken q n = record { xnd = n.xnd - q; snd = n.snd - (q - n.xnd); snh = n.snh - (q - n.xnd - n.snd) }

unfoldable pub return_short : ℕ → Nitrogen → Bool
return_short q n = ltb (n.xnd + n.snd + n.snh) q

-- ---- the whole conversion

-- biomass and xp are zero; so, sno and salk are co, cn and sic
abbrev pub returned_vector : Digester → Nitrogen → Asm1
returned_vector d n =
    record {
      si = d.si;
      ss = soluble d;
      xi = d.xi;
      xs = particulate d;
      xbh = 0;
      xba = 0;
      xp = 0;
      so = d.co;
      sno = d.cn;
      snh = n.snh;
      snd = n.snd;
      xnd = n.xnd;
      salk = d.sic;
    }

-- what an accepted conversion tells, with its vector: the nitrogen is what ixe × xi leaves
abbrev pub return_taken : Figures → Digester → Returned
return_taken f d =
    record {
      stripped = milligrams (stripped d);
      vector = asm1_columns (returned_vector d (taken (f.ixe * d.xi) (nitrogen_of f d)));
    }

-- 5 where xnd, snd and snh together hold less than ixe × xi, else the conversion
unfoldable pub return_digester : Figures → Digester → Result Returned Refusal
return_digester f d = cond (return_short (f.ixe * d.xi) (nitrogen_of f d)) (Err ReturnShort) (Ok (return_taken f d))

-- the same of an array's columns
abbrev pub return_of : Figures → List ℕ → Result Returned Refusal
return_of f c = return_digester f (digester c)
