-- Columns and ceilings: document 01, "Units, columns and the house set"; source document 004, Tables 1 and 2.
--
--   Asm1, Digester                     a vector by the names of its columns
--   asm1, digester                     the vector that a list of columns holds, the columns in document 01's order
--   asm1_columns, digester_columns     its columns again, as a list
--   asm1_names, digester_names         the names of the columns, in the same order
--   asm1_ceilings, digester_ceilings   the ceilings of the columns, in the same order
--   within                             no column is above its ceiling, as a test
--   Below                              the same as one inequality for each column
--   added                              the sum of two vectors, column by column
--   fits                               a column of the sum is at most its ceiling, with no sum made
--
-- A column past the end of a list counts as zero, so that every law holds for lists of any length.
use Rattle.std.specs.Prelude.{Bool, true, false, ◌&&◌, List, [], ◌∷◌, ℕ, suc, ◌+◌, ◌-◌, ◌≤◌, leb, get_or}
use Prim.Native.String.{String}

-- ---- ASM1: thirteen columns, 004 Table 1

-- si to xp are COD and so is oxygen, in milligrams; sno, snh, snd and xnd are nitrogen in ticks; salk is in millimoles
pub record Asm1 : Type 0 where
  pub si : ℕ
  pub ss : ℕ
  pub xi : ℕ
  pub xs : ℕ
  pub xbh : ℕ
  pub xba : ℕ
  pub xp : ℕ
  pub so : ℕ
  pub sno : ℕ
  pub snh : ℕ
  pub snd : ℕ
  pub xnd : ℕ
  pub salk : ℕ

abbrev pub asm1_names : List String
asm1_names = "si" ∷ "ss" ∷ "xi" ∷ "xs" ∷ "xbh" ∷ "xba" ∷ "xp" ∷ "so" ∷ "sno" ∷ "snh" ∷ "snd" ∷ "xnd" ∷ "salk" ∷ []

abbrev pub asm1 : List ℕ → Asm1
asm1 c =
    record {
      si = get_or c 0 0;
      ss = get_or c 1 0;
      xi = get_or c 2 0;
      xs = get_or c 3 0;
      xbh = get_or c 4 0;
      xba = get_or c 5 0;
      xp = get_or c 6 0;
      so = get_or c 7 0;
      sno = get_or c 8 0;
      snh = get_or c 9 0;
      snd = get_or c 10 0;
      xnd = get_or c 11 0;
      salk = get_or c 12 0;
    }

abbrev pub asm1_columns : Asm1 → List ℕ
asm1_columns v =
    v.si ∷ v.ss ∷ v.xi ∷ v.xs ∷ v.xbh ∷ v.xba ∷ v.xp ∷ v.so ∷ v.sno ∷ v.snh ∷ v.snd ∷ v.xnd ∷ v.salk ∷ []

-- ---- the digester: the first 24 rows of 004 Table 2, then oxygen and nitrate carried through

-- si to xh2 are COD in milligrams; sin is nitrogen in ticks; sic is in millimoles; co is oxygen in milligrams; cn is nitrate in ticks
pub record Digester : Type 0 where
  pub si : ℕ
  pub ssu : ℕ
  pub saa : ℕ
  pub sfa : ℕ
  pub sva : ℕ
  pub sbu : ℕ
  pub spro : ℕ
  pub sac : ℕ
  pub sh2 : ℕ
  pub sch4 : ℕ
  pub xi : ℕ
  pub xc : ℕ
  pub xch : ℕ
  pub xpr : ℕ
  pub xli : ℕ
  pub xsu : ℕ
  pub xaa : ℕ
  pub xfa : ℕ
  pub xc4 : ℕ
  pub xpro : ℕ
  pub xac : ℕ
  pub xh2 : ℕ
  pub sin : ℕ
  pub sic : ℕ
  pub co : ℕ
  pub cn : ℕ

abbrev pub digester_names : List String
digester_names =
    "si" ∷ "ssu" ∷ "saa" ∷ "sfa" ∷ "sva" ∷ "sbu" ∷ "spro" ∷ "sac" ∷ "sh2" ∷ "sch4"
    ∷ "xi" ∷ "xc" ∷ "xch" ∷ "xpr" ∷ "xli" ∷ "xsu" ∷ "xaa" ∷ "xfa" ∷ "xc4" ∷ "xpro" ∷ "xac" ∷ "xh2"
    ∷ "sin" ∷ "sic" ∷ "co" ∷ "cn" ∷ []

abbrev pub digester : List ℕ → Digester
digester c =
    record {
      si = get_or c 0 0;
      ssu = get_or c 1 0;
      saa = get_or c 2 0;
      sfa = get_or c 3 0;
      sva = get_or c 4 0;
      sbu = get_or c 5 0;
      spro = get_or c 6 0;
      sac = get_or c 7 0;
      sh2 = get_or c 8 0;
      sch4 = get_or c 9 0;
      xi = get_or c 10 0;
      xc = get_or c 11 0;
      xch = get_or c 12 0;
      xpr = get_or c 13 0;
      xli = get_or c 14 0;
      xsu = get_or c 15 0;
      xaa = get_or c 16 0;
      xfa = get_or c 17 0;
      xc4 = get_or c 18 0;
      xpro = get_or c 19 0;
      xac = get_or c 20 0;
      xh2 = get_or c 21 0;
      sin = get_or c 22 0;
      sic = get_or c 23 0;
      co = get_or c 24 0;
      cn = get_or c 25 0;
    }

abbrev pub digester_columns : Digester → List ℕ
digester_columns v =
    v.si ∷ v.ssu ∷ v.saa ∷ v.sfa ∷ v.sva ∷ v.sbu ∷ v.spro ∷ v.sac ∷ v.sh2 ∷ v.sch4
    ∷ v.xi ∷ v.xc ∷ v.xch ∷ v.xpr ∷ v.xli ∷ v.xsu ∷ v.xaa ∷ v.xfa ∷ v.xc4 ∷ v.xpro ∷ v.xac ∷ v.xh2
    ∷ v.sin ∷ v.sic ∷ v.co ∷ v.cn ∷ []

-- ---- ceilings

-- 10^12 for COD, oxygen and millimoles, 10^16 for ticks
abbrev pub cod_ceiling : ℕ
cod_ceiling = 1_000_000_000_000

abbrev pub tick_ceiling : ℕ
tick_ceiling = 10_000_000_000_000_000

abbrev pub asm1_ceilings : List ℕ
asm1_ceilings =
    asm1_columns
    (record {
      si = cod_ceiling;
      ss = cod_ceiling;
      xi = cod_ceiling;
      xs = cod_ceiling;
      xbh = cod_ceiling;
      xba = cod_ceiling;
      xp = cod_ceiling;
      so = cod_ceiling;
      sno = tick_ceiling;
      snh = tick_ceiling;
      snd = tick_ceiling;
      xnd = tick_ceiling;
      salk = cod_ceiling;
    })

abbrev pub digester_ceilings : List ℕ
digester_ceilings =
    digester_columns
    (record {
      si = cod_ceiling;
      ssu = cod_ceiling;
      saa = cod_ceiling;
      sfa = cod_ceiling;
      sva = cod_ceiling;
      sbu = cod_ceiling;
      spro = cod_ceiling;
      sac = cod_ceiling;
      sh2 = cod_ceiling;
      sch4 = cod_ceiling;
      xi = cod_ceiling;
      xc = cod_ceiling;
      xch = cod_ceiling;
      xpr = cod_ceiling;
      xli = cod_ceiling;
      xsu = cod_ceiling;
      xaa = cod_ceiling;
      xfa = cod_ceiling;
      xc4 = cod_ceiling;
      xpro = cod_ceiling;
      xac = cod_ceiling;
      xh2 = cod_ceiling;
      sin = tick_ceiling;
      sic = cod_ceiling;
      co = cod_ceiling;
      cn = tick_ceiling;
    })

unfoldable pub within : List ℕ → List ℕ → Bool
within cs [] = true
within [] (x ∷ v) = false
within (c ∷ cs) (x ∷ v) = leb x c && within cs v

abbrev pub BelowFrom : ℕ → List ℕ → List ℕ → Type 0
BelowFrom i [] v = Unit
BelowFrom i (c ∷ cs) v = (get_or v i 0 ≤ c) × BelowFrom (suc i) cs v

abbrev pub Below : List ℕ → List ℕ → Type 0
Below cs v = BelowFrom 0 cs v

-- ---- sums

unfoldable pub added : List ℕ → List ℕ → List ℕ
added [] w = w
added (x ∷ v) [] = x ∷ v
added (x ∷ v) (y ∷ w) = (x + y) ∷ added v w

-- the sum of a pair is at most the third, with no sum made
abbrev pub fits : (ℕ × ℕ) × ℕ → Bool
fits p = leb p.0.0 p.1 && leb p.0.1 (p.1 - p.0.0)
