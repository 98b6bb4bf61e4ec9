-- COD, TKN, oxygen and nitrate of both vectors: document 01, "Units, columns and the house set"; source document 004, "Mass Balances".
--
--   asm1_cod, digester_cod           the sum of the COD columns; so and co are not among them
--   asm1_tkn, digester_tkn           total Kjeldahl nitrogen, by a set of figures
--   asm1_oxygen, digester_oxygen     so, and co
--   asm1_nitrate, digester_nitrate   sno, and cn
--   weigh                            weights times columns, added up: the form in which the code computes COD and TKN
--   asm1_cod_weights, ..             the weights of COD
--   asm1_fractions, ..               the nitrogen fractions by column, which are the weights of TKN
use Rattle.std.specs.Prelude.{List, [], ◌∷◌, ℕ, suc, ◌+◌, ◌*◌, get_or}
use Rattle.vectors.specs.Columns.{asm1, asm1_columns, Digester, digester, digester_columns}
use Rattle.vectors.specs.declared.figures.Figures.{Figures}

-- ---- ASM1

-- 004: CODs + CODp = Si + Ss + Xi + Xs + Xbh + Xba + Xp
abbrev pub asm1_cod : List ℕ → ℕ
asm1_cod c = let v = asm1 c in v.si + v.ss + v.xi + v.xs + v.xbh + v.xba + v.xp

-- 004: TKN = Snh + Snd + Xnd + ixb (Xbh + Xba) + ixe (Xi + Xp)
abbrev pub asm1_tkn : Figures → List ℕ → ℕ
asm1_tkn f c = let v = asm1 c in v.snh + v.snd + v.xnd + f.ixb * (v.xbh + v.xba) + f.ixe * (v.xi + v.xp)

abbrev pub asm1_oxygen : List ℕ → ℕ
asm1_oxygen c = (asm1 c).so

abbrev pub asm1_nitrate : List ℕ → ℕ
asm1_nitrate c = (asm1 c).sno

-- ---- the digester

-- the seven degraders
abbrev pub degraders : Digester → ℕ
degraders d = d.xsu + d.xaa + d.xfa + d.xc4 + d.xpro + d.xac + d.xh2

-- 004: CODs + CODp, the 22 columns from si to xh2
abbrev pub digester_cod : List ℕ → ℕ
digester_cod c =
    let d = digester c in
    d.si + d.ssu + d.saa + d.sfa + d.sva + d.sbu + d.spro + d.sac + d.sh2 + d.sch4 + d.xi + d.xc + d.xch + d.xpr + d.xli + degraders d

-- 004: TKN = Sin + Nxc Xc + Ni (Si + Xi) + Naa (Xpr + Saa) + Nbac (degraders)
abbrev pub digester_tkn : Figures → List ℕ → ℕ
digester_tkn f c =
    let d = digester c in
    d.sin + f.nxc * d.xc + f.ni * (d.si + d.xi) + f.naa * (d.xpr + d.saa) + f.nbac * degraders d

abbrev pub digester_oxygen : List ℕ → ℕ
digester_oxygen c = (digester c).co

abbrev pub digester_nitrate : List ℕ → ℕ
digester_nitrate c = (digester c).cn

-- ---- as weights by column

unfoldable pub weigh_from : ℕ → List ℕ → List ℕ → ℕ
weigh_from i [] c = 0
weigh_from i (w ∷ ws) c = w * get_or c i 0 + weigh_from (suc i) ws c

abbrev pub weigh : List ℕ → List ℕ → ℕ
weigh ws c = weigh_from 0 ws c

abbrev pub asm1_cod_weights : List ℕ
asm1_cod_weights =
    asm1_columns (record { si = 1; ss = 1; xi = 1; xs = 1; xbh = 1; xba = 1; xp = 1; so = 0; sno = 0; snh = 0; snd = 0; xnd = 0; salk = 0 })

abbrev pub asm1_fractions : Figures → List ℕ
asm1_fractions f =
    asm1_columns
    (record {
      si = 0;
      ss = 0;
      xi = f.ixe;
      xs = 0;
      xbh = f.ixb;
      xba = f.ixb;
      xp = f.ixe;
      so = 0;
      sno = 0;
      snh = 1;
      snd = 1;
      xnd = 1;
      salk = 0;
    })

abbrev pub digester_cod_weights : List ℕ
digester_cod_weights =
    digester_columns
    (record {
      si = 1;
      ssu = 1;
      saa = 1;
      sfa = 1;
      sva = 1;
      sbu = 1;
      spro = 1;
      sac = 1;
      sh2 = 1;
      sch4 = 1;
      xi = 1;
      xc = 1;
      xch = 1;
      xpr = 1;
      xli = 1;
      xsu = 1;
      xaa = 1;
      xfa = 1;
      xc4 = 1;
      xpro = 1;
      xac = 1;
      xh2 = 1;
      sin = 0;
      sic = 0;
      co = 0;
      cn = 0;
    })

abbrev pub digester_fractions : Figures → List ℕ
digester_fractions f =
    digester_columns
    (record {
      si = f.ni;
      ssu = 0;
      saa = f.naa;
      sfa = 0;
      sva = 0;
      sbu = 0;
      spro = 0;
      sac = 0;
      sh2 = 0;
      sch4 = 0;
      xi = f.ni;
      xc = f.nxc;
      xch = 0;
      xpr = f.naa;
      xli = 0;
      xsu = f.nbac;
      xaa = f.nbac;
      xfa = f.nbac;
      xc4 = f.nbac;
      xpro = f.nbac;
      xac = f.nbac;
      xh2 = f.nbac;
      sin = 1;
      sic = 0;
      co = 0;
      cn = 0;
    })
