-- Vectors of the code: document 01, "Units, columns and the house set". The definitions are over whole numbers; where one takes a struct
-- of the code, these take the numbers out.
--
--   asm1_counts, digester_counts   the numbers of a vector whose columns are in their units
use Rattle.vectors.specs.Columns.{Asm1, Digester}
use Rattle.columns.specs.declared.columns.Asm1 as in_asm1
use Rattle.columns.specs.declared.columns.Digester as in_digester

abbrev pub asm1_counts : in_asm1.Asm1 → Asm1
asm1_counts v =
    record {
      si = v.si.0;
      ss = v.ss.0;
      xi = v.xi.0;
      xs = v.xs.0;
      xbh = v.xbh.0;
      xba = v.xba.0;
      xp = v.xp.0;
      so = v.so.0;
      sno = v.sno.0;
      snh = v.snh.0;
      snd = v.snd.0;
      xnd = v.xnd.0;
      salk = v.salk.0;
    }

abbrev pub digester_counts : in_digester.Digester → Digester
digester_counts d =
    record {
      si = d.si.0;
      ssu = d.ssu.0;
      saa = d.saa.0;
      sfa = d.sfa.0;
      sva = d.sva.0;
      sbu = d.sbu.0;
      spro = d.spro.0;
      sac = d.sac.0;
      sh2 = d.sh2.0;
      sch4 = d.sch4.0;
      xi = d.xi.0;
      xc = d.xc.0;
      xch = d.xch.0;
      xpr = d.xpr.0;
      xli = d.xli.0;
      xsu = d.xsu.0;
      xaa = d.xaa.0;
      xfa = d.xfa.0;
      xc4 = d.xc4.0;
      xpro = d.xpro.0;
      xac = d.xac.0;
      xh2 = d.xh2.0;
      sin = d.sin.0;
      sic = d.sic.0;
      co = d.co.0;
      cn = d.cn.0;
    }
