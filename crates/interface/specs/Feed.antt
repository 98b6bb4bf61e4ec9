-- Feed, stage by stage: document 01, "Feed, stage by stage", and document 02, E9 and E13; source document 004, "ASM1 → ADM1".
--
--   NitrateRule, nitrate_rule   how much COD nitrate burns
--   ceil                        a quotient rounded up
--   stage1 .. stage5            the stages, each with its symbols of documents 01 and 02: A o r D, P, q m P' H', R
--   fed_vector                  the digester vector that the stages give
--   feed_asm1, feed_of          the whole conversion: refusal 4 (FeedShort), or the vector and the numbers told
--
-- Where document 01 parts from 004:
--   counts are whole, and each definition says where a leftover goes;
--   nitrate burns 40/14 mg of COD for 1 mg N, by stoichiometry (E9), where 004 has 2.86;
--   nitrate that no COD is left to reduce is carried through in cn (004 allows that or adding it to the inorganic nitrogen);
--   ammonia counts as cover for the inerts after the pool, and then the amino acids (E13); where all of these are short the feed is
--   refused, and 004 maps less inert COD.
use Rattle.std.specs.Prelude.{Bool, cond, ◌&&◌, Result, Ok, Err, List, ℕ, ◌+◌, ◌-◌, ◌*◌, ◌/◌, min, ltb, eqb}
use Rattle.refusals.specs.declared.Refusal.{Refusal}
use Rattle.refusals.specs.declared.Refusal.TheVariants.{FeedShort}
use Rattle.vectors.specs.declared.figures.Figures.{Figures}
use Rattle.interface.specs.declared.feed.Fed.{Fed}
use Rattle.vectors.specs.Columns.{Asm1, asm1, Digester, digester_columns}
use Rattle.vectors.specs.Units.{milligrams, ticks}

-- ---- Stage 1: oxygen, then nitrate, burn COD (004, "COD Demand")

-- `cod` milligrams of COD reduce `ticks` of nitrate
pub record NitrateRule : Type 0 where
  pub cod : ℕ
  pub ticks : ℕ

-- document 02, E9: 40/14 mg of COD for 1 mg N, which is 10,000 ticks
abbrev pub nitrate_rule : NitrateRule
nitrate_rule = record { cod = 1; ticks = 3_500 }

abbrev pub ceil : ℕ → ℕ → ℕ
ceil m n = (m + (n - 1)) / n

pub record Stage1 : Type 0 where
  pub A : ℕ  -- COD that can be burnt
  pub o : ℕ  -- oxygen reduced
  pub r : ℕ  -- nitrate reduced
  pub D : ℕ  -- COD burnt
  pub ss : ℕ  -- left, as the next three
  pub xs : ℕ
  pub xbh : ℕ
  pub xba : ℕ
  pub co : ℕ  -- oxygen carried through
  pub cn : ℕ  -- nitrate carried through
  pub warn : ℕ

-- 1 where oxygen or nitrate is carried through, else 0
abbrev pub warn_of : ℕ → ℕ → ℕ
warn_of co cn = cond (eqb co 0 && eqb cn 0) 0 1

-- D is taken from ss, then xs, xbh, xba. The nitrate's COD is rounded up.
unfoldable pub stage1 : NitrateRule → Asm1 → Stage1
stage1 n v =
    let A = v.ss + v.xs + v.xbh + v.xba in
    let o = min v.so A in
    let r = min v.sno (n.ticks * (A - o) / n.cod) in
    let D = o + ceil (n.cod * r) n.ticks in
    record {
      A = A;
      o = o;
      r = r;
      D = D;
      ss = v.ss - D;
      xs = v.xs - (D - v.ss);
      xbh = v.xbh - (D - v.ss - v.xs);
      xba = v.xba - (D - v.ss - v.xs - v.xbh);
      co = v.so - o;
      cn = v.sno - r;
      warn = warn_of (v.so - o) (v.sno - r);
    }

-- ---- Stage 2: amino acids take up soluble organic nitrogen (004, "Soluble Organic Nitrogen")

pub record Stage2 : Type 0 where
  pub saa : ℕ
  pub ssu : ℕ

-- What is left of snd / naa stays in the pool of stage 3.
unfoldable pub stage2 : Figures → Asm1 → Stage1 → Stage2
stage2 f v s1 =
    let saa = min s1.ss (v.snd / f.naa) in
    record { saa = saa; ssu = s1.ss - saa }

-- ---- Stage 3: the pool P of organic nitrogen

-- Biomass counts as it was before stage 1, so the nitrogen of burnt biomass stays in the pool.
unfoldable pub stage3 : Figures → Asm1 → Stage2 → ℕ
stage3 f v s2 = v.snd - f.naa * s2.saa + v.xnd + f.ixb * (v.xbh + v.xba) + f.ixe * (v.xi + v.xp)

-- ---- Stage 4: inerts (004, "Inert Organic Material"), as document 02, E13, amends it

pub record Stage4 : Type 0 where
  pub xi : ℕ  -- the digester's
  pub q : ℕ  -- nitrogen that the inerts need
  pub m : ℕ  -- what pool and ammonia lack of it
  pub g : ℕ  -- amino acids that give way, as COD
  pub saa : ℕ  -- left, as the next
  pub ssu : ℕ
  pub P' : ℕ  -- pool left
  pub H' : ℕ  -- ammonia left
  pub short : Bool  -- refusal 4

-- A difference below zero counts as zero: `P - q` is max(P − q, 0). So where nothing is lacking m and g are zero and P' is P − q; where m
-- is not, P − q and H' are zero, and P' is what is left over of the amino acids' nitrogen.
unfoldable pub stage4 : Figures → Asm1 → Stage2 → ℕ → Stage4
stage4 f v s2 P =
    let xi = f.fxi * (v.xi + v.xp) / 10000 in
    let q = f.ni * (v.si + xi) in
    let m = q - (P + v.snh) in
    let g = ceil m f.naa in
    record {
      xi = xi;
      q = q;
      m = m;
      g = g;
      saa = s2.saa - g;
      ssu = s2.ssu + g;
      P' = P - q + (f.naa * g - m);
      H' = v.snh - (q - P);
      short = ltb s2.saa g;
    }

-- ---- Stage 5: composites, then carbohydrate and lipid (004, "Partitioning of Remaining COD and TKN")

pub record Stage5 : Type 0 where
  pub R : ℕ  -- COD to place
  pub xc : ℕ
  pub xch : ℕ
  pub xli : ℕ
  pub sin : ℕ

-- xli is what xch leaves, and sin has the nitrogen that xc leaves.
unfoldable pub stage5 : Figures → Asm1 → Stage1 → Stage4 → Stage5
stage5 f v s1 s4 =
    let R = s1.xs + s1.xbh + s1.xba + v.xi + v.xp - s4.xi in
    let xc = min R (s4.P' / f.nxc) in
    let xch = f.fch * (R - xc) / (f.fch + f.fli) in
    record { R = R; xc = xc; xch = xch; xli = R - xc - xch; sin = s4.H' + s4.P' - f.nxc * xc }

-- ---- the whole conversion

-- the results of all stages
pub record Stages : Type 0 where
  pub s1 : Stage1
  pub s2 : Stage2
  pub P : ℕ
  pub s4 : Stage4
  pub s5 : Stage5

abbrev pub stages : Figures → Asm1 → Stages
stages f v =
    let s1 = stage1 nitrate_rule v in
    let s2 = stage2 f v s1 in
    let P = stage3 f v s2 in
    let s4 = stage4 f v s2 P in
    record { s1 = s1; s2 = s2; P = P; s4 = s4; s5 = stage5 f v s1 s4 }

-- si goes over whole, sic is salk, and all columns that no stage names are zero
abbrev pub fed_vector : Asm1 → Stages → Digester
fed_vector v s =
    record {
      si = v.si;
      ssu = s.s4.ssu;
      saa = s.s4.saa;
      sfa = 0;
      sva = 0;
      sbu = 0;
      spro = 0;
      sac = 0;
      sh2 = 0;
      sch4 = 0;
      xi = s.s4.xi;
      xc = s.s5.xc;
      xch = s.s5.xch;
      xpr = 0;
      xli = s.s5.xli;
      xsu = 0;
      xaa = 0;
      xfa = 0;
      xc4 = 0;
      xpro = 0;
      xac = 0;
      xh2 = 0;
      sin = s.s5.sin;
      sic = v.salk;
      co = s.s1.co;
      cn = s.s1.cn;
    }

-- what an accepted conversion tells, with its vector
abbrev pub feed_taken : Asm1 → Stages → Fed
feed_taken v s =
    record {
      burnt = milligrams s.s1.D;
      oxygen = milligrams s.s1.o;
      nitrate = ticks s.s1.r;
      warn = s.s1.warn;
      vector = digester_columns (fed_vector v s);
    }

-- 4 where the amino acids are fewer than have to give way, else the conversion. No test that D is at most A: it always is (document 02,
-- E8; `BurntLaw`).
unfoldable pub feed_asm1 : Figures → Asm1 → Result Fed Refusal
feed_asm1 f v =
    let s = stages f v in
    cond s.s4.short (Err FeedShort)
    (Ok (feed_taken v s))

-- the same of an array's columns
abbrev pub feed_of : Figures → List ℕ → Result Fed Refusal
feed_of f c = feed_asm1 f (asm1 c)
