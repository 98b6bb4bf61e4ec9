-- What the structs between the stages hold in the code: the numbers of the stages, each in its unit. The contracts of the stage functions
-- and the ghost fields of Drawn, Staged and Digested cite these.
--
--   Low, LowDigester                                      every column of the vector is at most its ceiling
--   Demands, Leaves, AcidsHeld, InertsHeld, RemainsHeld   the struct has the numbers of its stage
--   InertsGiven                                           the same, or refusal 4 where stage 4 is short
--   StagesHeld                                            the structs have the numbers of one vector's stages
--   nitrogen_counts                                       the numbers of the return's nitrogen
use Rattle.std.specs.Prelude.{true, false, ◌≡◌, Result, Ok, Err, ℕ, ◌≤◌}
use Rattle.refusals.specs.declared.Refusal.{Refusal}
use Rattle.refusals.specs.declared.Refusal.TheVariants.{FeedShort}
use Rattle.vectors.specs.Columns.{cod_ceiling, tick_ceiling, asm1_ceilings, asm1_columns, digester_ceilings, digester_columns, Below}
use Rattle.columns.specs.Counts.{asm1_counts, digester_counts}
use Rattle.interface.specs.Feed.{Stage1, Stage2, Stage4, Stage5, Stages}
use Rattle.interface.specs.Return.{Nitrogen}
use Rattle.columns.specs.declared.columns.Asm1.{Asm1}
use Rattle.columns.specs.declared.columns.Digester.{Digester}
use Rattle.interface.specs.declared.returning.Nitrogen as in_return
use Rattle.interface.specs.declared.feed.Demand.{Demand}
use Rattle.interface.specs.declared.feed.Left.{Left}
use Rattle.interface.specs.declared.feed.Acids.{Acids}
use Rattle.interface.specs.declared.feed.Inerts.{Inerts}
use Rattle.interface.specs.declared.feed.Remains.{Remains}

abbrev pub Low : Asm1 → Type 0
Low v = Below asm1_ceilings (asm1_columns (asm1_counts v))

abbrev pub LowDigester : Digester → Type 0
LowDigester d = Below digester_ceilings (digester_columns (digester_counts d))

-- ---- feed

pub record Demands (d : Demand) (s : Stage1) : Type 0 where
  pub o : d.o.0 ≡ s.o
  pub r : d.r.0 ≡ s.r
  pub D : d.d.0 ≡ s.D

-- the COD left is at most what there was, so the sums of stage 5 fit
pub record Leaves (l : Left) (s : Stage1) : Type 0 where
  pub ss : l.ss.0 ≡ s.ss
  pub xs : l.xs.0 ≡ s.xs
  pub xbh : l.xbh.0 ≡ s.xbh
  pub xba : l.xba.0 ≡ s.xba
  pub co : l.co.0 ≡ s.co
  pub cn : l.cn.0 ≡ s.cn
  pub warn : l.warn ≡ s.warn
  pub ss_le : l.ss.0 ≤ cod_ceiling
  pub xs_le : l.xs.0 ≤ cod_ceiling
  pub xbh_le : l.xbh.0 ≤ cod_ceiling
  pub xba_le : l.xba.0 ≤ cod_ceiling

pub record AcidsHeld (a : Acids) (s : Stage2) : Type 0 where
  pub saa : a.saa.0 ≡ s.saa
  pub ssu : a.ssu.0 ≡ s.ssu
  pub saa_le : a.saa.0 ≤ cod_ceiling
  pub ssu_le : a.ssu.0 ≤ cod_ceiling

-- m is the particulate inert COD of the drawn vector
pub record InertsHeld (i : Inerts) (s : Stage4) (m : ℕ) : Type 0 where
  pub xi : i.xi.0 ≡ s.xi
  pub saa : i.saa.0 ≡ s.saa
  pub ssu : i.ssu.0 ≡ s.ssu
  pub P' : i.pool.0 ≡ s.P'
  pub H' : i.ammonia.0 ≡ s.H'
  pub xi_le : i.xi.0 ≤ m
  pub P'-le : i.pool.0 ≤ 60_000_000_000_000_000
  pub H'-le : i.ammonia.0 ≤ tick_ceiling

abbrev pub InertsGiven : Result Inerts Refusal → Stage4 → ℕ → Type 0
InertsGiven (Ok i) s m = (s.short ≡ false) × InertsHeld i s m
InertsGiven (Err r) s m = (s.short ≡ true) × (r ≡ FeedShort)

pub record RemainsHeld (r : Remains) (s : Stage5) : Type 0 where
  pub xc : r.xc.0 ≡ s.xc
  pub xch : r.xch.0 ≡ s.xch
  pub xli : r.xli.0 ≡ s.xli
  pub sin : r.sin.0 ≡ s.sin

-- what the digester vector is made of, by the stages of one vector
pub record StagesHeld (l : Left) (i : Inerts) (r : Remains) (m : ℕ) (s : Stages) : Type 0 where
  pub left : Leaves l s.s1
  pub inerts : InertsHeld i s.s4 m
  pub remains : RemainsHeld r s.s5

-- ---- return

abbrev pub nitrogen_counts : in_return.Nitrogen → Nitrogen
nitrogen_counts n = record { xnd = n.xnd.0; snd = n.snd.0; snh = n.snh.0 }
