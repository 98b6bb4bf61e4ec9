-- The laws of the conversions: what the rest of the repository, and a reader, may rely on. proofs/Laws proves each.
--
--   BurntLaw        a feed burns no more COD than it has to burn
--   CoveredLaw      where COD covers the nitrate of a feed, all of the nitrate is reduced
--   ShortLaw        where COD is short for it, all of the COD is burnt
--   InertsLaw       a feed is refused with 4 exactly where no digester vector with its si and xi has the drawn TKN
--   FeedLaw         an accepted feed conversion keeps COD but for what it burns, TKN, and oxygen and nitrate but for what it reduces
--   ReturnLaw       an accepted return conversion keeps COD but for what it strips, TKN, oxygen and nitrate
--
-- They hold for every permitted set of figures (stage 1, and so the first three, have none) and every vector, also above the ceilings.
use Rattle.std.specs.Prelude.{Ok, Err, List, ◌≡◌, ℕ, ◌+◌, ◌-◌, ◌*◌, ◌≤◌, ◌<◌}
use Rattle.refusals.specs.declared.Refusal.TheVariants.{FeedShort}
use Rattle.vectors.specs.declared.figures.Figures.{Figures}
use Rattle.interface.specs.declared.feed.Fed.{Fed}
use Rattle.interface.specs.declared.returning.Returned.{Returned}
use Rattle.vectors.specs.Columns.{Asm1, asm1, digester}
use Rattle.vectors.specs.Figures.{Permitted}
use Rattle.vectors.specs.Totals.{asm1_cod, asm1_tkn, asm1_oxygen, asm1_nitrate, digester_cod, digester_tkn, digester_oxygen}
use Rattle.vectors.specs.Totals.{digester_nitrate}
use Rattle.interface.specs.Feed.{nitrate_rule, stage1, stages, feed_of}
use Rattle.interface.specs.Return.{return_of}

-- ---- stage 1: document 02, E8 and E4

-- E8, the reason why nothing tests it and no refusal has the number 6: D ≤ A
abbrev pub BurntLaw : Type 0
BurntLaw = (v : Asm1) → let s = stage1 nitrate_rule v in s.D ≤ s.A

-- sno ≤ 3500 × (A − o): r = sno
abbrev pub CoveredLaw : Type 0
CoveredLaw =
    (v : Asm1) → let s = stage1 nitrate_rule v in
    nitrate_rule.cod * v.sno ≤ nitrate_rule.ticks * (s.A - s.o) → s.r ≡ v.sno

-- 3500 × (A − o) < sno: D = A
abbrev pub ShortLaw : Type 0
ShortLaw =
    (v : Asm1) → let s = stage1 nitrate_rule v in
    nitrate_rule.ticks * (s.A - s.o) < nitrate_rule.cod * v.sno → s.D ≡ s.A

-- ---- stage 4: document 02, E13

-- the digester vector d, of any columns, has the si and xi that a feed of c has, and the TKN of c
pub record Suits (f : Figures) (c d : List ℕ) : Type 0 where
  pub si : (digester d).si ≡ (asm1 c).si
  pub xi : (digester d).xi ≡ (stages f (asm1 c)).s4.xi
  pub tkn : digester_tkn f d ≡ asm1_tkn f c

-- where it is refused with 4 none does, where none does it is refused with 4, and what an accepted feed gives does
pub record InertsDecide (f : Figures) (c : List ℕ) : Type 0 where
  pub refused : feed_of f c ≡ Err FeedShort → (d : List ℕ) → Suits f c d → ⊥
  pub none : ((d : List ℕ) → Suits f c d → ⊥) → feed_of f c ≡ Err FeedShort
  pub accepted : (o : Fed) → feed_of f c ≡ Ok o → Suits f c o.vector

abbrev pub InertsLaw : Type 0
InertsLaw = (f : Figures) → Permitted f → (c : List ℕ) → InertsDecide f c

-- ---- what the conversions keep

-- so = co + oxygen reduced, and sno = cn + nitrate reduced
pub record FeedKeeps (f : Figures) (c : List ℕ) (o : Fed) : Type 0 where
  pub cod : asm1_cod c ≡ digester_cod o.vector + (o.burnt).0
  pub tkn : asm1_tkn f c ≡ digester_tkn f o.vector
  pub oxygen : asm1_oxygen c ≡ digester_oxygen o.vector + (o.oxygen).0
  pub nitrate : asm1_nitrate c ≡ digester_nitrate o.vector + (o.nitrate).0

abbrev pub FeedLaw : Type 0
FeedLaw = (f : Figures) → Permitted f → (c : List ℕ) (o : Fed) → feed_of f c ≡ Ok o → FeedKeeps f c o

pub record ReturnKeeps (f : Figures) (c : List ℕ) (o : Returned) : Type 0 where
  pub cod : digester_cod c ≡ asm1_cod o.vector + (o.stripped).0
  pub tkn : digester_tkn f c ≡ asm1_tkn f o.vector
  pub oxygen : digester_oxygen c ≡ asm1_oxygen o.vector
  pub nitrate : digester_nitrate c ≡ asm1_nitrate o.vector

abbrev pub ReturnLaw : Type 0
ReturnLaw = (f : Figures) (c : List ℕ) (o : Returned) → return_of f c ≡ Ok o → ReturnKeeps f c o
