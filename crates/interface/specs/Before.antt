-- A feed as it was before amino acids gave way to inerts: document 01, "Feed, stage by stage", before document 02, E13. Nothing else
-- goes by it; it is here so that it can be said what did not change.
--
--   stage4_before   stage 4 then: 4 where q > P + snh
--   feed_before     the conversion then
--   AsBefore        a feed that was accepted then gives now what it gave, and one that was refused then lacks nitrogen in pool and ammonia
--   AsBeforeLaw     so for every set of figures and every vector. proofs/Laws/Feed.antt proves it: as-before
use Rattle.std.specs.Prelude.{cond, Result, Ok, Err, List, ◌≡◌, ℕ, ◌+◌, ◌-◌, ◌*◌, ◌/◌, ◌<◌, ltb}
use Rattle.refusals.specs.declared.Refusal.{Refusal}
use Rattle.refusals.specs.declared.Refusal.TheVariants.{FeedShort}
use Rattle.vectors.specs.declared.figures.Figures.{Figures}
use Rattle.vectors.specs.Columns.{Asm1, asm1}
use Rattle.interface.specs.declared.feed.Fed.{Fed}
use Rattle.interface.specs.Feed.{nitrate_rule, Stage2, Stage4, Stages, stage1, stage2, stage3, stage5, stages, feed_taken, feed_of}

-- no amino acids give way
unfoldable pub stage4_before : Figures → Asm1 → Stage2 → ℕ → Stage4
stage4_before f v s2 P =
    let xi = f.fxi * (v.xi + v.xp) / 10000 in
    let q = f.ni * (v.si + xi) in
    record {
      xi = xi;
      q = q;
      m = 0;
      g = 0;
      saa = s2.saa;
      ssu = s2.ssu;
      P' = P - q;
      H' = v.snh - (q - P);
      short = ltb (P + v.snh) q;
    }

abbrev pub stages_before : Figures → Asm1 → Stages
stages_before f v =
    let s1 = stage1 nitrate_rule v in
    let s2 = stage2 f v s1 in
    let P = stage3 f v s2 in
    let s4 = stage4_before f v s2 P in
    record { s1 = s1; s2 = s2; P = P; s4 = s4; s5 = stage5 f v s1 s4 }

abbrev pub feed_before : Figures → List ℕ → Result Fed Refusal
feed_before f c = let s = stages_before f (asm1 c) in cond s.s4.short (Err FeedShort) (Ok (feed_taken (asm1 c) s))

pub record AsBefore (f : Figures) (c : List ℕ) : Type 0 where
  pub same : (o : Fed) → feed_before f c ≡ Ok o → feed_of f c ≡ Ok o
  pub other : (r : Refusal) → feed_before f c ≡ Err r → 0 < (stages f (asm1 c)).s4.m

abbrev pub AsBeforeLaw : Type 0
AsBeforeLaw = (f : Figures) (c : List ℕ) → AsBefore f c
