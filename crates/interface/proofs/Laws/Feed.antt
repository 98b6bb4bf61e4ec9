-- Laws of the feed stages, and that an accepted feed keeps COD, TKN, oxygen and nitrate.
-- Users of a stage go by these laws and not by its text. Assumes nothing.
--
--   stage1-..                      ..  stage5-..      what each stage keeps
--   stage1-burns                   no more COD is burnt than there is, by any rule
--   stage1-covered, stage1-short   nitrate that COD covers, and nitrate that it is short for, by any rule
--   burnt-law, covered-law, ..     the same by the rule of document 01: BurntLaw, CoveredLaw, ShortLaw
--   stage1-is                      ..  stage5-is      the same numbers, step by step
--   feed-short, feed-taken         the two outcomes of the conversion
--   feed-accepted                  what an accepted conversion is
--   feed-keeps                     FeedLaw
--   inerts-decide                  InertsLaw
--   as-before                      AsBeforeLaw
use mathlib.Core.Bool.{Bool, true, false, cond}
use mathlib.Core.List.{List}
use mathlib.Core.Path.{◌≡◌, refl, sym, ap, ap₂, ◌∙◌}
use Prim.Native.Nat.{ℕ, zero, suc, ◌+◌, ◌-◌, ◌*◌, ◌/◌, ◌≤◌, ◌<◌, min}
use native.Mathlib.Nat.{mul_comm, mul-div-le, lt-mul-div-succ, le-div_iff_mul-le, div-lt_iff_lt-mul, div-le_of_le-mul, div-eq_of_lt-le}
use native.Mathlib.Nat.{min-le_right, min-eq_left, min-eq_right, mul-le-mul_left, le_of_lt}
use native.Mathlib.Omega.{arith}
use lib.Dec.{leb, ltb}
use borrow.Author.Tests.{leb-true, leb-false, ltb-true, ltb-false, le-ltb}
use Rattle.std.specs.Prelude.{Result, Ok, Err}
use Rattle.refusals.specs.declared.Refusal.{Refusal}
use Rattle.refusals.specs.declared.Refusal.TheVariants.{FeedShort}
use Rattle.vectors.specs.declared.figures.Figures.{Figures}
use Rattle.interface.specs.declared.feed.Fed.{Fed}
use Rattle.vectors.specs.Columns.{Asm1, asm1, digester}
use Rattle.vectors.specs.Totals.{asm1_tkn}
use Rattle.interface.specs.Feed.{NitrateRule, nitrate_rule, ceil, warn_of, Stage1, Stage2, Stage4}
use Rattle.interface.specs.Feed.{stage1, stage2, stage3, stage4, stage5, stages, feed_taken, feed_asm1, feed_of}
use Rattle.interface.specs.Before.{stage4_before, stages_before, feed_before, AsBeforeLaw}
use Rattle.interface.specs.Laws.{BurntLaw, CoveredLaw, ShortLaw, FeedLaw, Suits, InertsLaw}
use Rattle.vectors.proofs.Laws.Units.{afford, share-le}

-- ---- stage 1

pub warn-is : {w co cn co' cn' : ℕ} → w ≡ warn_of co cn → co ≡ co' → cn ≡ cn' → w ≡ warn_of co' cn'
warn-is e p q = rw (← p, ← q) e

-- d taken from a, then from b: what is left of each, and what neither covered
drain : (d a b : ℕ) → (a - d) + (b - (d - a)) + d ≡ a + b + (d - a - b)
drain d a b = omega arith

-- the same from four, which hold d
drain-four : (d a b c e : ℕ) → d ≤ a + b + c + e
    → (a - d) + (b - (d - a)) + (c - (d - a - b)) + (e - (d - a - b - c)) + d ≡ a + b + c + e
drain-four d a b c e h = join _ _ _ _ _ _ (drain d a b) (drain (d - a - b) c e) none
  where
    none : d - a - b - c - e ≡ 0
    none = omega arith

    join : (w x y z m n : ℕ) → w + x + d ≡ a + b + m → y + z + m ≡ c + e + n → n ≡ 0 → w + x + y + z + d ≡ a + b + c + e
    join w x y z m n p q r = omega arith

-- a quotient rounded up is at most x where its dividend is at most n times x
ceil-le : (m n x : ℕ) → m ≤ n * x → ceil m n ≤ x
ceil-le m zero x h = div-le_of_le-mul zero (omega arith)
ceil-le m (suc n) x h = at-most (m + (suc n - 1)) (omega arith)
  where
    at-most : (k : ℕ) → k < (1 + x) * suc n → k / suc n ≤ x
    at-most k under =
        let one : zero < suc n = omega arith in
        omega (arith, (div-lt_iff_lt-mul one).1 under)

-- and above x where it is more
ceil-under : (m n x : ℕ) → x < ceil m n → n * x < m
ceil-under m n x h = go (leb m (n * x)) refl
  where
    go : (t : Bool) → leb m (n * x) ≡ t → n * x < m
    go true e = absurd (omega (arith, h, ceil-le m n x (leb-true m (n * x) e)))
    go false e = leb-false m (n * x) e

-- n times it is at least the dividend
ceil-ge : (m n : ℕ) → 1 ≤ n → m ≤ n * ceil m n
ceil-ge m n h =
    let under : m + (n - 1) < n * ((m + (n - 1)) / n + 1) = lt-mul-div-succ (m + (n - 1)) h in
    omega (arith, under)

-- of nothing it is nothing
pub ceil-none : (m n : ℕ) → m ≡ 0 → n * ceil m n ≡ 0
ceil-none m n e =
    let none : ceil m n ≤ 0 = ceil-le m n 0 (omega (arith, e)) in
    let zero-is : ceil m n ≡ 0 = omega (arith, none) in
    ap (λ (x : ℕ). n * x) zero-is ∙ omega arith

-- n times a difference
less-of : (n a b : ℕ) → b ≤ a → n * (a - b) + n * b ≡ n * a
less-of n a b h =
    let whole : a - b + b ≡ a = omega arith in
    omega (arith, ap (λ (x : ℕ). n * x) whole)

-- of the nitrogen x of amino acids, y gives way to what pool and ammonia lack of q, and z is left
given-way : (P h q x y z : ℕ) → z + y ≡ x → q - (P + h) ≤ y → (q - (P + h) ≡ 0 → y ≡ 0)
    → (h - (q - P)) + (P - q + (y - (q - (P + h)))) + q + z ≡ h + P + x
given-way P h q x y z e ge none = go (leb q (P + h)) refl
  where
    go : (t : Bool) → leb q (P + h) ≡ t → (h - (q - P)) + (P - q + (y - (q - (P + h)))) + q + z ≡ h + P + x
    go true l =
        let covered = leb-true q (P + h) l in
        omega (arith, covered, e, none (omega (arith, covered)))
    go false l = omega (arith, leb-false q (P + h) l, e, ge)

-- what is left of a pool stays low: of y, which is low, something is left over only where the pool is used up
pub pool-low : (P h q y : ℕ) → P ≤ 60_000_000_000_000_000 → y ≤ 60_000_000_000_000_000 → (q - (P + h) ≡ 0 → y ≡ 0)
    → P - q + (y - (q - (P + h))) ≤ 60_000_000_000_000_000
pool-low P h q y low small none = go (leb q (P + h)) refl
  where
    go : (t : Bool) → leb q (P + h) ≡ t → P - q + (y - (q - (P + h))) ≤ 60_000_000_000_000_000
    go true l = omega (arith, low, none (omega (arith, leb-true q (P + h) l)))
    go false l = omega (arith, leb-false q (P + h) l, small)

-- n times what is at most a quotient by n
reduced-le : (r n m : ℕ) → r ≤ m / n → n * r ≤ m
reduced-le r n m h = omega (arith, mul-div-le m n, mul-le-mul_left n h)

module _ (n : NitrateRule) (v : Asm1) where
  pub stage1-oxygen : (stage1 n v).co + (stage1 n v).o ≡ v.so
  unfolding stage1
  stage1-oxygen = omega arith

  pub stage1-nitrate : (stage1 n v).cn + (stage1 n v).r ≡ v.sno
  unfolding stage1
  stage1-nitrate = omega arith

  pub stage1-burnt : (stage1 n v).D ≡ (stage1 n v).o + ceil (n.cod * (stage1 n v).r) n.ticks
  unfolding stage1
  stage1-burnt = refl

  -- r ≤ ticks × x / cod, so the COD for r is at most x; rounding it up stays there, as x is whole
  pub stage1-burns : (stage1 n v).D ≤ (stage1 n v).A
  unfolding stage1
  stage1-burns =
      let x = (stage1 n v).A - (stage1 n v).o in
      let r = min-le_right v.sno (n.ticks * x / n.cod) in
      omega (arith, ceil-le _ n.ticks x (reduced-le _ n.cod (n.ticks * x) r))

  pub stage1-cod : (stage1 n v).ss + (stage1 n v).xs + (stage1 n v).xbh + (stage1 n v).xba + (stage1 n v).D ≡ v.ss + v.xs + v.xbh + v.xba
  unfolding stage1
  stage1-cod = drain-four (stage1 n v).D v.ss v.xs v.xbh v.xba stage1-burns

-- ---- stage 1, nitrate: for every rule of at least one milligram, which reduces at least as many ticks

module _ (n : NitrateRule) (one : 1 ≤ n.cod) where
  -- of m ticks, x of COD reduces all, or what the quotient says
  reduced-covered : (m x : ℕ) → n.cod * m ≤ n.ticks * x → min m (n.ticks * x / n.cod) ≡ m
  reduced-covered m x h = min-eq_left ((le-div_iff_mul-le one).1 (rw (mul_comm m n.cod) h))

  reduced-short : (m x : ℕ) → n.ticks * x < n.cod * m → min m (n.ticks * x / n.cod) ≡ n.ticks * x / n.cod
  reduced-short m x h = min-eq_right (le_of_lt ((div-lt_iff_lt-mul one).1 (rw (mul_comm m n.cod) h)))

  -- and that burns x
  reduced-cod : (x : ℕ) → n.cod ≤ n.ticks → ceil (n.cod * (n.ticks * x / n.cod)) n.ticks ≡ x
  reduced-cod x h =
      let under = mul-div-le (n.ticks * x) n.cod in
      let over = lt-mul-div-succ (n.ticks * x) one in
      div-eq_of_lt-le n.ticks (omega (arith, under, over)) (omega (arith, under, over))

  module _ (v : Asm1) where
    pub stage1-covered : n.cod * v.sno ≤ n.ticks * ((stage1 n v).A - (stage1 n v).o) → (stage1 n v).r ≡ v.sno
    unfolding stage1
    stage1-covered h = reduced-covered v.sno ((stage1 n v).A - (stage1 n v).o) h

    pub stage1-quotient : n.ticks * ((stage1 n v).A - (stage1 n v).o) < n.cod * v.sno
        → (stage1 n v).r ≡ n.ticks * ((stage1 n v).A - (stage1 n v).o) / n.cod
    unfolding stage1
    stage1-quotient h = reduced-short v.sno ((stage1 n v).A - (stage1 n v).o) h

    pub stage1-short : n.cod ≤ n.ticks → n.ticks * ((stage1 n v).A - (stage1 n v).o) < n.cod * v.sno → (stage1 n v).D ≡ (stage1 n v).A
    unfolding stage1
    stage1-short le h =
        let x = (stage1 n v).A - (stage1 n v).o in
        rw (reduced-short v.sno x h, reduced-cod x le) (omega arith)

pub burnt-law : BurntLaw
burnt-law v = stage1-burns nitrate_rule v

pub covered-law : CoveredLaw
covered-law v h = stage1-covered nitrate_rule (omega arith) v h

pub short-law : ShortLaw
short-law v h = stage1-short nitrate_rule (omega arith) v (omega arith) h

-- ---- stages 2 to 5

module _ (f : Figures) (v : Asm1) (s1 : Stage1) where
  pub stage2-cod : (stage2 f v s1).saa + (stage2 f v s1).ssu ≡ s1.ss
  unfolding stage2
  stage2-cod = omega arith

  pub stage2-nitrogen : f.naa * (stage2 f v s1).saa ≤ v.snd
  unfolding stage2
  stage2-nitrogen = (afford s1.ss v.snd f.naa).1

module _ (f : Figures) (v : Asm1) (s2 : Stage2) where
  pub stage3-nitrogen : f.naa * s2.saa ≤ v.snd
      → stage3 f v s2 + f.naa * s2.saa ≡ v.snd + v.xnd + f.ixb * (v.xbh + v.xba) + f.ixe * (v.xi + v.xp)
  unfolding stage3
  stage3-nitrogen h = omega arith

module _ (f : Figures) (v : Asm1) (s2 : Stage2) (P : ℕ) where
  pub stage4-cod : f.fxi ≤ 10000 → (stage4 f v s2 P).xi ≤ v.xi + v.xp
  unfolding stage4
  stage4-cod h = share-le f.fxi 10000 (v.xi + v.xp) h

  pub stage4-need : (stage4 f v s2 P).q ≡ f.ni * (v.si + (stage4 f v s2 P).xi)
  unfolding stage4
  stage4-need = refl

  -- amino acids that give way become sugars
  pub stage4-acids : (stage4 f v s2 P).short ≡ false → (stage4 f v s2 P).saa + (stage4 f v s2 P).ssu ≡ s2.saa + s2.ssu
  unfolding stage4
  stage4-acids e = omega (arith, ltb-false s2.saa (stage4 f v s2 P).g e)

  -- with the nitrogen of the amino acids before and after
  pub stage4-nitrogen : 1 ≤ f.naa → (stage4 f v s2 P).short ≡ false
      → (stage4 f v s2 P).H' + (stage4 f v s2 P).P' + (stage4 f v s2 P).q + f.naa * (stage4 f v s2 P).saa ≡ v.snh + P + f.naa * s2.saa
  unfolding stage4
  stage4-nitrogen h e =
      let s = stage4 f v s2 P in
      let m : ℕ = s.q - (P + v.snh) in
      given-way P v.snh s.q (f.naa * s2.saa) (f.naa * s.g) (f.naa * (s2.saa - s.g))
      (less-of f.naa s2.saa s.g (ltb-false s2.saa s.g e)) (ceil-ge m f.naa h) (ceil-none m f.naa)

  -- where it is short, all that there is lacks
  pub stage4-lacks : (stage4 f v s2 P).short ≡ true → v.snh + P + f.naa * s2.saa < (stage4 f v s2 P).q
  unfolding stage4
  stage4-lacks e = omega (arith, ceil-under ((stage4 f v s2 P).q - (P + v.snh)) f.naa s2.saa (ltb-true s2.saa (stage4 f v s2 P).g e))

module _ (f : Figures) (v : Asm1) (s1 : Stage1) (s4 : Stage4) where
  pub stage5-rest : s4.xi ≤ v.xi + v.xp → (stage5 f v s1 s4).R + s4.xi ≡ s1.xs + s1.xbh + s1.xba + v.xi + v.xp
  unfolding stage5
  stage5-rest h = omega arith

  pub stage5-cod : (stage5 f v s1 s4).xc + (stage5 f v s1 s4).xch + (stage5 f v s1 s4).xli ≡ (stage5 f v s1 s4).R
  unfolding stage5
  stage5-cod =
      let s = stage5 f v s1 s4 in
      omega (arith, (afford s.R s4.P' f.nxc).0, share-le f.fch (f.fch + f.fli) (s.R - s.xc) (omega arith))

  pub stage5-nitrogen : (stage5 f v s1 s4).sin + f.nxc * (stage5 f v s1 s4).xc ≡ s4.H' + s4.P'
  unfolding stage5
  stage5-nitrogen = omega (arith, (afford (stage5 f v s1 s4).R s4.P' f.nxc).1)

-- ---- the stages, step by step: numbers that are made as the stage makes its own are the stage's own

module _ (n : NitrateRule) (v : Asm1) where
  pub stage1-is : {s t a o x : ℕ} → s ≡ v.ss + v.xs → t ≡ s + v.xbh → a ≡ t + v.xba → o ≡ min v.so a → x ≡ a - o
      → (a ≡ (stage1 n v).A) × (o ≡ (stage1 n v).o) × (x ≡ (stage1 n v).A - (stage1 n v).o)
  unfolding stage1
  stage1-is s t a o x = (cc, cc, cc)

  -- where the test says that COD covers the nitrate
  pub stage1-covered-is : {o x k d : ℕ} {t : Bool} → 1 ≤ n.cod → o ≡ (stage1 n v).o → x ≡ (stage1 n v).A - (stage1 n v).o
      → t ≡ leb (n.cod * v.sno) (n.ticks * x) → t ≡ true → k ≡ ceil (n.cod * v.sno) n.ticks → d ≡ o + k
      → (v.sno ≡ (stage1 n v).r) × (d ≡ (stage1 n v).D)
  stage1-covered-is one o x t e k d =
      let h : leb (n.cod * v.sno) (n.ticks * ((stage1 n v).A - (stage1 n v).o)) ≡ true = cc in
      let r = stage1-covered n one v (leb-true _ _ h) in
      let D = stage1-burnt n v in
      (sym r, cc)

  -- and where it says that COD is short
  pub stage1-short-is : {a x m : ℕ} {t : Bool} → 1 ≤ n.cod → n.cod ≤ n.ticks → a ≡ (stage1 n v).A
      → x ≡ (stage1 n v).A - (stage1 n v).o → t ≡ leb (n.cod * v.sno) (n.ticks * x) → t ≡ false → m ≡ n.ticks * x / n.cod
      → (m ≡ (stage1 n v).r) × (a ≡ (stage1 n v).D)
  stage1-short-is one le a x t e m =
      let h : leb (n.cod * v.sno) (n.ticks * ((stage1 n v).A - (stage1 n v).o)) ≡ false = cc in
      let r = stage1-quotient n one v (leb-false _ _ h) in
      let D = stage1-short n one v le (leb-false _ _ h) in
      (cc, cc)

module _ (f : Figures) (v : Asm1) (s1 : Stage1) where
  pub stage2-is : {ss saa ssu : ℕ} → ss ≡ s1.ss → saa ≡ min ss (v.snd / f.naa) → ssu ≡ ss - saa
      → (saa ≡ (stage2 f v s1).saa) × (ssu ≡ (stage2 f v s1).ssu)
  unfolding stage2
  stage2-is ss saa ssu = (cc, cc)

module _ (f : Figures) (v : Asm1) (s2 : Stage2) where
  pub stage3-is : {saa n left b biomass i inert s t P : ℕ} → saa ≡ s2.saa → n ≡ f.naa * saa → left ≡ v.snd - n
      → b ≡ v.xbh + v.xba → biomass ≡ f.ixb * b → i ≡ v.xi + v.xp → inert ≡ f.ixe * i
      → s ≡ left + v.xnd → t ≡ s + biomass → P ≡ t + inert → P ≡ stage3 f v s2
  unfolding stage3
  stage3-is saa n left b biomass i inert s t P = cc

module _ (f : Figures) (v : Asm1) (s2 : Stage2) (P : ℕ) where
  pub stage4-is : {p i xi c q n m g : ℕ} → p ≡ P → i ≡ v.xi + v.xp → xi ≡ f.fxi * i / 10000 → c ≡ v.si + xi
      → q ≡ f.ni * c → n ≡ p + v.snh → m ≡ q - n → g ≡ ceil m f.naa
      → (xi ≡ (stage4 f v s2 P).xi) × (q ≡ (stage4 f v s2 P).q) × (m ≡ (stage4 f v s2 P).m) × (g ≡ (stage4 f v s2 P).g)
  unfolding stage4
  stage4-is p i xi c q n m g = (cc, cc, cc, cc)

  -- what the test of a shortage says
  pub stage4-short-is : {saa g : ℕ} {short t : Bool} → saa ≡ s2.saa → g ≡ (stage4 f v s2 P).g → short ≡ ltb saa g → short ≡ t
      → (stage4 f v s2 P).short ≡ t
  unfolding stage4
  stage4-short-is saa g short t = cc

  -- what is left
  pub stage4-left-is : {saa ssu p q m g saa' ssu' n over k p' x h : ℕ} → saa ≡ s2.saa → ssu ≡ s2.ssu → p ≡ P
      → q ≡ (stage4 f v s2 P).q → m ≡ (stage4 f v s2 P).m → g ≡ (stage4 f v s2 P).g
      → saa' ≡ saa - g → ssu' ≡ ssu + g → n ≡ f.naa * g → over ≡ n - m → k ≡ p - q → p' ≡ k + over → x ≡ q - p → h ≡ v.snh - x
      → (saa' ≡ (stage4 f v s2 P).saa) × (ssu' ≡ (stage4 f v s2 P).ssu) × (p' ≡ (stage4 f v s2 P).P') × (h ≡ (stage4 f v s2 P).H')
  unfolding stage4
  stage4-left-is saa ssu p q m g saa' ssu' n over k p' x h = (cc, cc, cc, cc)

module _ (f : Figures) (v : Asm1) (s1 : Stage1) (s4 : Stage4) where
  pub stage5-is : {xs xbh xba xi pool ammonia a b c d all xc rest xch xli m n sin : ℕ}
      → xs ≡ s1.xs → xbh ≡ s1.xbh → xba ≡ s1.xba → xi ≡ s4.xi → pool ≡ s4.P' → ammonia ≡ s4.H'
      → a ≡ xs + xbh → b ≡ a + xba → c ≡ b + v.xi → d ≡ c + v.xp → all ≡ d - xi
      → xc ≡ min all (pool / f.nxc) → rest ≡ all - xc → xch ≡ f.fch * rest / (f.fch + f.fli) → xli ≡ rest - xch
      → m ≡ ammonia + pool → n ≡ f.nxc * xc → sin ≡ m - n
      → (xc ≡ (stage5 f v s1 s4).xc) × (xch ≡ (stage5 f v s1 s4).xch) × (xli ≡ (stage5 f v s1 s4).xli) × (sin ≡ (stage5 f v s1 s4).sin)
  unfolding stage5
  stage5-is xs xbh xba xi pool ammonia a b c d all xc rest xch xli m n sin = (cc, cc, cc, cc)

-- ---- the whole conversion

-- an accepted conversion has passed the test
pub record FeedAccepted (f : Figures) (c : List ℕ) (o : Fed) : Type 0 where
  pub covered : (stages f (asm1 c)).s4.short ≡ false
  pub is : o ≡ feed_taken (asm1 c) (stages f (asm1 c))

passed : (a : Bool) (x o : Fed) → cond a (Err FeedShort) (Ok x) ≡ Ok o → (a ≡ false) × (o ≡ x)
passed true x o e = absurd (cc e)
passed false x o e = (refl, cc e)

pub feed-accepted : (f : Figures) (c : List ℕ) (o : Fed) → feed_of f c ≡ Ok o → FeedAccepted f c o
unfolding feed_asm1
feed-accepted f c o e =
    let s = stages f (asm1 c) in
    let p = passed s.s4.short (feed_taken (asm1 c) s) o e in
    record { covered = p.0; is = p.1 }

-- the two outcomes
module _ (f : Figures) (v : Asm1) where
  pub feed-short : (stages f v).s4.short ≡ true → Err FeedShort ≡ feed_asm1 f v
  unfolding feed_asm1
  feed-short t = rw t

  pub feed-taken : (stages f v).s4.short ≡ false → Ok (feed_taken v (stages f v)) ≡ feed_asm1 f v
  unfolding feed_asm1
  feed-taken t = rw t

pub feed-keeps : FeedLaw
feed-keeps f h c o e =
    let a = feed-accepted f c o e in
    let v = asm1 c in
    let s = stages f v in
    let xi = stage4-cod f v s.s2 s.P h.fxi_le in
    let rest = stage5-rest f v s.s1 s.s4 xi in
    let pool = stage3-nitrogen f v s.s2 (stage2-nitrogen f v s.s1) in
    let inert = stage4-nitrogen f v s.s2 s.P h.naa_some a.covered in
    let acids = stage4-acids f v s.s2 s.P a.covered in
    rw a.is
    (record {
      cod = omega (arith, stage1-cod nitrate_rule v, stage2-cod f v s.s1, acids, rest, stage5-cod f v s.s1 s.s4);
      tkn = omega (arith, pool, stage4-need f v s.s2 s.P, inert, stage5-nitrogen f v s.s1 s.s4);
      oxygen = omega (arith, stage1-oxygen nitrate_rule v);
      nitrate = omega (arith, stage1-nitrate nitrate_rule v);
    })

-- ---- what decides over refusal 4

-- a vector with this si and xi has at least the nitrogen that they need
suits-need : (f : Figures) (c d : List ℕ) → Suits f c d → (stages f (asm1 c)).s4.q ≤ asm1_tkn f c
suits-need f c d u =
    let v = asm1 c in
    let s = stages f v in
    let inert : f.ni * ((digester d).si + (digester d).xi) ≡ f.ni * (v.si + s.s4.xi) =
    ap₂ (λ (x y : ℕ). f.ni * (x + y)) u.si u.xi in
    omega (arith, stage4-need f v s.s2 s.P, inert, u.tkn)

-- the drawn TKN is what the inerts can have
tkn-of : (f : Figures) (c : List ℕ)
    → asm1_tkn f c ≡ (asm1 c).snh + (stages f (asm1 c)).P + f.naa * (stages f (asm1 c)).s2.saa
tkn-of f c =
    let v = asm1 c in
    let s = stages f v in
    omega (arith, stage3-nitrogen f v s.s2 (stage2-nitrogen f v s.s1))

-- a refusal tells of its test, and is 4
sent : (t : Bool) (x : Fed) (r : Refusal) → cond t (Err FeedShort) (Ok x) ≡ Err r → (t ≡ true) × (r ≡ FeedShort)
sent true x r e = (refl, cc e)
sent false x r e = absurd (cc e)

feed-sent : (f : Figures) (c : List ℕ) (r : Refusal) → feed_of f c ≡ Err r → ((stages f (asm1 c)).s4.short ≡ true) × (r ≡ FeedShort)
unfolding feed_asm1
feed-sent f c r e = sent (stages f (asm1 c)).s4.short (feed_taken (asm1 c) (stages f (asm1 c))) r e

pub inerts-decide : InertsLaw
inerts-decide f h c = record { refused = refused; none = none (feed_of f c) refl; accepted = accepted }
  where
    refused : feed_of f c ≡ Err FeedShort → (d : List ℕ) → Suits f c d → ⊥
    refused e d u =
        let v = asm1 c in
        let s = stages f v in
        omega (arith, stage4-lacks f v s.s2 s.P (feed-sent f c FeedShort e).0, suits-need f c d u, tkn-of f c)

    accepted : (o : Fed) → feed_of f c ≡ Ok o → Suits f c o.vector
    accepted o e =
        let a = feed-accepted f c o e in
        let k = feed-keeps f h c o e in
        record {
          si = ap (λ (x : Fed). (digester x.vector).si) a.is;
          xi = ap (λ (x : Fed). (digester x.vector).xi) a.is;
          tkn = sym k.tkn;
        }

    none : (r : Result Fed Refusal) → feed_of f c ≡ r → ((d : List ℕ) → Suits f c d → ⊥) → feed_of f c ≡ Err FeedShort
    none (Ok o) e never = absurd (never o.vector (accepted o e))
    none (Err r) e never = e ∙ ap Err (feed-sent f c r e).1

-- ---- what did not change

-- stage 4 where nothing was lacking
stage4-as-before : (f : Figures) (v : Asm1) (s2 : Stage2) (P : ℕ) → (stage4_before f v s2 P).short ≡ false
    → stage4_before f v s2 P ≡ stage4 f v s2 P
unfolding stage4_before stage4
stage4-as-before f v s2 P e = λ i. record {
  xi = s.xi;
  q = s.q;
  m = m i;
  g = g i;
  saa = saa i;
  ssu = ssu i;
  P' = pool i;
  H' = s.H';
  short = short i;
}
  where
    s : Stage4
    s = stage4 f v s2 P

    covered : s.q ≤ P + v.snh
    covered = omega (arith, ltb-false _ _ e)

    m : 0 ≡ s.m
    m = omega (arith, covered)

    g : 0 ≡ s.g
    g = omega (arith, ceil-le s.m f.naa 0 (omega (arith, covered)))

    saa : s2.saa ≡ s.saa
    saa = omega (arith, g)

    ssu : s2.ssu ≡ s.ssu
    ssu = omega (arith, g)

    pool : P - s.q ≡ s.P'
    pool = omega (arith, ceil-none s.m f.naa (sym m))

    short : (stage4_before f v s2 P).short ≡ s.short
    short = e ∙ sym (le-ltb s2.saa s.g (omega (arith, g)))

-- what was short then lacks
stage4-lacked : (f : Figures) (v : Asm1) (s2 : Stage2) (P : ℕ) → (stage4_before f v s2 P).short ≡ true → 0 < (stage4 f v s2 P).m
unfolding stage4_before stage4
stage4-lacked f v s2 P e = omega (arith, ltb-true _ _ e)

lacked-before : (f : Figures) (c : List ℕ) (r : Refusal) → feed_before f c ≡ Err r → 0 < (stages f (asm1 c)).s4.m
lacked-before f c r e =
    let v = asm1 c in
    let s = stages_before f v in
    stage4-lacked f v s.s2 s.P (sent s.s4.short (feed_taken v s) r e).0

same-before : (f : Figures) (c : List ℕ) (o : Fed) → feed_before f c ≡ Ok o → feed_of f c ≡ Ok o
same-before f c o e =
    let v = asm1 c in
    let s = stages f v in
    let p = passed (stages_before f v).s4.short (feed_taken v (stages_before f v)) o e in
    let same = stage4-as-before f v s.s2 s.P p.0 in
    sym (feed-taken f v (ap (λ (x : Stage4). x.short) (sym same) ∙ p.0))
    ∙ ap (λ (x : Stage4). Ok (feed_taken v (record { s1 = s.s1; s2 = s.s2; P = s.P; s4 = x; s5 = stage5 f v s.s1 x }))) (sym same)
    ∙ ap Ok (sym p.1)

pub as-before : AsBeforeLaw
as-before f c = record { same = same-before f c; other = lacked-before f c }
