-- The hand-worked plants a to k: document 01, "Hand-worked plants" (k = 1000, unnamed columns zero), with a, b and h as document 02,
-- E9, amends them; and those of E13.
--
--   ◌is◌                         a column by its name and its value
--   asm1_named, digester_named   the columns that have these values, all others zero
--   fed, returned                what an accepted conversion tells, with the columns that are not zero
--   Row, plants                  the table
--   Holds, PlantsHold            the conversion of the drawn vector is the outcome of the row; of every row. proofs/Laws/Plants.antt
--                                proves it: plants-hold
use Rattle.std.specs.Prelude.{cond, Result, Ok, Err, List, [], ◌∷◌, map, ◌≡◌, ℕ}
use Prim.Native.String.{String}
use lib.Text.{eqt}
use Rattle.refusals.specs.declared.Refusal.{Refusal}
use Rattle.refusals.specs.declared.Refusal.TheVariants.{FeedShort, ReturnShort}
use Rattle.interface.specs.declared.feed.Fed.{Fed}
use Rattle.interface.specs.declared.returning.Returned.{Returned}
use Rattle.vectors.specs.Columns.{asm1_names, digester_names}
use Rattle.vectors.specs.Figures.{house}
use Rattle.vectors.specs.Draw.{drawn}
use Rattle.vectors.specs.Units.{milligrams, ticks}
use Rattle.interface.specs.Feed.{feed_of}
use Rattle.interface.specs.Return.{return_of}

-- ---- vectors by names

infix 80 ◌is◌
pub record Named : Type 0 where
  pub name : String
  pub value : ℕ

abbrev pub ◌is◌ : String → ℕ → Named
s is n = record { name = s; value = n }

-- the value under a name, or zero
abbrev pub under : List Named → String → ℕ
under [] s = 0
under (n ∷ ns) s = cond (eqt s n.name) n.value (under ns s)

abbrev pub asm1_named : List Named → List ℕ
asm1_named ns = map (under ns) asm1_names

abbrev pub digester_named : List Named → List ℕ
digester_named ns = map (under ns) digester_names

-- ---- outcomes

-- D, o, r and warn, and the digester columns
abbrev pub fed : ℕ → ℕ → ℕ → ℕ → List Named → Result Fed Refusal
fed D o r w ns =
    Ok (record { burnt = milligrams D; oxygen = milligrams o; nitrate = ticks r; warn = w; vector = digester_named ns })

-- the COD stripped, and the ASM1 columns
abbrev pub returned : ℕ → List Named → Result Returned Refusal
returned s ns = Ok (record { stripped = milligrams s; vector = asm1_named ns })

-- ---- the table

pub data Row : Type 0 where
  feeding : List Named → Result Fed Refusal → Row
  returning : List Named → Result Returned Refusal → Row

abbrev pub plants : List Row
plants =
    -- a: D, o, r by stage1; ssu by stage2
    feeding ("ss" is 40000 ∷ "so" is 5000 ∷ "sno" is 100_000_000 ∷ []) (fed 33572 5000 100_000_000 0 ("ssu" is 6428 ∷ []))
    -- b, the session's feed: D, o, r by stage1; xch, xli by stage5
    ∷ feeding ("ss" is 10000 ∷ "xs" is 30000 ∷ "so" is 5000 ∷ "sno" is 100_000_000 ∷ [])
    (fed 33572 5000 100_000_000 0 ("xch" is 2856 ∷ "xli" is 3572 ∷ []))
    -- c: saa, ssu by stage2; sin, the leftover of snd / naa, by stage3 and stage5
    ∷ feeding ("ss" is 100 ∷ "snd" is 10000 ∷ []) (fed 0 0 0 0 ("saa" is 10 ∷ "ssu" is 90 ∷ "sin" is 200 ∷ []))
    -- d: saa by stage2; sin by stage3 and stage5
    ∷ feeding ("ss" is 5 ∷ "snd" is 10000 ∷ []) (fed 0 0 0 0 ("saa" is 5 ∷ "sin" is 5100 ∷ []))
    -- e: xi by stage4; xc, sin by stage5
    ∷ feeding ("xi" is 10 ∷ []) (fed 0 0 0 0 ("xi" is 8 ∷ "xc" is 2 ∷ "sin" is 6000 ∷ []))
    -- f: si by fed_vector; sin by stage4 and stage5. One tick less, and stage4 is short
    ∷ feeding ("si" is 1 ∷ "snh" is 280 ∷ []) (fed 0 0 0 0 ("si" is 1 ∷ []))
    ∷ feeding ("si" is 1 ∷ "snh" is 279 ∷ []) (Err FeedShort)
    -- E13: amino acids give way by stage4; xi and sin by stage4 and stage5
    ∷ feeding ("si" is 1 ∷ "ss" is 1 ∷ "snd" is 980 ∷ []) (fed 0 0 0 0 ("si" is 1 ∷ "ssu" is 1 ∷ "sin" is 700 ∷ []))
    -- a shortage of exactly naa × saa, 2 × 980 = 7 × 280; one tick more, and stage4 is short
    ∷ feeding ("si" is 8 ∷ "ss" is 2 ∷ "snd" is 1960 ∷ "snh" is 280 ∷ []) (fed 0 0 0 0 ("si" is 8 ∷ "ssu" is 2 ∷ []))
    ∷ feeding ("si" is 8 ∷ "ss" is 2 ∷ "snd" is 1960 ∷ "snh" is 279 ∷ []) (Err FeedShort)
    -- a shortage of a tick: one milligram of amino acids gives way, and 979 ticks are left over
    ∷ feeding ("si" is 1 ∷ "ss" is 2 ∷ "snd" is 1960 ∷ "snh" is 279 ∷ [])
    (fed 0 0 0 0 ("si" is 1 ∷ "ssu" is 1 ∷ "saa" is 1 ∷ "sin" is 979 ∷ []))
    -- g: D, o, co, cn and warn by stage1
    ∷ feeding ("xs" is 5 ∷ "so" is 7 ∷ "sno" is 100 ∷ []) (fed 5 5 0 1 ("co" is 2 ∷ "cn" is 100 ∷ []))
    -- h: D, r, cn and warn by stage1; sin, the nitrogen of the burnt biomass, by stage3 and stage5
    ∷ feeding ("xba" is 1 ∷ "sno" is 3501 ∷ []) (fed 1 0 3500 1 ("cn" is 1 ∷ "sin" is 880 ∷ []))
    -- i: xc, xch, xli, sin by stage5
    ∷ feeding ("xs" is 100 ∷ "xnd" is 2810 ∷ []) (fed 0 0 0 0 ("xc" is 10 ∷ "xch" is 40 ∷ "xli" is 50 ∷ "sin" is 10 ∷ []))
    -- j, return: xi and xs by returned_vector; snh by nitrogen_of and taken
    ∷ returning ("xi" is 8 ∷ "xc" is 2 ∷ "sin" is 6000 ∷ []) (returned 0 ("xi" is 8 ∷ "xs" is 2 ∷ "snh" is 1760 ∷ []))
    -- k, return: xi by returned_vector; no other nitrogen, by taken. One tick less, and return_short holds
    ∷ returning ("xi" is 1 ∷ "sin" is 600 ∷ []) (returned 0 ("xi" is 1 ∷ []))
    ∷ returning ("xi" is 1 ∷ "sin" is 599 ∷ []) (Err ReturnShort)
    ∷ []

-- ---- the theorem

abbrev pub Holds : Row → Type 0
Holds (feeding given outcome) = feed_of house (drawn 1000 (asm1_named given)) ≡ outcome
Holds (returning given outcome) = return_of house (drawn 1000 (digester_named given)) ≡ outcome

abbrev pub AllHold : List Row → Type 0
AllHold [] = Unit
AllHold (row ∷ rows) = Holds row × AllHold rows

abbrev pub PlantsHold : Type 0
PlantsHold = AllHold plants
