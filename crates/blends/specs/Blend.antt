-- Several hauled loads in one blend: document 02, E10.
--
--   Load, loads_of        a load's columns and its k; the loads that two slices hold, thirteen columns for each k
--   are_loads             there are one to eight, and thirteen columns for each (refusal 16)
--   each_k, each_within   no k is outside 1 to 1000 (2), no column of a load above its ceiling (3)
--   draw_of, rest_of      what is drawn of a load, and what stays in it
--   draws                 all draws, added up
--   rests                 what stays in all loads, one behind the other
--   blend_tests           the refusals, in the order in which they are tested
--   blend                 the call: the record with all draws in the sludge tank, or the refusal
--   blend_step            the record afterwards, which is the one that was handed in where it is refused
--   loads_left            what stands in the loads' slice afterwards
use Rattle.std.specs.Prelude.{Bool, ◌&&◌, Option, Result, Ok, Err, List, [], ◌∷◌, length, ℕ, ◌*◌, leb, eqb}
use Rattle.std.specs.List.{list_all, zip, flat_map}
use Rattle.std.specs.Simd.{first_chunks}
use Rattle.refusals.specs.declared.Refusal.{Refusal}
use Rattle.refusals.specs.declared.Refusal.TheVariants.{NotThousandths, ColumnAbove, TankAbove, NoBlend}
use Rattle.refusals.specs.Tests.{unless, first, decide}
use Rattle.vectors.specs.Columns.{asm1_ceilings, within, added}
use Rattle.vectors.specs.Draw.{drawn, rest}
use Rattle.plant.specs.declared.record.Plant.{Plant}
use Rattle.plant.specs.Record.{record_refusal, thousandths}

-- ---- the loads

abbrev pub Load : Type 0
Load = List ℕ × ℕ

abbrev pub loads_of : List ℕ → List ℕ → List Load
loads_of c ks = zip (first_chunks 13 (length ks) c) ks

abbrev pub are_loads : List ℕ → List ℕ → Bool
are_loads c ks = leb 1 (length ks) && leb (length ks) 8 && eqb (length c) (13 * length ks)

abbrev pub each_k : List Load → Bool
each_k ls = list_all (λ (l : Load). thousandths l.1) ls

abbrev pub each_within : List Load → Bool
each_within ls = list_all (λ (l : Load). within asm1_ceilings l.0) ls

-- ---- draws and rests

abbrev pub draw_of : Load → List ℕ
draw_of l = drawn l.1 l.0

abbrev pub rest_of : Load → List ℕ
rest_of l = rest l.1 l.0

-- of no loads there is nothing, which adds nothing
unfoldable pub draws : List Load → List ℕ
draws [] = []
draws (l ∷ ls) = added (draw_of l) (draws ls)

abbrev pub rests : List Load → List ℕ
rests ls = flat_map rest_of ls

-- ---- the call

abbrev pub blend_tests : Plant → List ℕ → List ℕ → List (Option Refusal)
blend_tests p c ks =
    let ls = loads_of c ks in
    record_refusal p
    ∷ unless (are_loads c ks) NoBlend
    ∷ unless (each_k ls) NotThousandths
    ∷ unless (each_within ls) ColumnAbove
    ∷ unless (within asm1_ceilings (added p.sludge (draws ls))) TankAbove
    ∷ []

-- the record p with all draws in its sludge tank
abbrev pub with_draws : Plant → List Load → Plant
with_draws p ls = record { sludge = added p.sludge (draws ls); digester = p.digester; reject = p.reject; figures = p.figures }

unfoldable pub blend : Plant → List ℕ → List ℕ → Result Plant Refusal
blend p c ks = decide (first (blend_tests p c ks)) (with_draws p (loads_of c ks))

abbrev pub plant_by : Plant → Result Plant Refusal → Plant
plant_by p (Ok q) = q
plant_by p (Err r) = p

abbrev pub blend_step : Plant → List ℕ → List ℕ → Plant
blend_step p c ks = plant_by p (blend p c ks)

-- the rests, or the slice c as it was
abbrev pub left_by : Result Plant Refusal → List Load → List ℕ → List ℕ
left_by (Ok q) ls c = rests ls
left_by (Err r) ls c = c

unfoldable pub loads_left : Plant → List ℕ → List ℕ → List ℕ
loads_left p c ks = left_by (blend p c ks) (loads_of c ks) c
