-- The laws of a blend: document 02, E10. proofs/Laws/Draws.antt proves them.
--
--   OrderLaw      the same loads in any order, each with its k, give the same answer, and so the same sludge tank
--   ColumnLaw     of an accepted blend, each load's column before is its draw and its rest
--   DrawsLaw      a total of all draws is the sum of the totals of each
--   ReceivesLaw   an accepted blend does to the record what a receive of all draws does
--   KeptLaw       a refused blend leaves the loads as they were
use Rattle.std.specs.Prelude.{Ok, Err, List, ◌≡◌, ℕ, ◌+◌, ◌*◌, ◌/◌, length, get_or}
use Rattle.std.specs.List.{sum_by}
use Rattle.std.specs.List.Sorted.{IsPermutation}
use Rattle.refusals.specs.declared.Refusal.{Refusal}
use Rattle.vectors.specs.Draw.{part}
use Rattle.vectors.specs.Laws.{Linear}
use Rattle.plant.specs.declared.record.Plant.{Plant}
use Rattle.plant.specs.declared.answer.Answer.TheVariants as answer
use Rattle.plant.specs.Record.{no_columns}
use Rattle.plant.specs.Calls.{step, receiving}
use Rattle.blends.specs.Blend.{Load, loads_of, draw_of, draws, blend, loads_left}

-- by two slices of columns and two of k, thirteen columns for each k: whatever the order, blend answers the same
abbrev pub OrderLaw : Type 0
OrderLaw =
    (p : Plant) (c ks d js : List ℕ) → length c ≡ 13 * length ks → length d ≡ 13 * length js
    → IsPermutation (loads_of c ks) (loads_of d js)
    → blend p c ks ≡ blend p d js

-- at each place of the slice
abbrev pub ColumnLaw : Type 0
ColumnLaw =
    (p : Plant) (c ks : List ℕ) (q : Plant) → blend p c ks ≡ Ok q
    → (i : ℕ) → get_or c i 0 ≡ part (get_or ks (i / 13) 0) (get_or c i 0) + get_or (loads_left p c ks) i 0

abbrev pub DrawsLaw : Type 0
DrawsLaw = (total : List ℕ → ℕ) → Linear total → (ls : List Load) → total (draws ls) ≡ sum_by (λ l. total (draw_of l)) ls

abbrev pub ReceivesLaw : Type 0
ReceivesLaw =
    (p : Plant) (c ks : List ℕ) (q : Plant) → blend p c ks ≡ Ok q
    → step p (receiving (draws (loads_of c ks))) ≡ record { answer = answer.Received; vector = no_columns; plant = q }

abbrev pub KeptLaw : Type 0
KeptLaw = (p : Plant) (c ks : List ℕ) (r : Refusal) → blend p c ks ≡ Err r → loads_left p c ks ≡ c
