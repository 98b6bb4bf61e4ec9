-- The laws of a blend. Assumes nothing.
--
--   draws-column         a column of all draws is the sum of the columns
--   draws-total          DrawsLaw
--   blend-sent           the answer where a test fails
--   blend-kept           KeptLaw
--   column-splits-left   ColumnLaw
--   blend-receives       ReceivesLaw
--   blend-plant          the record afterwards is that of a receive of all draws, or the one before
--   blend-figures        it has the figures of the one before
--   order-kept           OrderLaw
use mathlib.Core.Bool.{Bool, true, false, ◌&&◌, cond}
use mathlib.Core.List.{List, [], ◌∷◌}
use mathlib.Core.Path.{◌≡◌, refl, sym, ap, ap₂, ◌∙◌}
use Prim.Native.Nat.{ℕ, zero, suc, ◌+◌, ◌*◌, ◌/◌}
use native.Mathlib.Nat.{zero-add}
use native.Mathlib.Numerals.{one-add}
use native.Mathlib.Omega.{arith}
use lib.Dec.{leb, ltb}
use lib.ListN.{length, get_or, take, drop}
use borrow.Author.Tests.{ltb-true, ltb-false, eq-eqb}
use Rattle.std.proofs.lemmas.List.{get_or_past, length-map, ext_get_or}
use Rattle.std.specs.Prelude.{Option, Some, None, is_none, Result, Err}
use Rattle.std.specs.List.{list_all, sum_by}
use Rattle.std.specs.List.Sorted.{IsPermutation}
use Rattle.std.proofs.lemmas.List.Sums.{sum_by-cons}
use Rattle.std.proofs.lemmas.List.Sorted.{sum_by-IsPermutation, length_permutation}
use Rattle.refusals.specs.declared.Refusal.{Refusal}
use Rattle.refusals.specs.declared.Refusal.TheVariants.{NotThousandths, ColumnAbove, TankAbove, NoBlend}
use Rattle.refusals.specs.Tests.{unless, first, decide}
use Rattle.vectors.specs.Columns.{asm1_ceilings, within, added}
use Rattle.vectors.specs.Draw.{part, drawn}
use Rattle.vectors.proofs.Laws.Columns.{added-column, added-length}
use Rattle.vectors.proofs.Laws.Draw.{part-le}
use Rattle.plant.specs.declared.record.Plant.{Plant}
use Rattle.plant.specs.Record.{record_refusal, thousandths, no_columns}
use Rattle.plant.specs.declared.answer.Answer.TheVariants as answer
use Rattle.plant.specs.declared.answer.Outcome.{Outcome}
use Rattle.plant.specs.Calls.{step_by, step, ruled, receive, receiving}
use Rattle.blends.specs.Blend.{Load, loads_of, are_loads, draw_of, draws, rests, blend_tests, with_draws, blend, plant_by, blend_step}
use Rattle.blends.specs.Blend.{left_by, loads_left}
use Rattle.blends.specs.Laws.{OrderLaw, ColumnLaw, DrawsLaw, ReceivesLaw, KeptLaw}
use Rattle.blends.proofs.Laws.Blend.{decide-ok, Passed, tests-passed, rests-at, rests-length, are-loads-long, k-low, long-first, long-next}
use Rattle.blends.proofs.Laws.Blend.{added-nil, within-second, loads-length}

-- ---- all draws

pub draws-column : (ls : List Load) (i : ℕ) → get_or (draws ls) i 0 ≡ sum_by (λ l. get_or (draw_of l) i 0) ls
unfolding draws
draws-column [] i = refl
draws-column (l ∷ ls) i =
    added-column (draw_of l) (draws ls) i ∙ ap (λ (n : ℕ). get_or (draw_of l) i 0 + n) (draws-column ls i)
    ∙ sym (sum_by-cons (λ l. get_or (draw_of l) i 0) l ls)

pub draws-total : DrawsLaw
unfolding draws
draws-total total linear [] = linear.none 0
draws-total total linear (l ∷ ls) =
    linear.adds (draw_of l) (draws ls) ∙ ap (λ (n : ℕ). total (draw_of l) + n) (draws-total total linear ls)
    ∙ sym (sum_by-cons (λ l. total (draw_of l)) l ls)

-- ---- the call

pub blend-sent : (p : Plant) (c ks : List ℕ) {r : Refusal} → first (blend_tests p c ks) ≡ Some r → blend p c ks ≡ Err r
unfolding blend
blend-sent p c ks e = ap (λ (t : Option Refusal). decide t (with_draws p (loads_of c ks))) e

pub blend-kept : KeptLaw
unfolding loads_left
blend-kept p c ks r e = ap (λ (x : Result Plant Refusal). left_by x (loads_of c ks) c) e

pub column-splits-left : ColumnLaw
unfolding blend loads_left
column-splits-left p c ks q e i =
    let none = (decide-ok (first (blend_tests p c ks)) _ e).0 in
    let h = tests-passed p c ks none in
    let long = are-loads-long c ks h.lengths in
    place (ltb i (length c)) refl none h long
  where
    place : (b : Bool) → ltb i (length c) ≡ b → first (blend_tests p c ks) ≡ None → Passed p c ks → length c ≡ 13 * length ks
        → get_or c i 0 ≡ part (get_or ks (i / 13) 0) (get_or c i 0) + get_or (loads_left p c ks) i 0
    place true t none h long =
        let lt = ltb-true i (length c) t in
        let le = part-le (get_or ks (i / 13) 0) (get_or c i 0) (k-low ks i h.each (omega arith)) in
        rw none (omega (arith, rests-at ks c i long lt, le))
    place false t none h long =
        let ge = ltb-false i (length c) t in
        let past = get_or_past (rests (loads_of c ks)) i 0 (omega (arith, rests-length ks c long)) in
        rw (none, get_or_past c i 0 ge) (omega (arith, past))

pub blend-receives : ReceivesLaw
unfolding blend step_by ruled receive
blend-receives p c ks q e =
    let ls = loads_of c ks in
    let done = decide-ok (first (blend_tests p c ks)) (with_draws p ls) e in
    let h = tests-passed p c ks done.0 in
    rw (h.usable, within-second asm1_ceilings p.sludge (draws ls) h.room, h.room)
    (ap (λ (x : Plant). record { answer = answer.Received; vector = no_columns; plant = x }) (sym done.1))

-- ---- the record afterwards

pub blend-plant : (p : Plant) (c ks : List ℕ)
    → blend_step p c ks ≡ cond (is_none (first (blend_tests p c ks))) (step p (receiving (draws (loads_of c ks)))).plant p
unfolding blend
blend-plant p c ks = go (first (blend_tests p c ks)) refl
  where
    go : (t : Option Refusal) → first (blend_tests p c ks) ≡ t
        → plant_by p (decide t (with_draws p (loads_of c ks))) ≡ cond (is_none t) (step p (receiving (draws (loads_of c ks)))).plant p
    go None e =
        let q = with_draws p (loads_of c ks) in
        ap (λ (o : Outcome). o.plant) (sym (blend-receives p c ks q (ap (λ (t : Option Refusal). decide t q) e)))
    go (Some r) e = refl

-- a blend, refused or not, returns the figures that it was handed
pub blend-figures : (p : Plant) (c ks : List ℕ) → (blend_step p c ks).figures ≡ p.figures
unfolding blend
blend-figures p c ks = go (first (blend_tests p c ks))
  where
    go : (t : Option Refusal) → (plant_by p (decide t (with_draws p (loads_of c ks)))).figures ≡ p.figures
    go None = refl
    go (Some r) = refl

-- ---- the order of the loads

-- a test of all is a sum: of one for each that fails
abbrev is_zero : ℕ → Bool
is_zero zero = true
is_zero (suc n) = false

all-sum : {A : Type 0} (p : A → Bool) (xs : List A) → list_all p xs ≡ is_zero (sum_by (λ x. cond (p x) 0 1) xs)
all-sum p [] = refl
all-sum p (x ∷ xs) = rw (sum_by-cons (λ y. cond (p y) 0 1) x xs) (go (p x) (all-sum p xs))
  where
    go : (b : Bool) → list_all p xs ≡ is_zero (sum_by (λ y. cond (p y) 0 1) xs)
        → (b && list_all p xs) ≡ is_zero (cond b 0 1 + sum_by (λ y. cond (p y) 0 1) xs)
    go true e = rw zero-add e
    go false e = rw (one-add (sum_by (λ y. cond (p y) 0 1) xs)) refl

all-permutation : {A : Type 0} (p : A → Bool) (xs ys : List A) → IsPermutation xs ys → list_all p xs ≡ list_all p ys
all-permutation p xs ys s =
    all-sum p xs ∙ ap is_zero (sym (sum_by-IsPermutation (λ x. cond (p x) 0 1) xs ys s)) ∙ sym (all-sum p ys)

-- none of no loads, else thirteen
abbrev columns_of : ℕ → ℕ
columns_of zero = 0
columns_of (suc n) = 13

draws-length : (ks c : List ℕ) → length c ≡ 13 * length ks → length (draws (loads_of c ks)) ≡ columns_of (length ks)
unfolding draws
draws-length [] c long = refl
draws-length (k ∷ []) c long = rw (added-nil (drawn k (take 13 c))) (length-map (take 13 c) (part k) ∙ long-first k [] c long)
draws-length (k ∷ j ∷ ks) c long =
    let first = length-map (take 13 c) (part k) ∙ long-first k (j ∷ ks) c long in
    let next = draws-length (j ∷ ks) (drop 13 c) (long-next k (j ∷ ks) c long) in
    added-length (drawn k (take 13 c)) (draws (loads_of (drop 13 c) (j ∷ ks))) (next ∙ sym first) ∙ first

-- two slices of columns and two of k, whose loads are the same in some order
module _ (c ks d js : List ℕ) (e : length c ≡ 13 * length ks) (f : length d ≡ 13 * length js)
    (s : IsPermutation (loads_of c ks) (loads_of d js)) where
  as-many : length ks ≡ length js
  as-many = sym (loads-length ks c) ∙ sym (length_permutation (loads_of c ks) (loads_of d js) s) ∙ loads-length js d

  are-loads-permutation : are_loads c ks ≡ are_loads d js
  are-loads-permutation =
      let agree = eq-eqb (length c) (13 * length ks) e ∙ sym (eq-eqb (length d) (13 * length js) f) in
      ap₂ (λ (n : ℕ) (b : Bool). leb 1 n && leb n 8 && b) as-many agree

  draws-permutation : draws (loads_of c ks) ≡ draws (loads_of d js)
  draws-permutation =
      let ls = loads_of c ks in
      let ms = loads_of d js in
      ext_get_or 0 (draws ls) (draws ms) (draws-length ks c e ∙ ap columns_of as-many ∙ sym (draws-length js d f))
      (λ i h. draws-column ls i ∙ sym (sum_by-IsPermutation (λ l. get_or (draw_of l) i 0) ls ms s) ∙ sym (draws-column ms i))

-- the call by what its tests find, v being all draws
abbrev by_tests : Plant → Bool → Bool → Bool → List ℕ → Result Plant Refusal
by_tests p b k w v =
    decide
    (first
    (record_refusal p
    ∷ unless b NoBlend
    ∷ unless k NotThousandths
    ∷ unless w ColumnAbove
    ∷ unless (within asm1_ceilings (added p.sludge v)) TankAbove
    ∷ []))
    (record { sludge = added p.sludge v; digester = p.digester; reject = p.reject; figures = p.figures })

pub order-kept : OrderLaw
unfolding blend
order-kept p c ks d js e f s =
    let ls = loads_of c ks in
    let ms = loads_of d js in
    let b = are-loads-permutation c ks d js e f s in
    let k = all-permutation (λ (l : Load). thousandths l.1) ls ms s in
    let w = all-permutation (λ (l : Load). within asm1_ceilings l.0) ls ms s in
    let v = draws-permutation c ks d js e f s in
    λ i. by_tests p (b i) (k i) (w i) (v i)
