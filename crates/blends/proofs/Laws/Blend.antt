-- Laws of blends. Assumes nothing.
--
--   added-nil, added-assoc          sums of vectors
--   within-first, within-second     a sum within its ceilings has terms within them
--   draw-next                       one draw more into the tank
--   rests-length, rests-at          what stays, at a place of the slice
--   columns-low, k-low              the columns and the k of accepted loads
use mathlib.Core.Bool.{Bool, true, false, ◌&&◌, cond}
use mathlib.Core.List.{List, [], ◌∷◌, map}
use mathlib.Core.Path.{◌≡◌, refl, sym, ap, ◌∙◌}
use Prim.Native.Nat.{ℕ, zero, suc, ◌+◌, ◌-◌, ◌*◌, ◌/◌, ◌≤◌, ◌<◌}
use native.Mathlib.Omega.{arith}
use native.Mathlib.Nat.{add_assoc, add_comm}
use native.Mathlib.Numerals.{add-one}
use lib.Dec.{leb, ltb}
use borrow.Author.Tests.{ltb-true, ltb-false}
use lib.ListN.{length, get_or, take, drop, length-append}
use lib.Seq.{drop-cons}
use Rattle.std.specs.Prelude.{Option, Some, None, Result, Ok, Err, ok_or}
use Rattle.refusals.specs.declared.Refusal.{Refusal}
use Rattle.refusals.specs.declared.Refusal.TheVariants.{NotThousandths, ColumnAbove, TankAbove, NoBlend}
use Rattle.refusals.specs.Tests.{unless, first, decide}
use Rattle.std.specs.List.{list_all, zip}
use Rattle.std.specs.Simd.{first_chunks}
use Rattle.std.proofs.lemmas.Bool.{and_parts, false≢true, leb-true, le-leb, eqb-true}
use Rattle.std.proofs.Math.Nat.{div-eq_of_lt, div-eq-sub-div}
use Rattle.std.proofs.lemmas.List.{drop_all, length-take-le, length-drop, length-map, get_or-map, get_or-take, get_or-drop}
use Rattle.std.proofs.lemmas.List.{get_or_append_left, get_or-append_right}
use Rattle.std.proofs.lemmas.Slice.Zip.{get_or-zip, length-zip}
use Rattle.vectors.specs.Columns.{asm1_ceilings, within, added}
use Rattle.vectors.proofs.Laws.Columns.{within-low}
use Rattle.vectors.specs.Draw.{drawn, remainder}
use Rattle.plant.specs.declared.record.Plant.{Plant}
use Rattle.plant.specs.Record.{record_refusal, thousandths}
use Rattle.plant.proofs.Laws.Decision.{passed-by, passed}
use Rattle.plant.proofs.Laws.Record.{thousandths-le}
use Rattle.blends.specs.Blend.{loads_of, are_loads, each_k, each_within, draws, rests, blend_tests}

-- ---- sums of vectors

pub added-nil : (v : List ℕ) → added v [] ≡ v
unfolding added
added-nil [] = refl
added-nil (x ∷ v) = refl

added-comm : (a b : List ℕ) → added a b ≡ added b a
unfolding added
added-comm [] [] = refl
added-comm [] (y ∷ b) = refl
added-comm (x ∷ a) [] = refl
added-comm (x ∷ a) (y ∷ b) = rw (add_comm x y, added-comm a b)

pub added-assoc : (a b c : List ℕ) → added (added a b) c ≡ added a (added b c)
unfolding added
added-assoc [] b c = refl
added-assoc (x ∷ a) [] c = refl
added-assoc (x ∷ a) (y ∷ b) [] = refl
added-assoc (x ∷ a) (y ∷ b) (z ∷ c) = rw (add_assoc x y z, added-assoc a b c)

-- a sum within its ceilings has its first term within them
pub within-first : (cs a b : List ℕ) → within cs (added a b) ≡ true → within cs a ≡ true
unfolding added within
within-first cs [] b e = refl
within-first cs (x ∷ a) [] e = e
within-first [] (x ∷ a) (y ∷ b) e = absurd (false≢true e)
within-first (c ∷ cs) (x ∷ a) (y ∷ b) e =
    let p = and_parts (leb (x + y) c) (within cs (added a b)) e in
    rw (le-leb x c (omega (arith, leb-true (x + y) c p.0))) (within-first cs a b p.1)

-- and its second
pub within-second : (cs a b : List ℕ) → within cs (added a b) ≡ true → within cs b ≡ true
within-second cs a b e = within-first cs b a (ap (within cs) (added-comm b a) ∙ e)

-- ---- one load after the other

-- what holds of all holds of each
pub all-at : {A : Type 0} (p : A → Bool) (xs : List A) (i : ℕ) (z : A) → i < length xs → list_all p xs ≡ true → p (get_or xs i z) ≡ true
all-at p [] i z h e = absurd (omega arith)
all-at p (x ∷ xs) zero z h e = (and_parts (p x) (list_all p xs) e).0
all-at p (x ∷ xs) (suc i) z h e = all-at p xs i z (omega arith) (and_parts (p x) (list_all p xs) e).1

-- at the end nothing is left to draw
pub draw-end : (t : List ℕ) (vs : List (List ℕ)) (ks : List ℕ) (i : ℕ) → length vs ≡ length ks → length ks ≤ i
    → added t (draws (drop i (zip vs ks))) ≡ t
unfolding draws
draw-end t vs ks i long h =
    let none : drop i (zip vs ks) ≡ [] = drop_all i (zip vs ks) (omega (arith, length-zip vs ks)) in
    rw none (added-nil t)

-- a sum, or nothing, tells of its test
module _ {A : Type 0} (s : A) where
  pub sum-lost : (b : Bool) → None ≡ cond b (Some s) None → b ≡ false
  sum-lost true h = absurd cc
  sum-lost false h = refl

  pub sum-found : (b : Bool) {y : A} → Some y ≡ cond b (Some s) None → (b ≡ true) × (y ≡ s)
  sum-found true h = (refl, cc)
  sum-found false h = absurd cc

-- a load at the place i, drawn into the tank t
module _ (t : List ℕ) (vs : List (List ℕ)) (ks : List ℕ) (i : ℕ) (long : length vs ≡ length ks) (h : i < length ks) where
  pub draw-next : {d : List ℕ} → d ≡ drawn (get_or ks i 0) (get_or vs i [])
      → added t (draws (drop i (zip vs ks))) ≡ added (added t d) (draws (drop (i + 1) (zip vs ks)))
  unfolding draws
  draw-next {d} e =
      let n : i < length (zip vs ks) = omega (arith, length-zip vs ks) in
      let at : get_or (zip vs ks) i ([], 0) ≡ (get_or vs i [], get_or ks i 0) = get_or-zip vs ks i ([], 0) (omega arith) h in
      rw (drop-cons (zip vs ks) i ([], 0) n, at, ← e, add-one) (sym (added-assoc t d (draws (drop (suc i) (zip vs ks)))))

  -- where one draw more passes a ceiling, all do
  pub draw-above : (cs : List ℕ) {s d : List ℕ} → s ≡ added t (draws (drop i (zip vs ks))) → d ≡ drawn (get_or ks i 0) (get_or vs i [])
      → within cs (added t d) ≡ false → within cs s ≡ false
  draw-above cs {s} {d} is e a = go (within cs s) refl
    where
      go : (b : Bool) → within cs s ≡ b → b ≡ false
      go false w = refl
      go true w =
          let later = draws (drop (i + 1) (zip vs ks)) in
          let whole : within cs (added (added t d) later) ≡ true = ap (within cs) (sym (is ∙ draw-next e)) ∙ w in
          absurd (false≢true (sym a ∙ within-first cs (added t d) later whole))

-- ---- what stays

-- thirteen columns for each k
module _ (k : ℕ) (ks c : List ℕ) (long : length c ≡ 13 * length (k ∷ ks)) where
  pub long-first : length (take 13 c) ≡ 13
  long-first = length-take-le 13 c (omega arith)

  pub long-next : length (drop 13 c) ≡ 13 * length ks
  long-next = omega (arith, length-drop 13 c)

-- the places of the slice are those of the first load, or stand behind it
module _ {A : Type 0} (i : ℕ) where
  first-or-next : (i < 13 → A) → (13 ≤ i → A) → A
  first-or-next f g = go (ltb i 13) refl
    where
      go : (b : Bool) → ltb i 13 ≡ b → A
      go true e = f (ltb-true i 13 e)
      go false e = g (ltb-false i 13 e)

pub rests-length : (ks c : List ℕ) → length c ≡ 13 * length ks → length (rests (loads_of c ks)) ≡ length c
rests-length [] c long = omega arith
rests-length (k ∷ ks) c long =
    let first = length-map (take 13 c) (remainder k) ∙ long-first k ks c long in
    let next = rests-length ks (drop 13 c) (long-next k ks c long) in
    omega (arith, length-append (map (remainder k) (take 13 c)) (rests (loads_of (drop 13 c) ks)), first, next, length-drop 13 c)

pub rests-at : (ks c : List ℕ) (i : ℕ) → length c ≡ 13 * length ks → i < length c
    → get_or (rests (loads_of c ks)) i 0 ≡ remainder (get_or ks (i / 13) 0) (get_or c i 0)
rests-at [] c i long h = absurd (omega arith)
rests-at (k ∷ ks) c i long h =
    let f = remainder k in
    let first = take 13 c in
    let next = drop 13 c in
    let n = length-map first f ∙ long-first k ks c long in
    first-or-next i
    (λ lt.
    let at = get_or_append_left (map f first) (rests (loads_of next ks)) 0 i (omega arith) in
    rw (div-eq_of_lt lt) (at ∙ get_or-map f first i 0 0 (omega (arith, long-first k ks c long)) ∙ ap f (get_or-take 13 c i 0 lt)))
    (λ le.
    let j = i - 13 in
    let at = get_or-append_right (map f first) (rests (loads_of next ks)) 13 i 0 n le in
    let there = rests-at ks next j (long-next k ks c long) (omega (arith, length-drop 13 c)) in
    let place : 13 + j ≡ i = omega arith in
    rw (div-eq-sub-div (omega arith) le, add-one)
    (at ∙ there ∙ ap (remainder (get_or ks (j / 13) 0)) (get_or-drop 13 c j 0 ∙ ap (λ (m : ℕ). get_or c m 0) place)))

pub columns-low : (ks c : List ℕ) (i : ℕ) → length c ≡ 13 * length ks → each_within (loads_of c ks) ≡ true → i < length c
    → get_or c i 0 ≤ 10_000_000_000_000_000
columns-low [] c i long e h = absurd (omega arith)
columns-low (k ∷ ks) c i long e h =
    let p = and_parts (within asm1_ceilings (take 13 c)) (each_within (loads_of (drop 13 c) ks)) e in
    first-or-next i
    (λ lt. omega (arith, within-low asm1_ceilings (take 13 c) refl p.0 i, get_or-take 13 c i 0 lt))
    (λ le.
    let j = i - 13 in
    let place : 13 + j ≡ i = omega arith in
    let there = columns-low ks (drop 13 c) j (long-next k ks c long) p.1 (omega (arith, length-drop 13 c)) in
    omega (arith, there, get_or-drop 13 c j 0 ∙ ap (λ (m : ℕ). get_or c m 0) place))

pub k-low : (ks : List ℕ) (i : ℕ) → list_all thousandths ks ≡ true → i < 13 * length ks → get_or ks (i / 13) 0 ≤ 1000
k-low ks i e h = thousandths-le (get_or ks (i / 13) 0) (all-at thousandths ks (i / 13) 0 (omega arith) e)

-- ---- the tests

chunks-length : (n k : ℕ) (c : List ℕ) → length (first_chunks n k c) ≡ k
chunks-length n zero c = refl
chunks-length n (suc k) c = ap suc (chunks-length n k (drop n c))

-- a test of each k, and one of each load's columns
module _ {A : Type 0} where
  all-second : (p : ℕ → Bool) (vs : List A) (ks : List ℕ) → length vs ≡ length ks → list_all p ks ≡ list_all (λ l. p l.1) (zip vs ks)
  all-second p [] [] e = refl
  all-second p [] (k ∷ ks) e = absurd (omega arith)
  all-second p (v ∷ vs) [] e = absurd (omega arith)
  all-second p (v ∷ vs) (k ∷ ks) e = ap (λ b. p k && b) (all-second p vs ks (omega arith))

  all-first : (p : A → Bool) (vs : List A) (ks : List ℕ) → length vs ≡ length ks → list_all p vs ≡ list_all (λ l. p l.0) (zip vs ks)
  all-first p [] [] e = refl
  all-first p [] (k ∷ ks) e = absurd (omega arith)
  all-first p (v ∷ vs) [] e = absurd (omega arith)
  all-first p (v ∷ vs) (k ∷ ks) e = ap (λ b. p v && b) (all-first p vs ks (omega arith))

pub loads-length : (ks c : List ℕ) → length (loads_of c ks) ≡ length ks
loads-length ks c = omega (arith, length-zip (first_chunks 13 (length ks) c) ks, chunks-length 13 (length ks) c)

pub k-tests : (c ks : List ℕ) → list_all thousandths ks ≡ each_k (loads_of c ks)
k-tests c ks = all-second thousandths (first_chunks 13 (length ks) c) ks (chunks-length 13 (length ks) c)

pub are-loads-long : (c ks : List ℕ) → are_loads c ks ≡ true → length c ≡ 13 * length ks
are-loads-long c ks e = eqb-true (length c) (13 * length ks) (and_parts (leb 1 (length ks) && leb (length ks) 8) _ e).1

-- by the chunks vs of the slice
module _ (c ks : List ℕ) (vs : List (List ℕ)) (long : length c ≡ 13 * length ks) (front : vs ≡ first_chunks 13 (length c / 13) c) where
  chunks-are : vs ≡ first_chunks 13 (length ks) c
  chunks-are = front ∙ ap (λ (n : ℕ). first_chunks 13 n c) (omega arith)

  pub chunks-long : length vs ≡ length ks
  chunks-long = ap length chunks-are ∙ chunks-length 13 (length ks) c

  pub chunks-loads : zip vs ks ≡ loads_of c ks
  chunks-loads = ap (λ (ws : List (List ℕ)). zip ws ks) chunks-are

  pub within-tests : list_all (within asm1_ceilings) vs ≡ each_within (loads_of c ks)
  within-tests = all-first (within asm1_ceilings) vs ks chunks-long ∙ ap each_within chunks-loads

-- the last test, by the sum or nothing
pub last-room : {A : Type 0} (s : A) (r : Refusal) (b : Bool) {z : Option A} {x : Result A Refusal} → z ≡ cond b (Some s) None
    → x ≡ ok_or z r → x ≡ decide (first (unless b r ∷ [])) s
last-room s r true e f = f ∙ ap (λ y. ok_or y r) e
last-room s r false e f = f ∙ ap (λ y. ok_or y r) e

-- ---- a decision and what was tested

module _ {A : Type 0} where
  pub decide-ok : (t : Option Refusal) (x : A) {y : A} → decide t x ≡ Ok y → (t ≡ None) × (y ≡ x)
  decide-ok None x e = (refl, cc)
  decide-ok (Some r) x e = absurd cc

  pub decide-err : (t : Option Refusal) (x : A) {r : Refusal} → decide t x ≡ Err r → t ≡ Some r
  decide-err None x e = absurd cc
  decide-err (Some q) x {r = r} e = let v : q ≡ r = cc in rw v

-- what no refusal tells of the tests
pub record Passed (p : Plant) (c ks : List ℕ) : Type 0 where
  pub usable : record_refusal p ≡ None
  pub lengths : are_loads c ks ≡ true
  pub each : list_all thousandths ks ≡ true
  pub columns : each_within (loads_of c ks) ≡ true
  pub room : within asm1_ceilings (added p.sludge (draws (loads_of c ks))) ≡ true

pub tests-passed : (p : Plant) (c ks : List ℕ) → first (blend_tests p c ks) ≡ None → Passed p c ks
tests-passed p c ks e =
    let ls = loads_of c ks in
    let at-room = unless (within asm1_ceilings (added p.sludge (draws ls))) TankAbove ∷ [] in
    let at-columns = unless (each_within ls) ColumnAbove ∷ at-room in
    let at-ks = unless (each_k ls) NotThousandths ∷ at-columns in
    let at-loads = unless (are_loads c ks) NoBlend ∷ at-ks in
    let usable = passed-by (record_refusal p) at-loads e in
    let loads = passed (are_loads c ks) NoBlend at-ks usable.1 in
    let k = passed (each_k ls) NotThousandths at-columns loads.1 in
    let columns = passed (each_within ls) ColumnAbove at-room k.1 in
    let room = passed (within asm1_ceilings (added p.sludge (draws ls))) TankAbove [] columns.1 in
    record { usable = usable.0; lengths = loads.0; each = k-tests c ks ∙ k.0; columns = columns.0; room = room.0 }
