-- Laws of vectors of columns: loops that rewrite one, ceilings, sums. Assumes nothing.
--
--   Filled            a loop that replaces the elements of one list by those of another, from the front
--   within-..         the ceiling test: at a column, as a fold, as inequalities; below-within from these
--   room-..           the ceiling test of a sum, with no sum made
--   same_at           a column of a vector whose columns are all the same
--   columns_from      columns by their places, and digester-columns by their names
--   added-..          the sum: its length, a column
--   Low, within-low   a table of low ceilings bounds every column
--   added-fits        so that sums fit 64 bits
use mathlib.Core.Bool.{Bool, true, false, ◌&&◌}
use Rattle.std.proofs.Math.Bool.{and-true, and-false, and_assoc}
use Rattle.std.specs.List.{fold, list_all, zip}
use mathlib.Core.List.{List, [], ◌∷◌, ◌++◌}
use mathlib.Core.Path.{◌≡◌, refl, sym, ap, ◌∙◌}
use Prim.Native.Nat.{ℕ, zero, suc, ◌+◌, ◌-◌, ◌≤◌, ◌<◌, zero-le}
use native.Mathlib.Nat.{le_trans, zero-add, add-zero, add-suc, suc-add}
use native.Mathlib.Numerals.{add-one}
use native.Mathlib.Omega.{arith}
use lib.Dec.{leb}
use lib.ListN.{length, get_or, take, drop, set, replicate, length-set, drop_of_length-le}
use lib.Seq.{paste-suc, drop-paste, get_or-drop, drop-cons}
use Rattle.std.proofs.lemmas.Bool.{and_parts, false≢true, leb-true, leb-false, le-leb, lt-leb}
use Rattle.vectors.specs.Columns.{digester, digester_columns, within, Below, BelowFrom, added, fits}

-- ---- a loop that fills

-- at the loop's head: l has the first i elements of t, and the others of d
pub record Filled {A : Type 0} (t d l : List A) (i : ℕ) : Type 0 where
  pub is : l ≡ take i t ++ drop i d
  pub upto : i ≤ length d
  pub long : length l ≡ length d
  pub same : length t ≡ length d

-- z stands for an element past the end
module _ {A : Type 0} where
  pub filled_none : (t d : List A) → length t ≡ length d → Filled t d d 0
  filled_none t d e = record { is = refl; upto = zero-le; long = refl; same = e }

  -- the element at i is still that of d
  pub filled_at : (z : A) {t d l : List A} {i : ℕ} → Filled t d l i → i < length d → get_or l i z ≡ get_or d i z
  filled_at z {t} {d} {l} {i} f h =
      let e : drop i (take i t ++ drop i d) ≡ drop i d = rw zero-add at (drop-paste d 0 t i zero-le (omega arith)) in
      rw f.is (rw add-zero at (sym (get_or-drop i (take i t ++ drop i d) 0 z) ∙ ap (λ (m : List A). get_or m 0 z) e ∙ get_or-drop i d 0 z))

  -- a store takes the loop one element on
  pub filled_more : (z : A) {t d l : List A} {i : ℕ} (x : A) → Filled t d l i → i < length d → x ≡ get_or t i z
      → Filled t d (set l i x) (i + 1)
  filled_more z {t} {d} {l} {i} x f h e =
      record {
        is = rw (f.is, e, add-one) (simp zero-add at (paste-suc d 0 t i z (omega (arith, zero-add i)) (omega arith)));
        upto = omega arith;
        long = length-set l i x ∙ f.long;
        same = f.same;
      }

  -- at the end all are those of t
  pub filled-all : {t d l : List A} {i : ℕ} → Filled t d l i → length d ≤ i → l ≡ t
  filled-all {t} {d} {l} {i} f h = f.is ∙ go t d i f.same h
    where
      go : (t d : List A) (i : ℕ) → length t ≡ length d → length d ≤ i → take i t ++ drop i d ≡ t
      go [] [] zero e h = refl
      go [] [] (suc i) e h = refl
      go [] (y ∷ d) i e h = absurd (omega arith)
      go (x ∷ t) [] i e h = absurd (omega arith)
      go (x ∷ t) (y ∷ d) zero e h = absurd (omega arith)
      go (x ∷ t) (y ∷ d) (suc i) e h = ap (λ (l : List A). x ∷ l) (go t d i (omega arith) (omega arith))

-- ---- ceilings

-- where the test holds, it holds of each column
pub within-column : (cs v : List ℕ) (i : ℕ) → within cs v ≡ true → get_or v i 0 ≤ get_or cs i 0
unfolding within
within-column cs [] i e = zero-le
within-column [] (x ∷ v) i e = absurd (false≢true e)
within-column (c ∷ cs) (x ∷ v) zero e = leb-true x c (and_parts (leb x c) (within cs v) e).0
within-column (c ∷ cs) (x ∷ v) (suc i) e = within-column cs v i (and_parts (leb x c) (within cs v) e).1

-- where a column is above its ceiling, the test fails
pub within-above : (cs v : List ℕ) (i : ℕ) → get_or cs i 0 < get_or v i 0 → within cs v ≡ false
unfolding within
within-above cs [] i h = absurd (omega arith)
within-above [] (x ∷ v) i h = refl
within-above (c ∷ cs) (x ∷ v) zero h = rw (lt-leb x c h)
within-above (c ∷ cs) (x ∷ v) (suc i) h = rw (within-above cs v i h) (and-false (leb x c))

-- the test as a fold over the columns beside their ceilings
pub within-folded : (cs v : List ℕ) → length v ≤ length cs → fold (λ ok p. ok && leb p.0 p.1) true (zip v cs) ≡ within cs v
unfolding within
within-folded cs v h = go true cs v h
  where
    go : (b : Bool) (cs v : List ℕ) → length v ≤ length cs → fold (λ ok p. ok && leb p.0 p.1) b (zip v cs) ≡ (b && within cs v)
    go b cs [] h = sym (and-true b)
    go b [] (x ∷ v) h = absurd (omega arith)
    go b (c ∷ cs) (x ∷ v) h = go (b && leb x c) cs v (omega arith) ∙ and_assoc b (leb x c) (within cs v)

-- the ceiling test of a sum, with no sum made
fits-sum : (c x y : ℕ) → fits ((x, y), c) ≡ leb (x + y) c
fits-sum c x y = go (leb x c) (leb y (c - x)) refl refl
  where
    go : (s t : Bool) → leb x c ≡ s → leb y (c - x) ≡ t → (s && t) ≡ leb (x + y) c
    go false t e f = sym (lt-leb (x + y) c (omega (arith, leb-false x c e)))
    go true true e f = sym (le-leb (x + y) c (omega (arith, leb-true x c e, leb-true y (c - x) f)))
    go true false e f = sym (lt-leb (x + y) c (omega (arith, leb-true x c e, leb-false y (c - x) f)))

pub room-within : (cs a b : List ℕ) → length a ≡ length cs → length b ≡ length cs
    → list_all fits (zip (zip a b) cs) ≡ within cs (added a b)
unfolding within added
room-within cs [] [] e f = refl
room-within cs [] (y ∷ b) e f = absurd (omega arith)
room-within cs (x ∷ a) [] e f = absurd (omega arith)
room-within [] (x ∷ a) (y ∷ b) e f = absurd (omega arith)
room-within (c ∷ cs) (x ∷ a) (y ∷ b) e f = rw (fits-sum c x y, room-within cs a b (omega arith) (omega arith))

-- what that test tells, by a table ds that is cs
pub room-told : {r : Bool} {cs ds : List ℕ} (a b : List ℕ) → r ≡ list_all fits (zip (zip a b) ds) → ds ≡ cs
    → length a ≡ length ds → length b ≡ length ds → r ≡ within cs (added a b)
room-told {r} {cs} {ds} a b e is p q = e ∙ room-within ds a b p q ∙ ap (λ (c : List ℕ). within c (added a b)) is

-- from the test to the inequalities
pub within-below : (cs v : List ℕ) → within cs v ≡ true → Below cs v
within-below cs v e = go cs 0 (λ j. rw zero-add (within-column cs v j e))
  where
    go : (ds : List ℕ) (i : ℕ) → ((j : ℕ) → get_or v (i + j) 0 ≤ get_or ds j 0) → BelowFrom i ds v
    go [] i h = tt
    go (d ∷ ds) i h = (rw add-zero at (h 0), go ds (suc i) (λ j. rw (add-suc, ← suc-add) at (h (suc j))))

-- and from the inequalities to the test
pub below-within : (cs v : List ℕ) → length v ≤ length cs → Below cs v → within cs v ≡ true
unfolding within
below-within cs v n b = go 0 cs v n (λ j. ap (λ (k : ℕ). get_or v k 0) (sym (zero-add j))) b
  where
    go : (i : ℕ) (ds w : List ℕ) → length w ≤ length ds → ((j : ℕ) → get_or w j 0 ≡ get_or v (i + j) 0) → BelowFrom i ds v
        → within ds w ≡ true
    go i ds [] n e b = refl
    go i [] (x ∷ w) n e b = absurd (omega arith)
    go i (d ∷ ds) (x ∷ w) n e b =
        let h : x ≡ get_or v i 0 = e 0 ∙ ap (λ (k : ℕ). get_or v k 0) (add-zero i) in
        rw (le-leb x d (omega (arith, b.0)))
        (go (suc i) ds w (omega arith) (λ j. e (suc j) ∙ ap (λ (k : ℕ). get_or v k 0) (add-suc i j ∙ sym (suc-add i j))) b.1)

-- ---- columns by their places

-- of a vector whose columns are all the same
pub same_at : {A : Type 0} (m j : ℕ) (a : A) → get_or (replicate m a) j a ≡ a
same_at zero j a = refl
same_at (suc m) zero a = refl
same_at (suc m) (suc j) a = same_at m j a

-- n columns from the place i on, which compute
abbrev pub columns_from : ℕ → ℕ → List ℕ → List ℕ
columns_from zero i c = []
columns_from (suc n) i c = get_or c i 0 ∷ columns_from n (suc i) c

pub columns-from : (n i : ℕ) (c : List ℕ) → i + n ≡ length c → columns_from n i c ≡ drop i c
columns-from zero i c e = let h : length c ≤ i = omega arith in sym (drop_of_length-le c h)
columns-from (suc n) i c e = ap (λ (l : List ℕ). get_or c i 0 ∷ l) (columns-from n (suc i) c (omega arith))
    ∙ sym (drop-cons c i 0 (omega arith))

-- an array's columns by their names are its columns
pub digester-columns : (c : List ℕ) → length c ≡ 26 → digester_columns (digester c) ≡ c
digester-columns c e = columns-from 26 0 c (omega arith)

-- what the trait Vector tells of a table of ceilings
abbrev pub Low : List ℕ → Type 0
Low cs = list_all (λ c. leb c 10_000_000_000_000_000) cs ≡ true

low-column : (cs : List ℕ) (i : ℕ) → Low cs → get_or cs i 0 ≤ 10_000_000_000_000_000
low-column [] i h = zero-le
low-column (c ∷ cs) zero h = leb-true c _ (and_parts (leb c 10_000_000_000_000_000) _ h).0
low-column (c ∷ cs) (suc i) h = low-column cs i (and_parts (leb c 10_000_000_000_000_000) _ h).1

pub within-low : (cs v : List ℕ) → Low cs → within cs v ≡ true → (i : ℕ) → get_or v i 0 ≤ 10_000_000_000_000_000
within-low cs v h e i = le_trans (within-column cs v i e) (low-column cs i h)

-- ---- sums

pub added-column : (a b : List ℕ) (i : ℕ) → get_or (added a b) i 0 ≡ get_or a i 0 + get_or b i 0
unfolding added
added-column [] b i = omega arith
added-column (x ∷ a) [] i = omega arith
added-column (x ∷ a) (y ∷ b) zero = refl
added-column (x ∷ a) (y ∷ b) (suc i) = added-column a b i

pub added-length : (a b : List ℕ) → length b ≡ length a → length (added a b) ≡ length a
unfolding added
added-length [] b e = e
added-length (x ∷ a) [] e = refl
added-length (x ∷ a) (y ∷ b) e = ap suc (added-length a b (omega arith))

-- a sum within its ceilings bounds its terms
pub added-fits : (cs a b : List ℕ) → Low cs → within cs (added a b) ≡ true → (i : ℕ) → get_or a i 0 + get_or b i 0 < 18446744073709551616
added-fits cs a b h e i = omega (arith, added-column a b i, within-low cs (added a b) h e i)
