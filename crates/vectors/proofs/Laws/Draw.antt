-- Laws of the draw. Assumes nothing.
--
--   part-le            no more is drawn than there is
--   column-splits      ColumnSplits
--   mapped-more        one turn of a loop that makes such a vector
--   drawn-fits         a column times k fits 64 bits
--   within-drawn       what is drawn is within the ceilings
--   within-rest        and so is what remains
--   drawn-below        what is drawn, as inequalities
use mathlib.Core.Bool.{true}
use mathlib.Core.List.{List, [], ◌∷◌, map}
use mathlib.Core.Path.{◌≡◌, refl, sym}
use Prim.Native.Nat.{ℕ, zero, suc, ◌+◌, ◌*◌, ◌≤◌, ◌<◌}
use native.Mathlib.Nat.{mul-le-mul, mul-le-mul_left, le_trans}
use native.Mathlib.Omega.{arith}
use lib.Dec.{leb}
use lib.ListN.{length, get_or, set}
use borrow.Author.Tests.{leb-true, le-leb}
use Rattle.std.proofs.lemmas.Bool.{and_parts}
use Rattle.std.proofs.lemmas.List.{get_or-map}
use Rattle.vectors.specs.Columns.{within, Below}
use Rattle.vectors.specs.Draw.{part, remainder, drawn, rest}
use Rattle.vectors.specs.Laws.{ColumnSplits}
use Rattle.vectors.proofs.Laws.Columns.{Low, within-low, within-below, Filled, filled_at, filled_more}

pub part-le : (k x : ℕ) → k ≤ 1000 → part k x ≤ x
part-le k x h = omega (arith, mul-le-mul_left x h)

pub column-splits : ColumnSplits
column-splits k h [] i = refl
column-splits k h (x ∷ c) zero = omega (arith, part-le k x h)
column-splits k h (x ∷ c) (suc i) = column-splits k h c i

-- one turn of a loop that puts a function at every column
pub mapped-more : (f : ℕ → ℕ) {d l : List ℕ} {i : ℕ} → Filled (map f d) d l i → i < length d
    → Filled (map f d) d (set l i (f (get_or l i 0))) (i + 1)
mapped-more f {d} {l} {i} h lt = filled_more 0 _ h lt (rw (filled_at 0 h lt) (sym (get_or-map f d i 0 0 lt)))

-- a function at every column that makes none greater
within-mapped : (f : ℕ → ℕ) → ((x : ℕ) → f x ≤ x) → (cs v : List ℕ) → within cs v ≡ true → within cs (map f v) ≡ true
unfolding within
within-mapped f h cs [] e = refl
within-mapped f h [] (x ∷ v) e = e
within-mapped f h (c ∷ cs) (x ∷ v) e =
    let p = and_parts (leb x c) (within cs v) e in
    rw (le-leb (f x) c (le_trans (h x) (leb-true x c p.0))) (within-mapped f h cs v p.1)

pub within-drawn : (k : ℕ) → k ≤ 1000 → (cs v : List ℕ) → within cs v ≡ true → within cs (drawn k v) ≡ true
within-drawn k h cs v e = within-mapped (part k) (λ x. part-le k x h) cs v e

-- for any k: a k above 1000 leaves no more than there was either
pub within-rest : (k : ℕ) (cs v : List ℕ) → within cs v ≡ true → within cs (rest k v) ≡ true
within-rest k cs v e = within-mapped (remainder k) (λ x. omega arith) cs v e

pub drawn-fits : (cs v : List ℕ) (k : ℕ) → Low cs → within cs v ≡ true → k ≤ 1000 → (i : ℕ) → get_or v i 0 * k < 18446744073709551616
drawn-fits cs v k h e l i = omega (arith, mul-le-mul (within-low cs v h e i) l)

-- what a draw asks of the vector it gives
pub drawn-below : (cs v : List ℕ) (k : ℕ) → within cs v ≡ true → k ≤ 1000 → Below cs (drawn k v)
drawn-below cs v k e l = within-below cs (drawn k v) (within-drawn k l cs v e)
