-- Laws of column names. Assumes nothing.
--
--   column-found, column-next, column-end   a search for a name, one name a turn
--   column-from                             a search that begins at a later column, where no name stands twice
--   unpadded-other                          a name with another second byte
--   asm1-names, digester-names              the code's tables
--   tables                                  TablesLaw
use mathlib.Core.Bool.{true, false}
use mathlib.Core.List.{List, [], ◌∷◌}
use mathlib.Core.Path.{◌≡◌, refl, sym, ap, ◌∙◌}
use Prim.Native.Nat.{ℕ, zero, suc, ◌+◌, ◌≤◌, ◌<◌}
use native.Mathlib.Omega.{arith}
use lib.ListN.{length, drop, get_or, drop_of_length-le}
use Rattle.std.proofs.Common.{Some, None}
use Rattle.std.proofs.lemmas.Bool.{and_parts, false_from_ne_true}
use Rattle.std.proofs.lemmas.Bool.Decides.{nat_tests}
use Rattle.std.proofs.lemmas.List.{drop_more, get_or-take}
use Rattle.reading.specs.declared.names.TheConstants.{ASM1_NAMES, DIGESTER_NAMES}
use Rattle.reading.specs.declared.names.Vector.TheVariants.{Sludge, Digester}
use Rattle.reading.specs.Text.{same_bytes, up_to, space}
use Rattle.reading.specs.Names.{names_of, column_from, column_of, from_column, unpadded, unpadded_all, unknown, distinct, TablesLaw}
use Rattle.reading.proofs.Laws.Text.{same-equal, up_to-take}

module _ (ns : List (List ℕ)) (s : List ℕ) (k i : ℕ) where
  pub column-found : i < length ns → same_bytes s (get_or ns i []) ≡ true → column_from k (drop i ns) s ≡ Some k
  unfolding column_from
  column-found h e = simp (drop_more ns i [] h, e)

  pub column-next : i < length ns → same_bytes s (get_or ns i []) ≡ false
      → column_from k (drop i ns) s ≡ column_from (k + 1) (drop (i + 1) ns) s
  unfolding column_from
  column-next h e = simp (drop_more ns i [] h, e)

  pub column-end : length ns ≤ i → column_from k (drop i ns) s ≡ None
  unfolding column_from
  column-end h = simp (drop_of_length-le ns h)

-- ---- a search that begins at a later column

-- a name that stands nowhere is found from no column on
column-absent : (j k : ℕ) (ns : List (List ℕ)) (s : List ℕ) → unknown (column_from j ns s) ≡ true → column_from k ns s ≡ None
unfolding column_from
column-absent j k [] s e = refl
column-absent j k (n ∷ ns) s e = grind (arith, e, column-absent (j + 1) (k + 1) ns s)

-- what is found from column k on is k or behind it
column-least : (j k : ℕ) (ns : List (List ℕ)) (s : List ℕ) → j ≤ k → from_column j (column_from k ns s) ≡ column_from k ns s
unfolding column_from
column-least j k [] s h = refl
column-least j k (n ∷ ns) s h = grind (arith, nat_tests, h, column-least j (k + 1) ns s (omega arith))

-- where no name stands twice, a search from column j = k + i on finds what the search from k finds, if that is j or behind it
column-skip : (i j k : ℕ) (ns : List (List ℕ)) (s : List ℕ) → j ≡ k + i → distinct ns ≡ true
    → column_from j (drop i ns) s ≡ from_column j (column_from k ns s)
unfolding column_from distinct
column-skip zero j k ns s q d = let e : j ≡ k = omega (arith, q) in rw e (sym (column-least k k ns s (omega arith)))
column-skip (suc i) j k [] s q d = refl
column-skip (suc i) j k (n ∷ ns) s q d =
    let later = column-skip i j (k + 1) ns s (omega (arith, q)) once.1 in grind (arith, nat_tests, q, past, later)
  where
    once : (unknown (column_from 0 ns n) ≡ true) × (distinct ns ≡ true)
    once = and_parts (unknown (column_from 0 ns n)) (distinct ns) d

    -- the name is not among the later ones
    past : same_bytes s n ≡ true → column_from (k + 1) ns s ≡ None
    past e = column-absent 0 (k + 1) ns s (ap (λ (x : List ℕ). unknown (column_from 0 ns x)) (same-equal s n e) ∙ once.0)

pub column-from : (i : ℕ) (ns : List (List ℕ)) (s : List ℕ) → distinct ns ≡ true
    → column_from i (drop i ns) s ≡ from_column i (column_of ns s)
column-from i ns s d = column-skip i i 0 ns s (omega arith) d

-- ---- names of four bytes, with spaces behind a shorter one

-- a name whose second byte is another is another name
pub unpadded-other : (name s : List ℕ) → 1 < length s → (get_or name 1 0 ≡ get_or s 1 0 → ⊥) → false ≡ same_bytes s (unpadded name)
unpadded-other name s h n = sym (false_from_ne_true _ (λ e. n (sym (second e))))
  where
    second : same_bytes s (unpadded name) ≡ true → get_or s 1 0 ≡ get_or name 1 0
    second e =
        let q = same-equal s (unpadded name) e in
        ap (λ (t : List ℕ). get_or t 1 0) (q ∙ sym (up_to-take space name))
        ∙ get_or-take (length (unpadded name)) name 1 0 (omega (arith, ap length q))

-- the code's tables have the names of the columns
pub asm1-names : unpadded_all ASM1_NAMES ≡ names_of Sludge
unfolding up_to
asm1-names = refl

pub digester-names : unpadded_all DIGESTER_NAMES ≡ names_of Digester
unfolding up_to
digester-names = refl

pub tables : TablesLaw
tables = (refl, refl)
