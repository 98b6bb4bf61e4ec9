-- Laws of the lengths of answers. Assumes nothing.
--
--   refused-length, fed-length, returned-length,  an answer that tells numbers: its labels' bytes and the digits
--   accepted-length
--   totals-length                                 the held line
--   name-length                                   a name of the code's table, without the spaces behind it
--   columns-next, columns-end                     the columns of a vector, one by one
--   handed-length                                 a vector that is handed out
use mathlib.Core.Bool.{true}
use mathlib.Core.List.{List, [], ◌∷◌, ◌++◌}
use mathlib.Core.Path.{◌≡◌, refl, sym, ap, ◌∙◌}
use Prim.Native.Nat.{ℕ, suc, ◌+◌, ◌≤◌, ◌<◌}
use native.Mathlib.Numerals.{add-one}
use native.Mathlib.Omega.{arith}
use lib.ListN.{length, drop, get_or, length-append, drop_of_length-le}
use lib.Seq.{drop-cons}
use Rattle.std.proofs.lemmas.List.{get_or-map}
use Rattle.reading.specs.declared.names.Vector.TheVariants.{Sludge}
use Rattle.reading.specs.declared.names.TheConstants.{ASM1_NAMES}
use Rattle.reading.specs.Text.{ascii, up_to}
use Rattle.reading.specs.Number.{decimal}
use Rattle.reading.specs.Names.{names_of, unpadded}
use Rattle.writing.specs.Answer.{labelled, column_text, column_or_none, columns_from, columns_text, told_text}
use Rattle.writing.specs.Answer.{fed_text, returned_text, accepted_text, handed_text, refused_text, totals_text}

abbrev digits : ℕ → ℕ
digits n = length (decimal n)

-- ---- numbers behind their labels

abbrev parts_length : List (List ℕ × ℕ) → ℕ
parts_length [] = 1
parts_length (p ∷ ps) = length p.0 + digits p.1 + parts_length ps

told-length : (ps : List (List ℕ × ℕ)) → length (told_text ps) ≡ parts_length ps
unfolding told_text
told-length [] = refl
told-length (p ∷ ps) =
    omega (arith, length-append (labelled p.0 p.1) (told_text ps), length-append p.0 (decimal p.1), told-length ps)

pub refused-length : (n : ℕ) → length (refused_text n) ≡ 4 + digits n + 1
refused-length n = told-length _

pub fed-length : (b o n w : ℕ)
    → length (fed_text b o n w) ≡ 15 + digits b + (8 + digits o + (9 + digits n + (6 + digits w + 1)))
fed-length b o n w = told-length _

pub returned-length : (s : ℕ) → length (returned_text s) ≡ 20 + digits s + 1
returned-length s = told-length _

pub accepted-length : (m : ℕ) → length (accepted_text m) ≡ 14 + digits m + 1
accepted-length m = told-length _

pub totals-length : (c t o n : ℕ)
    → length (totals_text c t o n) ≡ 10 + digits c + (5 + digits t + (8 + digits o + (9 + digits n + 1)))
totals-length c t o n = told-length _

-- ---- a vector that is handed out

column-length : (name : List ℕ) (n : ℕ) → length (column_or_none true name n) ≡ 4 + length name + digits n
unfolding column_or_none column_text
column-length name n =
    omega (
      arith,
      length-append name (labelled (ascii " ") n ++ ascii ")"),
      length-append (labelled (ascii " ") n) (ascii ")"),
    )

-- the code's table has the names with spaces behind them
pub name-length : (c : ℕ) → c < 13 → length (unpadded (get_or ASM1_NAMES c [])) ≡ length (get_or (names_of Sludge) c [])
unfolding up_to
name-length c h = ap length (sym (get_or-map unpadded ASM1_NAMES c [] [] h))

-- the columns from c on are that column and those behind it
pub columns-next : (names : List (List ℕ)) (v : List ℕ) (c : ℕ) → c < length names
    → length (columns_from true c (drop c names) v)
    ≡ 4 + length (get_or names c []) + digits (get_or v c 0) + length (columns_from true (c + 1) (drop (c + 1) names) v)
unfolding columns_from
columns-next names v c h =
    let name = get_or names c [] in
    let rest = columns_from true (c + 1) (drop (suc c) names) v in
    ap (λ (ns : List (List ℕ)). length (columns_from true c ns v)) (drop-cons names c [] h)
    ∙ length-append (column_or_none true name (get_or v c 0)) rest
    ∙ ap (λ (k : ℕ). k + length rest) (column-length name (get_or v c 0))
    ∙ ap (λ (j : ℕ). 4 + length name + digits (get_or v c 0) + length (columns_from true (c + 1) (drop j names) v)) (sym (add-one c))

pub columns-end : (names : List (List ℕ)) (v : List ℕ) (c : ℕ) → length names ≤ c → length (columns_from true c (drop c names) v) ≡ 0
unfolding columns_from
columns-end names v c h = ap (λ (ns : List (List ℕ)). length (columns_from true c ns v)) (drop_of_length-le names h)

pub handed-length : (head v : List ℕ) → length (handed_text head v) ≡ length head + length (columns_text true (names_of Sludge) v) + 1
unfolding handed_text
handed-length head v =
    let columns = columns_text true (names_of Sludge) v in
    omega (arith, length-append head (columns ++ ascii ")"), length-append columns (ascii ")"))
