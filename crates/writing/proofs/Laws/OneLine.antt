-- No answer holds a newline. Assumes nothing.
--
--   one-append    parts without a newline, one behind the other
--   one-decimal   a number's digits
--   one-labelled  a label and a number
--   one-column    a column
--   one-columns   the columns of a vector
--   one-told      numbers behind their labels
--   one-handed    a vector that is handed out
--   one-answer    every answer
--   one-held      every held line
use mathlib.Core.Bool.{Bool, true, false, cond, not, ◌&&◌}
use mathlib.Core.List.{List, [], ◌∷◌, ◌++◌, map}
use mathlib.Core.Path.{◌≡◌, refl}
use Prim.Native.Nat.{ℕ, zero, suc, ◌+◌, ◌/◌, ◌%◌}
use native.Mathlib.Omega.{arith}
use lib.Dec.{ltb, eqb}
use lib.ListN.{get_or}
use borrow.Author.Tests.{ne_eqb}
use Rattle.io.specs.Digits.{last_digits, hex_digit_ascii}
use Rattle.std.proofs.lemmas.Bool.{and_parts}
use Rattle.std.specs.Prelude.{Ok, Err}
use Rattle.plant.specs.declared.answer.Answer.TheVariants.{Refused, Received, Fed, Settled, Returned, Released, Recycled, Drawn, Accepted}
use Rattle.reading.specs.declared.names.Vector.TheVariants.{Sludge}
use Rattle.reading.specs.Text.{ascii, newline, one_line}
use Rattle.reading.specs.Number.{decimal, places_from}
use Rattle.reading.specs.Names.{names_of}
use Rattle.writing.specs.Answer.{labelled, column_text, column_or_none, columns_from, columns_text, told_text, handed_text}
use Rattle.writing.specs.Answer.{AnswerLineLaw, HeldLineLaw}

abbrev pub One : List ℕ → Type 0
One s = one_line s ≡ true

-- ---- parts

pub one-append : (s t : List ℕ) → One s → One t → One (s ++ t)
unfolding one_line
one-append [] t p q = q
one-append (b ∷ s) t p q =
    let c = and_parts (not (eqb b newline)) (one_line s) p in
    rw c.0 (one-append s t c.1 q)

one_byte : (b : ℕ) → (b ≡ newline → ⊥) → One (b ∷ [])
unfolding one_line
one_byte b h = rw (ne_eqb b newline h)

glyph-byte : (d : ℕ) → hex_digit_ascii d ≡ newline → ⊥
glyph-byte d = go (ltb d 10)
  where
    go : (t : Bool) → cond t (48 + d) (87 + d) ≡ newline → ⊥
    go true e = absurd (omega arith)
    go false e = absurd (omega arith)

one-digits : (k n : ℕ) → One (last_digits 10 k n)
unfolding one_line
one-digits zero n = refl
one-digits (suc k) n =
    let last = n % 10 in
    one-append (last_digits 10 k (n / 10)) (hex_digit_ascii last ∷ []) (one-digits k (n / 10))
    (one_byte (hex_digit_ascii last) (glyph-byte last))

pub one-decimal : (n : ℕ) → One (decimal n)
unfolding decimal
one-decimal n = one-digits (places_from 19 n) n

pub one-labelled : (label : List ℕ) (n : ℕ) → One label → One (labelled label n)
one-labelled label n h = one-append label (decimal n) h (one-decimal n)

-- ---- columns

unfoldable pub all_one : List (List ℕ) → Bool
all_one [] = true
all_one (s ∷ ss) = one_line s && all_one ss

pub one-column : (name : List ℕ) (n : ℕ) → One name → One (column_text name n)
unfolding column_text one_line
one-column name n h =
    one-append (ascii " (") (name ++ (labelled (ascii " ") n ++ ascii ")")) refl
    (one-append name (labelled (ascii " ") n ++ ascii ")") h
    (one-append (labelled (ascii " ") n) (ascii ")") (one-labelled (ascii " ") n refl) refl))

one-or-none : (z : Bool) (name : List ℕ) (n : ℕ) → One name → One (column_or_none z name n)
unfolding column_or_none one_line
one-or-none z name n h = go (not z && eqb n 0)
  where
    go : (t : Bool) → One (cond t [] (column_text name n))
    go true = refl
    go false = one-column name n h

pub one-columns : (z : Bool) (c : ℕ) (names : List (List ℕ)) (v : List ℕ) → all_one names ≡ true → One (columns_from z c names v)
unfolding columns_from one_line all_one
one-columns z c [] v h = refl
one-columns z c (n ∷ ns) v h =
    let both = and_parts (one_line n) (all_one ns) h in
    one-append (column_or_none z n (get_or v c 0)) _ (one-or-none z n (get_or v c 0) both.0) (one-columns z (c + 1) ns v both.1)

-- ---- answers

pub one-told : (ps : List (List ℕ × ℕ)) → all_one (map (λ (p : List ℕ × ℕ). p.0) ps) ≡ true → One (told_text ps)
unfolding told_text one_line all_one
one-told [] h = refl
one-told (p ∷ ps) h =
    let both = and_parts (one_line p.0) (all_one (map (λ (q : List ℕ × ℕ). q.0) ps)) h in
    one-append (labelled p.0 p.1) _ (one-labelled p.0 p.1 both.0) (one-told ps both.1)

one-handed : (head v : List ℕ) → One head → One (handed_text head v)
unfolding handed_text one_line all_one
one-handed head v h =
    let columns = columns_text true (names_of Sludge) v in
    one-append head (columns ++ ascii ")") h
    (one-append columns (ascii ")") (one-columns true 0 (names_of Sludge) v refl) refl)

pub one-answer : AnswerLineLaw
unfolding one_line all_one
one-answer (Refused r) v = one-told _ refl
one-answer Received v = refl
one-answer (Fed b o n w) v = one-told _ refl
one-answer Settled v = refl
one-answer (Returned s) v = one-told _ refl
one-answer Released v = one-handed _ v refl
one-answer Recycled v = refl
one-answer Drawn v = one-handed _ v refl
one-answer (Accepted m) v = one-told _ refl

pub one-held : HeldLineLaw
unfolding one_line all_one
one-held (Ok h) = one-told _ refl
one-held (Err r) = one-told _ refl
