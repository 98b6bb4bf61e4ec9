-- An answer's text determines the answer. Assumes nothing.
--
--   no_digits       no digit stands in a byte string, as a test
--   scan-label      bytes that are no digits are passed over
--   scan-number     a number's digits, with no digit behind them, are read as the number
--   scan-labelled   a label and a number
--   scan-columns    the columns of a vector
--   scan-handed     a vector that is handed out, behind the beginning of its answer
--   scan-accepted   the N2 of an accept, behind the 2 of its label
--   read-back       every answer, its refusal by the number
--   by-table        an answer by its number, and back by the table
--   answer-read     both: by the table what is read back is the answer itself
--   columns-read    the vector of a release, and of a draw
--   answer-same     answers that are written alike are the same, by the number where a refusal is not the table's
use mathlib.Core.Bool.{Bool, true, false, cond, not, ◌&&◌}
use mathlib.Core.List.{List, [], ◌∷◌, ◌++◌, append_assoc, append-nil}
use mathlib.Core.Path.{◌≡◌, refl, sym, ap, ◌∙◌}
use Prim.Native.Nat.{ℕ, suc, ◌+◌, ◌-◌, ◌*◌, ◌≤◌}
use native.Mathlib.Omega.{arith}
use lib.ListN.{length, take, drop, get_or}
use lib.Seq.{take_all, drop-cons}
use native.Mathlib.Numerals.{add-one}
use Rattle.vectors.specs.Units.{milligrams, ticks}
use Rattle.std.proofs.lemmas.Bool.{and_parts, false≢true}
use Rattle.refusals.specs.declared.Refusal.TheVariants.{Other}
use Rattle.refusals.specs.Refusal.{number}
use Rattle.refusals.proofs.Laws.Refusal.{number-law}
use Rattle.plant.specs.declared.answer.Answer.{Answer}
use Rattle.plant.specs.declared.answer.Answer.TheVariants.{Refused, Received, Fed, Settled, Returned, Released, Recycled, Drawn, Accepted}
use Rattle.reading.specs.Text.{ascii, same_bytes, look_up, up_to}
use Rattle.reading.specs.Number.{is_digit, all_digits, value_after, decimal}
use Rattle.reading.specs.declared.names.Vector.TheVariants.{Sludge}
use Rattle.reading.specs.Names.{names_of}
use Rattle.writing.specs.Answer.{answer_text, labelled, column_text, column_or_none, columns_from, columns_text}
use Rattle.writing.specs.Answer.{fed_text, accepted_text, told_text, handed_text}
use Rattle.writing.specs.ReadBack.{scan, numbers_in, read_answer, short, all_short, by_number, by_table, is_named}
use Rattle.writing.specs.ReadBack.{ReadBackLaw, ReadColumnsLaw, SameTextLaw}
use Rattle.writing.proofs.Laws.Decimal.{decimal-digits, decimal-value}

-- ---- labels and numbers

unfoldable pub no_digits : List ℕ → Bool
no_digits [] = true
no_digits (b ∷ s) = not (is_digit b) && no_digits s

pub scan-label : (l s : List ℕ) → no_digits l ≡ true → numbers_in (l ++ s) ≡ numbers_in s
unfolding scan no_digits
scan-label [] s h = refl
scan-label (b ∷ l) s h =
    let c = and_parts (not (is_digit b)) (no_digits l) h in
    go (is_digit b) c.0 ∙ scan-label l s c.1
  where
    go : (t : Bool) → not t ≡ true → cond t (scan true (0 * 10 + (b - 48)) (l ++ s)) (scan false 0 (l ++ s)) ≡ scan false 0 (l ++ s)
    go true e = absurd (false≢true e)
    go false e = refl

scan-digits : (n : ℕ) (x s : List ℕ) → all_digits x ≡ true → scan true n (x ++ s) ≡ scan true (value_after n x) s
unfolding scan all_digits value_after
scan-digits n [] s h = refl
scan-digits n (b ∷ x) s h =
    let c = and_parts (is_digit b) (all_digits x) h in
    ap (λ t. cond t (scan true (n * 10 + (b - 48)) (x ++ s)) (n ∷ scan false 0 (x ++ s))) c.0
    ∙ scan-digits (n * 10 + (b - 48)) x s c.1

scan-run : (x s : List ℕ) → 1 ≤ length x → all_digits x ≡ true → scan false 0 (x ++ s) ≡ scan true (value_after 0 x) s
unfolding scan all_digits value_after
scan-run [] s l h = absurd (omega arith)
scan-run (b ∷ x) s l h =
    let c = and_parts (is_digit b) (all_digits x) h in
    ap (λ t. cond t (scan true (0 * 10 + (b - 48)) (x ++ s)) (scan false 0 (x ++ s))) c.0 ∙ scan-digits (0 * 10 + (b - 48)) x s c.1

-- b is no digit
pub scan-number : (n b : ℕ) (s : List ℕ) → short n → is_digit b ≡ false → numbers_in (decimal n ++ (b ∷ s)) ≡ n ∷ numbers_in (b ∷ s)
unfolding scan
scan-number n b s h e =
    let d = decimal-digits n in
    scan-run (decimal n) (b ∷ s) d.1 d.0
    ∙ ap (λ (m : ℕ). scan true m (b ∷ s)) (decimal-value n h)
    ∙ ap (λ t. cond t (scan true (n * 10 + (b - 48)) s) (n ∷ scan false 0 s)) e
    ∙ sym (ap (λ t. n ∷ cond t (scan true (0 * 10 + (b - 48)) s) (scan false 0 s)) e)

pub scan-labelled : (l : List ℕ) (n b : ℕ) (s : List ℕ) → no_digits l ≡ true → short n → is_digit b ≡ false
    → numbers_in (labelled l n ++ (b ∷ s)) ≡ n ∷ numbers_in (b ∷ s)
scan-labelled l n b s p h e =
    ap numbers_in (append_assoc l (decimal n) (b ∷ s)) ∙ scan-label l (decimal n ++ (b ∷ s)) p ∙ scan-number n b s h e

-- ---- columns

unfoldable pub no_digits_in : List (List ℕ) → Bool
no_digits_in [] = true
no_digits_in (s ∷ ss) = no_digits s && no_digits_in ss

scan-column : (name : List ℕ) (n : ℕ) (s : List ℕ) → no_digits name ≡ true → short n
    → numbers_in (column_text name n ++ s) ≡ n ∷ numbers_in s
unfolding column_text no_digits scan
scan-column name n s p h =
    ap numbers_in (append_assoc name (labelled (ascii " ") n ++ ascii ")") s)
    ∙ scan-label name ((labelled (ascii " ") n ++ ascii ")") ++ s) p
    ∙ ap numbers_in (append_assoc (labelled (ascii " ") n) (ascii ")") s)
    ∙ scan-labelled (ascii " ") n 41 s refl h refl

-- the columns from c on
scan-columns : (names : List (List ℕ)) (c : ℕ) (v s : List ℕ) → no_digits_in names ≡ true → ((i : ℕ) → short (get_or v i 0))
    → c + length names ≤ length v → numbers_in (columns_from true c names v ++ s) ≡ take (length names) (drop c v) ++ numbers_in s
unfolding columns_from column_or_none no_digits_in
scan-columns [] c v s p h l = refl
scan-columns (n ∷ ns) c v s p h l =
    let both = and_parts (no_digits n) (no_digits_in ns) p in
    let x = get_or v c 0 in
    let rest = columns_from true (c + 1) ns v in
    ap numbers_in (append_assoc (column_text n x) rest s)
    ∙ scan-column n x (rest ++ s) both.0 (h c)
    ∙ ap (λ (t : List ℕ). x ∷ t) (scan-columns ns (c + 1) v s both.1 h (omega arith)
    ∙ ap (λ (j : ℕ). take (length ns) (drop j v) ++ numbers_in s) (add-one c))
    ∙ ap (λ (t : List ℕ). take (suc (length ns)) t ++ numbers_in s) (sym (drop-cons v c 0 (omega arith)))

-- behind a head without a digit
scan-handed : (head v : List ℕ) → no_digits head ≡ true → length v ≡ 13 → ((i : ℕ) → short (get_or v i 0))
    → numbers_in (handed_text head v) ≡ v
unfolding handed_text no_digits no_digits_in scan
scan-handed head v n l h =
    scan-label head (columns_text true (names_of Sludge) v ++ ascii ")") n
    ∙ scan-columns (names_of Sludge) 0 v (ascii ")") refl h (omega arith)
    ∙ append-nil (take 13 v)
    ∙ take_all 13 v (omega arith)

pub columns-read : ReadColumnsLaw
unfolding no_digits
columns-read v l h = (scan-handed (ascii "(ok release") v refl l h, scan-handed (ascii "(ok draw") v refl l h)

-- ---- answers

scan-end : (l : List ℕ) (n : ℕ) → no_digits l ≡ true → short n → numbers_in (labelled l n ++ ascii ")") ≡ n ∷ []
unfolding scan
scan-end l n p h = scan-labelled l n 41 [] p h refl

scan-fed : (b o n w : ℕ) → short b → short o → short n → short w → numbers_in (fed_text b o n w) ≡ b ∷ o ∷ n ∷ w ∷ []
unfolding told_text scan no_digits
scan-fed b o n w h i j k =
    scan-labelled (ascii "(ok feed burnt ") b 32 _ refl h refl
    ∙ ap (λ (x : List ℕ). b ∷ x) (scan-labelled (ascii " oxygen ") o 32 _ refl i refl)
    ∙ ap (λ (x : List ℕ). b ∷ o ∷ x) (scan-labelled (ascii " nitrate ") n 32 _ refl j refl)
    ∙ ap (λ (x : List ℕ). b ∷ o ∷ n ∷ x) (scan-end (ascii " warn ") w refl k)

-- the 2 of n2 is read as a number
scan-accepted : (m : ℕ) → short m → numbers_in (accepted_text m) ≡ 2 ∷ m ∷ []
unfolding told_text scan no_digits
scan-accepted m h =
    scan-label (ascii "(ok accept n") (ascii "2 " ++ (decimal m ++ ascii ")")) refl
    ∙ ap (λ (x : List ℕ). 2 ∷ x) (scan-end (ascii " ") m refl h)

read-back : (a : Answer) (v : List ℕ) → all_short a → read_answer (answer_text a v) ≡ by_number a
unfolding read_answer look_up same_bytes up_to columns_from column_or_none column_text told_text handed_text no_digits
read-back (Refused r) v h = ap (λ (ns : List ℕ). Refused (Other (get_or ns 0 0))) (scan-end (ascii "(no ") (number r) refl h.0)
read-back Received v h = refl
read-back (Fed b o n w) v h =
    ap (λ (ns : List ℕ). Fed (milligrams (get_or ns 0 0)) (milligrams (get_or ns 1 0)) (ticks (get_or ns 2 0)) (get_or ns 3 0))
    (scan-fed b.0 o.0 n.0 w h.1 h.2 h.3 h.4)
read-back Settled v h = refl
read-back (Returned s) v h =
    ap (λ (ns : List ℕ). Returned (milligrams (get_or ns 0 0))) (scan-end (ascii "(ok return stripped ") s.0 refl h.5)
read-back Released v h = refl
read-back Recycled v h = refl
read-back Drawn v h = refl
read-back (Accepted m) v h = ap (λ (ns : List ℕ). Accepted (ticks (get_or ns 1 0))) (scan-accepted m.0 h.6)

by-table : (a : Answer) → is_named a ≡ true → by_table (by_number a) ≡ a
by-table (Refused r) h = ap Refused (number-law r h)
by-table Received h = refl
by-table (Fed b o n w) h = refl
by-table Settled h = refl
by-table (Returned s) h = refl
by-table Released h = refl
by-table Recycled h = refl
by-table Drawn h = refl
by-table (Accepted m) h = refl

pub answer-read : ReadBackLaw
answer-read a v h =
    let read = read-back a v h in
    (read, λ named. ap by_table read ∙ by-table a named)

pub answer-same : SameTextLaw
answer-same a b v w h k e =
    let x = answer-read a v h in
    let y = answer-read b w k in
    (sym x.0 ∙ ap read_answer e ∙ y.0, λ na nb. sym (x.1 na) ∙ ap (λ t. by_table (read_answer t)) e ∙ y.1 nb)
