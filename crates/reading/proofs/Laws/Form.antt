-- Laws of fields and forms. Assumes nothing.
--
--   field-split, field-none                     a field of column n or behind it, by the place of its space
--   piece-..                                    a field behind a space and a bracket
--   add_none, add-again, add-first              a further field: none, one whose column was named, one that is the first
--   left                                        what is left to read in a loop over fields
--   left_step                                   one piece of it
--   left-unclosed, left-next, left_end          one turn of that loop
--   numbered-split                              a number and fields, by the place of the space
--   form-receive, form-settle, form-accept, form-number   a form, by the place of its first space
use mathlib.Core.Bool.{Bool, true, false, cond, ◌&&◌, false≢true}
use mathlib.Core.List.{List, [], ◌∷◌}
use mathlib.Core.Path.{◌≡◌, refl, sym, ap, ap₂, ◌∙◌}
use Prim.Native.Nat.{ℕ, ◌+◌, ◌-◌, ◌≤◌, ◌<◌}
use native.Mathlib.Omega.{arith}
use lib.Dec.{eqb, ltb, leb}
use lib.ListN.{length, take, drop, get_or, set, drop_of_length-le, length-drop}
use lib.Seq.{drop-drop}
use borrow.Author.Tests.{le-ltb, lt-ltb}
use Rattle.std.specs.Cmp.Lexicographic.{pointwise}
use Rattle.std.proofs.lemmas.List.{take_rest}
use Rattle.std.proofs.Common.{Option, Some, None, option_and_then}
use Rattle.reading.specs.declared.names.Vector.TheVariants.{Sludge, Digester}
use Rattle.reading.specs.declared.fields.Field.{Field}
use Rattle.reading.specs.declared.fields.Fields.{Fields}
use Rattle.reading.specs.Text.{ascii, same_bytes, up_to, behind, pieces}
use Rattle.reading.specs.Number.{read_number}
use Rattle.reading.specs.Names.{names_of, column_of, from_column}
use Rattle.reading.specs.Form.{field_of, read_field, read_piece, field, add_field, column_in, number_in, at_end}
use Rattle.reading.specs.Form.{read_pieces, from_fields, named, rises, read_fields, field_from}
use Rattle.reading.specs.Form.{receive_line, settle_line, accept_line, number_line, paired, numbered_by, form_of, form_by}
use Rattle.reading.proofs.Laws.Text.{up_to-place, behind-next, pieces-cut, pieces-last, pieces-some}
use Rattle.reading.proofs.Laws.Number.{number-empty}

-- ---- one field

no_number : (c : Option ℕ) → field_of c None ≡ None
no_number (Some c) = refl
no_number None = refl

-- its column is n or behind it
field-from : (n : ℕ) (c k : Option ℕ) → field_of (from_column n c) k ≡ field_from n (field_of c k)
field-from n None k = refl
field-from n (Some c) (Some k) = go (leb n c)
  where
    go : (b : Bool) → field_of (cond b (Some c) None) (Some k) ≡ cond b (field c k) None
    go true = refl
    go false = refl
field-from n (Some c) None = no_number (from_column n (Some c))

-- where k is the place of its space
module _ (names : List (List ℕ)) (n : ℕ) (s : List ℕ) (k : ℕ) (e : k ≡ length (up_to 32 s)) where
  pub field-split : field_of (from_column n (column_of names (take k s))) (read_number (take (length s - (k + 1)) (drop (k + 1) s)))
      ≡ field_from n (read_field names s)
  unfolding read_field
  field-split =
      ap₂ (λ (x y : List ℕ). field_of (from_column n (column_of names x)) (read_number y))
      (up_to-place 32 s k e) (take_rest s (k + 1) ∙ behind-next 32 s k e)
      ∙ field-from n (column_of names (up_to 32 s)) (read_number (behind 32 s))

-- where it has no space
pub field-none : (names : List (List ℕ)) (n : ℕ) (s : List ℕ) → length s ≡ length (up_to 32 s) → None ≡ field_from n (read_field names s)
unfolding read_field
field-none names n s e =
    sym
    (ap (λ (m : Option ℕ). field_from n (field_of (column_of names (up_to 32 s)) m))
    (ap read_number (sym (behind-next 32 s (length s) e) ∙ drop_of_length-le s {i = length s + 1} (omega arith)) ∙ number-empty [] refl)
    ∙ ap (field_from n) (no_number (column_of names (up_to 32 s))))

-- ---- a space, an opening bracket and a field

-- by what the library's strip_prefix tells of the two
module _ (names : List (List ℕ)) where
  pub piece-none : (s : List ℕ) → pointwise eqb (take 2 s) (32 ∷ 40 ∷ []) ≡ false → None ≡ read_piece names s
  unfolding read_piece
  piece-none [] h = refl
  piece-none (a ∷ []) h = refl
  piece-none (a ∷ (b ∷ s)) h = grind (arith, h)

  pub piece-well : (s : List ℕ) → pointwise eqb (take 2 s) (32 ∷ 40 ∷ []) ≡ true → read_field names (drop 2 s) ≡ read_piece names s
  unfolding read_piece
  piece-well [] h = absurd (false≢true h)
  piece-well (a ∷ []) h = grind (arith, h)
  piece-well (a ∷ (b ∷ s)) h = grind (arith, h)

-- ---- a further field, by its column

-- f with the number n in column c, which was not named before
abbrev pub put : Fields → ℕ → ℕ → Fields
put f c n = record { columns = set f.columns c n; seen = set f.seen c true }

pub add_none : (f : Fields) (x : Option Field) → 26 ≤ column_in x → add_field f x ≡ None
unfolding add_field
add_none f (Some x) h = rw (le-ltb x.column 26 h)
add_none f None h = refl

pub add-again : (f : Fields) (x : Option Field) → get_or f.seen (column_in x) false ≡ true → add_field f x ≡ None
unfolding add_field
add-again f (Some x) e = go (ltb x.column 26)
  where
    go : (t : Bool) → cond t (cond (get_or f.seen x.column false) None (Some (put f x.column x.number))) None ≡ None
    go true = rw e
    go false = refl
add-again f None e = refl

pub add-first : (f : Fields) (x : Option Field) → column_in x < 26 → get_or f.seen (column_in x) false ≡ false
    → add_field f x ≡ Some (put f (column_in x) (number_in x))
unfolding add_field
add-first f (Some x) h e = simp (lt-ltb x.column 26 h, e)
add-first f None h e = absurd (omega arith)

-- ---- a loop over the fields of s, at i, with f so far and the next column n

-- what is left to read
abbrev pub left : List (List ℕ) → ℕ → Fields → List (List ℕ) → Option Fields
left names n f ps = cond (rises n (named names ps)) (read_pieces names f ps) None

-- two tests with the same end may change places
pub cond-swap : {A : Type 0} (a b : Bool) (x y : A) → cond a (cond b x y) y ≡ cond b (cond a x y) y
cond-swap true b x y = refl
cond-swap false true x y = refl
cond-swap false false x y = refl

-- nothing is read behind what is no field
none-case : {A B : Type 0} (b : Bool) (o : Option A) (g : A → Option B)
    → cond b (option_and_then g o) None ≡ option_and_then (λ (x : A). cond b (g x) None) o
none-case true o g = refl
none-case false None g = refl
none-case false (Some x) g = refl

-- nor behind what steps back
left-case : (n : ℕ) (x : Option Field) (r : ℕ → Bool) (f : Fields) (g : Fields → Option Fields)
    → cond (leb n (column_in x) && r (column_in x + 1)) (option_and_then g (add_field f x)) None
    ≡ option_and_then (λ (h : Fields). cond (r (column_in (field_from n x) + 1)) (g h) None) (add_field f (field_from n x))
unfolding add_field
left-case n None r f g = none-case (leb n 26 && r 27) None g
left-case n (Some x) r f g = go (leb n x.column)
  where
    go : (b : Bool)
        → cond (b && r (x.column + 1)) (option_and_then g (add_field f (Some x))) None
        ≡ option_and_then (λ (h : Fields). cond (r (column_in (cond b (Some x) None) + 1)) (g h) None) (add_field f (cond b (Some x) None))
    go true = none-case (r (x.column + 1)) (add_field f (Some x)) g
    go false = refl

-- one piece more
pub left_step : (names : List (List ℕ)) (n : ℕ) (f : Fields) (p : List ℕ) (ps : List (List ℕ)) → 0 < length ps
    → left names n f (p ∷ ps)
    ≡ (let x = field_from n (read_piece names p) in
    option_and_then (λ (g : Fields). left names (column_in x + 1) g ps) (add_field f x))
unfolding read_pieces from_fields rises
left_step names n f p [] h = absurd (omega arith)
left_step names n f p (q ∷ ps) h =
    left-case n (read_piece names p) (λ (m : ℕ). rises m (named names (q ∷ ps))) f (λ (g : Fields). read_pieces names g (q ∷ ps))

module _ (names : List (List ℕ)) (n : ℕ) (f : Fields) (s : List ℕ) (i : ℕ) where
  not-empty : (t : List ℕ) → 0 < length t → at_end f t ≡ None
  not-empty [] h = absurd (omega arith)
  not-empty (c ∷ t) h = refl

  -- a last piece is not followed by another
  pub left-unclosed : i < length s → length s ≤ i + length (up_to 41 (drop i s)) → left names n f (pieces 41 (drop i s)) ≡ None
  unfolding read_pieces from_fields rises
  left-unclosed h k =
      ap (left names n f) (pieces-last 41 (drop i s) (omega (arith, length-drop i s)))
      ∙ not-empty (drop i s) (omega (arith, length-drop i s))

  pub left_end : length s ≤ i → left names n f (pieces 41 (drop i s)) ≡ Some f
  unfolding read_pieces pieces from_fields rises
  left_end h = simp (drop_of_length-le s h)

  -- where e is the place of the next closing bracket, x the field before it, and g is f with it
  module _ (e : ℕ) (q : e ≡ i + length (up_to 41 (drop i s))) (h : e < length s)
      (x : Option Field) (p : x ≡ field_from n (read_piece names (take (e - i) (drop i s)))) where
    piece-at : take (e - i) (drop i s) ≡ up_to 41 (drop i s)
    piece-at = up_to-place 41 (drop i s) (e - i) (omega arith)

    field_at : field_from n (read_piece names (up_to 41 (drop i s))) ≡ x
    field_at = sym (p ∙ ap (λ (t : List ℕ). field_from n (read_piece names t)) piece-at)

    rest_at : drop (e + 1) s ≡ behind 41 (drop i s)
    rest_at =
        let place : e + 1 ≡ i + (e - i + 1) = omega arith in
        ap (λ (j : ℕ). drop j s) place ∙ sym (drop-drop (e - i + 1) i s) ∙ behind-next 41 (drop i s) (e - i) (omega arith)

    pub left-next : (g : Option Fields) → g ≡ add_field f x → left names n f (pieces 41 (drop i s))
        ≡ option_and_then (λ (y : Fields). left names (column_in x + 1) y (pieces 41 (drop (e + 1) s))) g
    left-next g r =
        ap (left names n f) (pieces-cut 41 (drop i s) (omega (arith, length-drop i s)))
        ∙ left_step names n f (up_to 41 (drop i s)) (pieces 41 (behind 41 (drop i s))) (pieces-some 41 (behind 41 (drop i s)))
        ∙ ap₂ (λ (y : Option Field) (t : List ℕ).
        option_and_then (λ (y' : Fields). left names (column_in y + 1) y' (pieces 41 t)) (add_field f y))
        field_at (sym rest_at)
        ∙ ap (option_and_then (λ (y : Fields). left names (column_in x + 1) y (pieces 41 (drop (e + 1) s)))) (sym r)

-- ---- a form, where k is the place of its first space

module _ (t : List ℕ) (k : ℕ) (e : k ≡ length (up_to 32 t)) where
  pub rest_part : take (length t - k) (drop k t) ≡ drop (length (up_to 32 t)) t
  rest_part = take_rest t k ∙ ap (λ (j : ℕ). drop j t) e

  pub numbered-split : (names : List (List ℕ))
      → paired (read_number (take k t)) (read_fields names (take (length t - k) (drop k t))) ≡ numbered_by read_fields names t
  unfolding numbered_by
  numbered-split names = ap₂ (λ (x y : List ℕ). paired (read_number x) (read_fields names y)) (up_to-place 32 t k e) rest_part

  -- a word test of the code is one of the definition
  word-is : (w : List ℕ) {b : Bool} → same_bytes (take k t) w ≡ b → same_bytes (up_to 32 t) w ≡ b
  word-is w h = ap (λ (x : List ℕ). same_bytes x w) (sym (up_to-place 32 t k e)) ∙ h

  pub form-receive : same_bytes (take k t) (ascii "receive") ≡ true
      → receive_line (read_fields (names_of Sludge) (take (length t - k) (drop k t))) ≡ form_by read_fields t
  unfolding form_of
  form-receive h = rw (word-is _ h) (ap (λ (x : List ℕ). receive_line (read_fields (names_of Sludge) x)) rest_part)

  -- u is what stands behind the word and its space, and r what it is read as
  pub form-settle : {u : List ℕ} {r : Option (ℕ × Fields)} → u ≡ behind 32 t → r ≡ numbered_by read_fields (names_of Digester) u
      → same_bytes (take k t) (ascii "receive") ≡ false → same_bytes (take k t) (ascii "settle") ≡ true
      → settle_line r ≡ form_by read_fields t
  unfolding form_of
  form-settle b q h i = ap settle_line (q ∙ ap (numbered_by read_fields (names_of Digester)) b) ∙ rw (word-is _ h, word-is _ i)

  pub form-accept : {u : List ℕ} {r : Option (ℕ × Fields)} → u ≡ behind 32 t → r ≡ numbered_by read_fields (names_of Sludge) u
      → same_bytes (take k t) (ascii "receive") ≡ false → same_bytes (take k t) (ascii "settle") ≡ false
      → same_bytes (take k t) (ascii "accept") ≡ true
      → accept_line r ≡ form_by read_fields t
  unfolding form_of
  form-accept b q h i j =
      ap accept_line (q ∙ ap (numbered_by read_fields (names_of Sludge)) b) ∙ rw (word-is _ h, word-is _ i, word-is _ j)

  pub form-number : {u : List ℕ} {r : Option ℕ} → u ≡ behind 32 t → r ≡ read_number u
      → same_bytes (take k t) (ascii "receive") ≡ false → same_bytes (take k t) (ascii "settle") ≡ false
      → same_bytes (take k t) (ascii "accept") ≡ false
      → number_line (take k t) r ≡ form_by read_fields t
  unfolding form_of
  form-number b q h i j =
      ap (number_line (take k t)) (q ∙ ap read_number b)
      ∙ rw (word-is _ h, word-is _ i, word-is _ j)
      (ap (λ (x : List ℕ). number_line x (read_number (behind 32 t))) (up_to-place 32 t k e))
