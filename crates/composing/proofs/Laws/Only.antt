-- A line that is read as a call is the call's text, where it names no zero column. Assumes nothing.
--
--   glue, pieces-glue               pieces with a byte between them, and those of a text
--   behind-split, number-split      a text at the first b, and at a space with a number behind it
--   brackets-.., closing-split      a text in brackets
--   preview-is                      a preview
--   column-is                       a name that is found
--   field_is, inside_is, piece_is   a piece that is read as a field
--   add_is, from_is, then-some      a further field that is taken
--   Named, left-named               a piece that is taken, and what is left to read behind it
--   fields-skip, fields-none        columns that are zero have no text
--   fields_at                       a column that is not zero
--   ZeroFrom, Read                  the columns before and behind the next one
--   read_step, left-text            fields that are read, one by one
--   fields-only                     all of them
--   CallIs                          what is to be shown of a call
--   receive-only, numbered-only,    a call with fields
--   by-numbered, settle-only,
--   accept-only
--   Words, look-only, number-only   a call with a number alone
--   form-only, call-only            any call
--   LineIs, line-only               and any line
--   entry-only                      TextOnlyLaw
use mathlib.Core.Bool.{Bool, true, false, cond, not, ◌&&◌}
use mathlib.Core.List.{List, [], ◌∷◌, ◌++◌}
use mathlib.Core.Path.{◌≡◌, refl, sym, ap, ap₂, subst, ◌∙◌}
use Prim.Native.Nat.{ℕ, zero, suc, ◌+◌, ◌-◌, ◌≤◌, ◌<◌}
use native.Mathlib.Nat.{add-zero}
use native.Mathlib.Omega.{arith}
use lib.Dec.{leb, ltb, eqb}
use Rattle.std.proofs.lemmas.List.{drop_more}
use lib.ListN.{length, take, drop, get_or, set, length-drop, length-set, drop_of_length-le, take-append-drop}
use lib.Seq.{split_at, get_or-drop, drop-drop, drop-length, get_or-set_same, get_or-set_other}
use borrow.Author.Tests.{leb-true, ltb-true, eqb-true, not-true}
use Rattle.vectors.specs.Columns.{asm1, asm1_columns}
use Rattle.vectors.proofs.Laws.Columns.{same_at}
use Rattle.std.proofs.lemmas.Bool.{and_parts}
use Rattle.std.proofs.lemmas.Option.{none-some}
use Rattle.plant.specs.declared.answer.Call.{Call}
use Rattle.plant.specs.declared.answer.Call.TheVariants.{Receive, Feed, Settle, Return, Release, Recycle, Draw, Accept}
use Rattle.std.proofs.Common.{Option, Some, None, option_map, option_and_then}
use Rattle.reading.specs.declared.names.Vector.TheVariants.{Sludge, Digester}
use Rattle.reading.specs.declared.fields.Field.{Field}
use Rattle.reading.specs.declared.fields.Fields.{Fields}
use Rattle.reading.specs.declared.form.Asked.{Asked}
use Rattle.reading.specs.Text.{ascii, same_bytes, Word, look_up, up_to, behind, on_first, pieces}
use Rattle.reading.specs.Number.{read_number, decimal}
use Rattle.reading.specs.Names.{names_of, column_from, column_of}
use Rattle.reading.specs.Form.{field, field_of, read_field, read_piece, no_fields, add_field, column_in, number_in}
use Rattle.reading.specs.Form.{read_pieces, from_fields, rises, read_fields, field_from, no_form, receive_line}
use Rattle.reading.specs.Form.{settle_line, accept_line, number_words, number_line, paired, numbered_by, fields_part, form_of}
use Rattle.reading.specs.Line.{in_brackets, inner, call_by, preview_line, is_preview, form_in, read_line}
use Rattle.reading.specs.Line.{bracketed, preview_text, form_passes, call_passes}
use Rattle.reading.proofs.Laws.Text.{same-equal, up_to-take, up_to-length, pieces-some}
use Rattle.reading.proofs.Laws.Form.{put, left, left_step}
use Rattle.reading.proofs.Laws.Line.{brackets-two, preview-split, preview-ten}
use Rattle.writing.specs.Answer.{column_text, column_or_none, columns_from}
use Rattle.writing.proofs.Laws.Decimal.{decimal-digits}
use Rattle.composing.specs.Line.{fields_from, fields_text, call_text, entry_text, asked_by}
use Rattle.composing.specs.Line.{none_zero, fields_no_zero, names_no_zero, TextOnlyLaw}
use Rattle.composing.proofs.Laws.Number.{decimal-only}
use Rattle.composing.proofs.Laws.Column.{piece-text}

-- ---- pieces

-- pieces with b between them
unfoldable glue : ℕ → List (List ℕ) → List ℕ
glue b [] = []
glue b (p ∷ []) = p
glue b (p ∷ (q ∷ ps)) = p ++ (b ∷ glue b (q ∷ ps))

pieces-glue : (b : ℕ) (s : List ℕ) → glue b (pieces b s) ≡ s
unfolding glue pieces on_first
pieces-glue b [] = refl
pieces-glue b (c ∷ s) = go (eqb c b) refl (pieces b s) (pieces-some b s) (pieces-glue b s)
  where
    go : (t : Bool) → eqb c b ≡ t → (ps : List (List ℕ)) → 0 < length ps → glue b ps ≡ s
        → glue b (cond t ([] ∷ ps) (on_first c ps)) ≡ c ∷ s
    go t e [] h q = absurd (omega arith)
    go true e (p ∷ ps) h q = ap₂ (λ (x : ℕ) (l : List ℕ). x ∷ l) (sym (eqb-true c b e)) q
    go false e (p ∷ []) h q = ap (λ (l : List ℕ). c ∷ l) q
    go false e (p ∷ (r ∷ ps)) h q = ap (λ (l : List ℕ). c ∷ l) q

-- ---- a text with a b in it

behind-split : (b : ℕ) (s : List ℕ) → 0 < length (behind b s) → s ≡ up_to b s ++ (b ∷ behind b s)
unfolding up_to behind
behind-split b [] h = absurd (omega arith)
behind-split b (c ∷ s) h = go (eqb c b) refl h (behind-split b s)
  where
    go : (t : Bool) → eqb c b ≡ t → 0 < length (cond t s (behind b s))
        → (0 < length (behind b s) → s ≡ up_to b s ++ (b ∷ behind b s))
        → c ∷ s ≡ cond t [] (c ∷ up_to b s) ++ (b ∷ cond t s (behind b s))
    go true e k f = ap (λ (x : ℕ). x ∷ s) (eqb-true c b e)
    go false e k f = ap (λ (l : List ℕ). c ∷ l) (f k)

-- a number behind a space
number-split : (s : List ℕ) (k : ℕ) → read_number (behind 32 s) ≡ Some k → s ≡ up_to 32 s ++ (32 ∷ decimal k)
number-split s k e =
    let d = decimal-only (behind 32 s) k e in
    behind-split 32 s (omega (arith, ap length d, (decimal-digits k).1)) ∙ ap (λ (l : List ℕ). up_to 32 s ++ (32 ∷ l)) d

-- ---- brackets

brackets-ends : (s : List ℕ) → in_brackets s ≡ true → (get_or s 0 0 ≡ 40) × (get_or s (length s - 1) 0 ≡ 41)
unfolding in_brackets
brackets-ends s e =
    let a = leb 2 (length s) && leb (length s) 1024 in
    let b = and_parts (a && eqb (get_or s 0 0) 40) (eqb (get_or s (length s - 1) 0) 41) e in
    (eqb-true (get_or s 0 0) 40 (and_parts a (eqb (get_or s 0 0) 40) b.0).1, eqb-true (get_or s (length s - 1) 0) 41 b.1)

-- what stands behind n bytes, with the bracket at its end
closing-split : (n : ℕ) (s : List ℕ) → in_brackets s ≡ true → n < length s
    → drop n s ≡ take (length s - 1 - n) (drop n s) ++ (41 ∷ [])
closing-split n s e h =
    split_at (drop n s) m 0 (omega (arith, l))
    ∙ ap₂ (λ (x : ℕ) (r : List ℕ). take m (drop n s) ++ (x ∷ r)) last (drop_of_length-le (drop n s) {i = suc m} (omega (arith, l)))
  where
    m : ℕ
    m = length s - 1 - n

    l : length (drop n s) ≡ length s - n
    l = length-drop n s

    place : n + m ≡ length s - 1
    place = omega arith

    last : get_or (drop n s) m 0 ≡ 41
    last = get_or-drop n s m 0 ∙ ap (λ (j : ℕ). get_or s j 0) place ∙ (brackets-ends s e).1

brackets-split : (s : List ℕ) → in_brackets s ≡ true → s ≡ bracketed (inner s)
brackets-split s e =
    let h = brackets-two s e in
    go s (brackets-ends s e).0 h ∙ ap (λ (l : List ℕ). 40 ∷ l) (closing-split 1 s e h)
  where
    go : (x : List ℕ) → get_or x 0 0 ≡ 40 → 2 ≤ length x → x ≡ 40 ∷ drop 1 x
    go [] q h = absurd (omega arith)
    go (b ∷ x) q h = ap (λ (c : ℕ). c ∷ x) q

preview-is : (s : List ℕ) → is_preview s ≡ true → s ≡ preview_text (form_in s)
unfolding is_preview
preview-is s e =
    preview-split s e
    ∙ ap (λ (l : List ℕ). ascii "(preview " ++ l) (closing-split 9 s (and_parts (in_brackets s) _ e).0 (preview-ten s e))

-- ---- a name

-- the name s is the one at i, where the first is counted as j
column-is : (j : ℕ) (ns : List (List ℕ)) (s : List ℕ) (c : ℕ) → column_from j ns s ≡ Some c
    → (i : ℕ) × (c ≡ j + i) × (i < length ns) × (s ≡ get_or ns i [])
unfolding column_from
column-is j [] s c e = absurd (none-some _ e)
column-is j (n ∷ ns) s c e = go (same_bytes s n) refl e (column-is (j + 1) ns s c)
  where
    go : (t : Bool) → same_bytes s n ≡ t → cond t (Some j) (column_from (j + 1) ns s) ≡ Some c
        → (column_from (j + 1) ns s ≡ Some c → (i : ℕ) × (c ≡ j + 1 + i) × (i < length ns) × (s ≡ get_or ns i []))
        → (i : ℕ) × (c ≡ j + i) × (i < length (n ∷ ns)) × (s ≡ get_or (n ∷ ns) i [])
    go true q p f = let h : j ≡ c = cc in (0, omega arith, omega arith, same-equal s n q)
    go false q p f = let r = f p in (suc r.0, omega arith, omega arith, r.3)

-- ---- one piece

field_is : (x m : Option ℕ) (c k : ℕ) → field_of x m ≡ field c k → (x ≡ Some c) × (m ≡ Some k)
field_is (Some a) (Some b) c k e = (ap Some (ap column_in e), ap Some (ap number_in e))
field_is (Some a) None c k e = absurd (none-some _ e)
field_is None m c k e = absurd (none-some _ e)

-- the bytes of a field, inside its bracket
abbrev field_bytes : List (List ℕ) → ℕ → ℕ → List ℕ
field_bytes names c k = get_or names c [] ++ (32 ∷ decimal k)

inside_is : (names : List (List ℕ)) (s : List ℕ) (c k : ℕ) → read_field names s ≡ field c k
    → (c < length names) × (s ≡ field_bytes names c k)
unfolding read_field
inside_is names s c k e =
    let f = field_is (column_of names (up_to 32 s)) (read_number (behind 32 s)) c k e in
    let i = column-is 0 names (up_to 32 s) c f.0 in
    let p : i.0 ≡ c = omega (arith, i.1) in
    let name = i.3 ∙ ap (λ (x : ℕ). get_or names x []) p in
    (omega (arith, i.1, i.2), number-split s k f.1 ∙ ap (λ (l : List ℕ). l ++ (32 ∷ decimal k)) name)

piece_is : (names : List (List ℕ)) (p : List ℕ) (c k : ℕ) → read_piece names p ≡ field c k
    → (c < length names) × (p ≡ 32 ∷ (40 ∷ field_bytes names c k))
unfolding read_piece
piece_is names [] c k e = absurd (none-some _ e)
piece_is names (a ∷ []) c k e = absurd (none-some _ e)
piece_is names (a ∷ (b ∷ s)) c k e = go (eqb a 32 && eqb b 40) refl e
  where
    go : (t : Bool) → (eqb a 32 && eqb b 40) ≡ t → cond t (read_field names s) None ≡ field c k
        → (c < length names) × (a ∷ (b ∷ s) ≡ 32 ∷ (40 ∷ field_bytes names c k))
    go true q r =
        let i = inside_is names s c k r in
        let t = and_parts (eqb a 32) (eqb b 40) q in
        let x = eqb-true a 32 t.0 in
        let y = eqb-true b 40 t.1 in
        (i.0, cc i.1)
    go false q r = absurd (none-some _ r)

-- ---- a field, and what is left behind it

add_is : (f : Fields) (x : Option Field) (g : Fields) → add_field f x ≡ Some g
    → (c : ℕ) × (k : ℕ) × (x ≡ field c k) × (c < 26) × (g ≡ put f c k)
unfolding add_field
add_is f None g e = absurd (none-some _ e)
add_is f (Some y) g e = go (ltb y.column 26) (get_or f.seen y.column false) refl e
  where
    go : (a b : Bool) → ltb y.column 26 ≡ a → cond a (cond b None (Some (put f y.column y.number))) None ≡ Some g
        → (c : ℕ) × (k : ℕ) × (Some y ≡ field c k) × (c < 26) × (g ≡ put f c k)
    go true true q r = absurd (none-some _ r)
    go true false q r = (y.column, y.number, refl, ltb-true y.column 26 q, cc)
    go false b q r = absurd (none-some _ r)

from_is : (n : ℕ) (x : Option Field) (c k : ℕ) → field_from n x ≡ field c k → (x ≡ field c k) × (n ≤ c)
from_is n None c k e = absurd (none-some _ e)
from_is n (Some y) c k e = go (leb n y.column) refl e
  where
    go : (t : Bool) → leb n y.column ≡ t → cond t (Some y) None ≡ field c k → (Some y ≡ field c k) × (n ≤ c)
    go true q r = (r, omega (arith, ap column_in r, leb-true n y.column q))
    go false q r = absurd (none-some _ r)

-- what comes of something is of something
then-some : {A B : Type 0} (o : Option A) (f : A → Option B) (g : B) → option_and_then f o ≡ Some g → (x : A) × (o ≡ Some x)
then-some None f g e = absurd (none-some _ e)
then-some (Some x) f g e = (x, refl)

-- the piece p is taken as a field, whose column is n or behind it
record Named (names : List (List ℕ)) (n : ℕ) (f : Fields) (p : List ℕ) (ps : List (List ℕ)) : Type 0 where
  column : ℕ
  number : ℕ
  piece : read_piece names p ≡ field column number
  from : n ≤ column
  below : column < 26
  rest : left names n f (p ∷ ps) ≡ left names (column + 1) (put f column number) ps

left-named : (names : List (List ℕ)) (n : ℕ) (f : Fields) (p : List ℕ) (ps : List (List ℕ)) (g : Fields) → 0 < length ps
    → left names n f (p ∷ ps) ≡ Some g → Named names n f p ps
left-named names n f p ps g h e =
    let x = field_from n (read_piece names p) in
    let r = left_step names n f p ps h in
    let o = then-some (add_field f x) (λ (y : Fields). left names (column_in x + 1) y ps) g (sym r ∙ e) in
    let a = add_is f x o.0 o.1 in
    let i = from_is n (read_piece names p) a.0 a.1 a.2 in
    record {
      column = a.0;
      number = a.1;
      piece = i.0;
      from = i.1;
      below = a.3;
      rest =
          r
          ∙ ap (λ (y : Option Field). option_and_then (λ (z : Fields). left names (column_in y + 1) z ps) (add_field f y)) a.2
          ∙ ap (option_and_then (λ (z : Fields). left names (a.0 + 1) z ps)) (sym (ap (add_field f) a.2) ∙ o.1 ∙ ap Some a.4);
    }

-- ---- columns that are zero

-- i of them from n on
fields-skip : (i n : ℕ) (names : List (List ℕ)) (v : List ℕ) → ((j : ℕ) → n ≤ j → j < n + i → get_or v j 0 ≡ 0)
    → fields_from n names v ≡ fields_from (n + i) (drop i names) v
unfolding columns_from column_or_none
fields-skip zero n names v z = ap (λ (k : ℕ). fields_from k names v) (sym (add-zero n))
fields-skip (suc i) n [] v z = refl
fields-skip (suc i) n (name ∷ names) v z =
    ap (λ (k : ℕ). column_or_none false name k ++ fields_from (n + 1) names v) (z n (omega arith) (omega arith))
    ∙ fields-skip i (n + 1) names v (λ j h k. z j (omega arith) (omega arith))
    ∙ ap (λ (k : ℕ). fields_from k (drop i names) v) place
  where
    place : n + 1 + i ≡ n + suc i
    place = omega arith

fields-none : (n : ℕ) (names : List (List ℕ)) (v : List ℕ) → ((j : ℕ) → n ≤ j → get_or v j 0 ≡ 0) → fields_from n names v ≡ []
unfolding columns_from
fields-none n names v z =
    fields-skip (length names) n names v (λ j h k. z j h)
    ∙ ap (λ (ns : List (List ℕ)). fields_from (n + length names) ns v) (drop-length names)

-- ---- a column that is not zero

-- the column c with its number k, where columns n to c − 1 are zero
fields_at : (names : List (List ℕ)) (v : List ℕ) (n c k : ℕ) → n ≤ c → c < length names
    → ((j : ℕ) → n ≤ j → j < c → get_or v j 0 ≡ 0) → get_or v c 0 ≡ k → eqb k 0 ≡ false
    → fields_from n (drop n names) v ≡ column_text (get_or names c []) k ++ fields_from (c + 1) (drop (c + 1) names) v
unfolding columns_from column_or_none
fields_at names v n c k h l z a e =
    fields-skip (c - n) n (drop n names) v (λ j i o. z j i (omega arith))
    ∙ ap₂ (λ (m : ℕ) (ns : List (List ℕ)). fields_from m ns v) place (drop-drop (c - n) n names ∙ ap (λ (m : ℕ). drop m names) place)
    ∙ ap (λ (ns : List (List ℕ)). fields_from c ns v) (drop_more names c [] l)
    ∙ ap (λ (m : ℕ). column_or_none false (get_or names c []) m ++ fields_from (c + 1) (drop (c + 1) names) v) a
    ∙ ap (λ (b : Bool). cond b [] (column_text (get_or names c []) k) ++ fields_from (c + 1) (drop (c + 1) names) v) e
  where
    place : n + (c - n) ≡ c
    place = omega arith

-- ---- fields

-- 26 columns, and those from n on are zero
abbrev ZeroFrom : ℕ → List ℕ → Type 0
ZeroFrom n v = (length v ≡ 26) × ((j : ℕ) → n ≤ j → get_or v j 0 ≡ 0)

zero-next : (n c k : ℕ) (v : List ℕ) → n ≤ c → ZeroFrom n v → ZeroFrom (c + 1) (set v c k)
zero-next n c k v h z = (length-set v c k ∙ z.0, λ j i. get_or-set_other v c j k 0 (λ x. omega arith) ∙ z.1 j (omega arith))

-- g is read of the pieces ps: they are the text of its columns from n on, and those before n are as in f
abbrev Read : List (List ℕ) → ℕ → Fields → List (List ℕ) → Fields → Type 0
Read names n f ps g =
    (glue 41 ps ≡ fields_from n (drop n names) g.columns) × ((j : ℕ) → j < n → get_or g.columns j 0 ≡ get_or f.columns j 0)

-- the piece p is taken, and g is read of the pieces behind it
read_step : (names : List (List ℕ)) (n : ℕ) (f : Fields) (p q : List ℕ) (ps : List (List ℕ)) (m : Named names n f p (q ∷ ps)) (g : Fields)
    → ZeroFrom n f.columns → eqb m.number 0 ≡ false
    → Read names (m.column + 1) (put f m.column m.number) (q ∷ ps) g → Read names n f (p ∷ (q ∷ ps)) g
unfolding glue
read_step names n f p q ps m g z o r = (text, λ j h. other j (omega (arith, m.from)))
  where
    c : ℕ
    c = m.column

    k : ℕ
    k = m.number

    other : (j : ℕ) → j < c → get_or g.columns j 0 ≡ get_or f.columns j 0
    other j h = r.1 j (omega arith) ∙ get_or-set_other f.columns c j k 0 (λ x. omega arith)

    here : get_or g.columns c 0 ≡ k
    here = r.1 c (omega arith) ∙ get_or-set_same f.columns c k 0 (omega (arith, z.0, m.below))

    piece : (c < length names) × (p ≡ 32 ∷ (40 ∷ field_bytes names c k))
    piece = piece_is names p c k m.piece

    text : p ++ (41 ∷ glue 41 (q ∷ ps)) ≡ fields_from n (drop n names) g.columns
    text =
        ap₂ (λ (x y : List ℕ). x ++ (41 ∷ y)) piece.1 r.0
        ∙ piece-text (get_or names c []) k (fields_from (c + 1) (drop (c + 1) names) g.columns)
        ∙ sym (fields_at names g.columns n c k m.from piece.0 (λ j h i. other j i ∙ z.1 j h) here o)

left-text : (names : List (List ℕ)) (n : ℕ) (f : Fields) (ps : List (List ℕ)) (g : Fields) → ZeroFrom n f.columns
    → none_zero (from_fields number_in names ps) ≡ true → left names n f ps ≡ Some g → Read names n f ps g
unfolding glue read_pieces from_fields rises none_zero
left-text names n f [] g z o e = absurd (none-some _ e)
left-text names n f ([] ∷ []) g z o e =
    let q : f ≡ g = cc in
    subst (Read names n f ([] ∷ [])) q (sym (fields-none n (drop n names) f.columns z.1), λ j h. refl)
left-text names n f ((c ∷ s) ∷ []) g z o e = absurd (none-some _ e)
left-text names n f (p ∷ (q ∷ ps)) g z o e =
    let m = left-named names n f p (q ∷ ps) g (omega arith) e in
    let c = m.column in
    let k = m.number in
    let b = and_parts (not (eqb (number_in (read_piece names p)) 0)) _ o in
    let y = not-true (eqb k 0) (sym (ap (λ (x : Option Field). not (eqb (number_in x) 0)) m.piece) ∙ b.0) in
    let r = left-text names (c + 1) (put f c k) (q ∷ ps) g (zero-next n c k f.columns m.from z) b.1 (sym m.rest ∙ e) in
    read_step names n f p q ps m g z y r

fields-only : (names : List (List ℕ)) (s : List ℕ) (g : Fields) → fields_no_zero names s ≡ true → read_fields names s ≡ Some g
    → s ≡ fields_text names g.columns
fields-only names s g z e =
    sym (pieces-glue 41 s) ∙ (left-text names 0 no_fields (pieces 41 s) g (refl, λ j h. same_at 26 j 0) z e).0

-- ---- calls

-- u is the text of the call, and no preview, where it is one
abbrev CallIs : List ℕ → Option Asked → Type 0
CallIs u (Some a) = (a.preview ≡ false) × (u ≡ call_text a.request.call a.request.sludge a.request.digester)
CallIs u None = Unit

-- a word, and what stands behind it
word_split : (t w : List ℕ) → up_to 32 t ≡ w → t ≡ w ++ drop (length (up_to 32 t)) t
word_split t w e =
    sym (take-append-drop (length (up_to 32 t)) t) ∙ ap (λ (x : List ℕ). x ++ drop (length (up_to 32 t)) t) (up_to-take 32 t ∙ e)

-- the columns of a vector and no others
asm1-text : (w : List ℕ) → fields_text (names_of Sludge) w ≡ fields_text (names_of Sludge) (asm1_columns (asm1 w))
unfolding columns_from
asm1-text w = refl

-- a pair is there where both are
paired-is : (x : Option ℕ) (y : Option Fields) (n : ℕ) (f : Fields) → paired x y ≡ Some (n, f) → (x ≡ Some n) × (y ≡ Some f)
paired-is (Some a) (Some b) n f e = (ap (option_map (λ (p : ℕ × Fields). p.0)) e, ap (option_map (λ (p : ℕ × Fields). p.1)) e)
paired-is (Some a) None n f e = absurd (none-some _ e)
paired-is None y n f e = absurd (none-some _ e)

module _ (t : List ℕ) where
  receive-only : same_bytes (up_to 32 t) (ascii "receive") ≡ true → fields_no_zero (names_of Sludge) (drop (length (up_to 32 t)) t) ≡ true
      → CallIs (bracketed t) (receive_line (read_fields (names_of Sludge) (drop (length (up_to 32 t)) t)))
  receive-only e z = go (read_fields (names_of Sludge) (drop (length (up_to 32 t)) t)) refl
    where
      go : (r : Option Fields) → read_fields (names_of Sludge) (drop (length (up_to 32 t)) t) ≡ r → CallIs (bracketed t) (receive_line r)
      go (Some f) q = (
        refl,
        ap bracketed
            (word_split t (ascii "receive") (same-equal (up_to 32 t) (ascii "receive") e)
            ∙ ap (λ (x : List ℕ). ascii "receive" ++ x) (fields-only (names_of Sludge) _ f z q ∙ asm1-text f.columns)),
      )
      go None q = tt

  -- a word w, a number and the fields f of these names
  numbered-only : (w : List ℕ) (names : List (List ℕ)) → same_bytes (up_to 32 t) w ≡ true
      → fields_no_zero names (fields_part (behind 32 t)) ≡ true
      → (n : ℕ) (f : Fields) → numbered_by read_fields names (behind 32 t) ≡ Some (n, f)
      → t ≡ w ++ (32 ∷ (decimal n ++ fields_text names f.columns))
  unfolding numbered_by
  numbered-only w names e z n f q =
      let u = behind 32 t in
      let both = paired-is (read_number (up_to 32 u)) (read_fields names (fields_part u)) n f q in
      let d = decimal-only (up_to 32 u) n both.0 in
      behind-split 32 t (omega (arith, ap length d, (decimal-digits n).1, up_to-length 32 u))
      ∙ ap₂ (λ (x y : List ℕ). x ++ (32 ∷ y)) (same-equal (up_to 32 t) w e)
      (word_split u (decimal n) d ∙ ap (λ (x : List ℕ). decimal n ++ x) (fields-only names (fields_part u) f z both.1))

  -- by what the number and the fields are read as, which is nothing where they are neither
  by-numbered : (names : List (List ℕ)) (line : Option (ℕ × Fields) → Option Asked) → CallIs (bracketed t) (line None)
      → ((p : ℕ × Fields) → numbered_by read_fields names (behind 32 t) ≡ Some p → CallIs (bracketed t) (line (Some p)))
      → CallIs (bracketed t) (line (numbered_by read_fields names (behind 32 t)))
  by-numbered names line none some = go (numbered_by read_fields names (behind 32 t)) refl
    where
      go : (r : Option (ℕ × Fields)) → numbered_by read_fields names (behind 32 t) ≡ r → CallIs (bracketed t) (line r)
      go (Some p) q = some p q
      go None q = none

  settle-only : same_bytes (up_to 32 t) (ascii "settle") ≡ true → fields_no_zero (names_of Digester) (fields_part (behind 32 t)) ≡ true
      → CallIs (bracketed t) (settle_line (numbered_by read_fields (names_of Digester) (behind 32 t)))
  settle-only e z =
      by-numbered (names_of Digester) settle_line tt
      (λ p q. (refl, ap bracketed (numbered-only (ascii "settle") (names_of Digester) e z p.0 p.1 q)))

  accept-only : same_bytes (up_to 32 t) (ascii "accept") ≡ true → fields_no_zero (names_of Sludge) (fields_part (behind 32 t)) ≡ true
      → CallIs (bracketed t) (accept_line (numbered_by read_fields (names_of Sludge) (behind 32 t)))
  accept-only e z =
      by-numbered (names_of Sludge) accept_line tt
      (λ p q.
      let text = numbered-only (ascii "accept") (names_of Sludge) e z p.0 p.1 q in
      (refl, ap bracketed (text ∙ ap (λ (x : List ℕ). ascii "accept " ++ (decimal p.0 ++ x)) (asm1-text p.1.columns))))

-- each word of a table means a call with the number k
abbrev Words : ℕ → List (Word (Option Asked)) → Type 0
Words k [] = Unit
Words k (r ∷ rs) = CallIs (bracketed (ascii r.word ++ (32 ∷ decimal k))) r.meaning × Words k rs

look-only : (t : List ℕ) (k : ℕ) → read_number (behind 32 t) ≡ Some k → (rs : List (Word (Option Asked))) → Words k rs
    → CallIs (bracketed t) (look_up no_form rs (up_to 32 t))
unfolding look_up
look-only t k e [] h = tt
look-only t k e (r ∷ rs) h = go (same_bytes (up_to 32 t) (ascii r.word)) refl (look-only t k e rs h.1)
  where
    go : (b : Bool) → same_bytes (up_to 32 t) (ascii r.word) ≡ b → CallIs (bracketed t) (look_up no_form rs (up_to 32 t))
        → CallIs (bracketed t) (cond b r.meaning (look_up no_form rs (up_to 32 t)))
    go true q i =
        subst (λ (x : List ℕ). CallIs (bracketed x) r.meaning)
        (sym (number-split t k e ∙ ap (λ (x : List ℕ). x ++ (32 ∷ decimal k)) (same-equal (up_to 32 t) (ascii r.word) q)))
        h.0
    go false q i = i

number-only : (t : List ℕ) → CallIs (bracketed t) (number_line (up_to 32 t) (read_number (behind 32 t)))
number-only t = go (read_number (behind 32 t)) refl
  where
    go : (n : Option ℕ) → read_number (behind 32 t) ≡ n → CallIs (bracketed t) (number_line (up_to 32 t) n)
    go (Some k) e = look-only t k e (number_words k) ((refl, refl), ((refl, refl), ((refl, refl), ((refl, refl), ((refl, refl), tt)))))
    go None e = tt

form-only : (t : List ℕ) → form_passes fields_no_zero (up_to 32 t) t ≡ true → CallIs (bracketed t) (form_of read_fields (up_to 32 t) t)
unfolding form_of form_passes
form-only t h =
    go (same_bytes (up_to 32 t) (ascii "receive")) (same_bytes (up_to 32 t) (ascii "settle")) (same_bytes (up_to 32 t) (ascii "accept"))
    refl refl refl h
  where
    go : (a b c : Bool) → same_bytes (up_to 32 t) (ascii "receive") ≡ a → same_bytes (up_to 32 t) (ascii "settle") ≡ b
        → same_bytes (up_to 32 t) (ascii "accept") ≡ c
        → cond a (fields_no_zero (names_of Sludge) (drop (length (up_to 32 t)) t))
        (cond b (fields_no_zero (names_of Digester) (fields_part (behind 32 t)))
        (cond c (fields_no_zero (names_of Sludge) (fields_part (behind 32 t))) true))
        ≡ true
        → CallIs (bracketed t)
        (cond a (receive_line (read_fields (names_of Sludge) (drop (length (up_to 32 t)) t)))
        (cond b (settle_line (numbered_by read_fields (names_of Digester) (behind 32 t)))
        (cond c (accept_line (numbered_by read_fields (names_of Sludge) (behind 32 t)))
        (number_line (up_to 32 t) (read_number (behind 32 t))))))
    go true b c p q r z = receive-only t p z
    go false true c p q r z = settle-only t q z
    go false false true p q r z = accept-only t r z
    go false false false p q r z = number-only t

call-only : (u : List ℕ) → call_passes fields_no_zero u ≡ true → CallIs u (call_by read_fields u)
unfolding call_by
call-only u h = go (in_brackets u) refl
  where
    go : (b : Bool) → in_brackets u ≡ b → CallIs u (cond b (form_of read_fields (up_to 32 (inner u)) (inner u)) no_form)
    go true e =
        subst (λ (x : List ℕ). CallIs x (form_of read_fields (up_to 32 (inner u)) (inner u))) (sym (brackets-split u e))
        (form-only (inner u) h)
    go false e = tt

-- ---- lines

-- s is the text of the call or of its preview, where it is one
abbrev LineIs : List ℕ → Option Asked → Type 0
LineIs s (Some a) = s ≡ entry_text a.preview a.request
LineIs s None = Unit

call-line-is : (s : List ℕ) (l : Option Asked) → CallIs s l → LineIs s l
call-line-is s (Some a) h = h.1 ∙ sym (ap (λ (b : Bool). entry_text b a.request) h.0)
call-line-is s None h = tt

preview-line-is : (s u : List ℕ) (l : Option Asked) → s ≡ preview_text u → CallIs u l → LineIs s (preview_line l)
preview-line-is s u (Some a) e h = go a.preview
  where
    go : (b : Bool) → LineIs s (cond b no_form (Some (record { request = a.request; preview = true })))
    go true = tt
    go false = e ∙ ap preview_text h.1
preview-line-is s u None e h = tt

line-only : (s : List ℕ) → names_no_zero s ≡ true → LineIs s (read_line s)
unfolding read_line
line-only s h = go (is_preview s) refl h
  where
    go : (b : Bool) → is_preview s ≡ b → cond b (call_passes fields_no_zero (form_in s)) (call_passes fields_no_zero s) ≡ true
        → LineIs s (cond b (preview_line (call_by read_fields (form_in s))) (call_by read_fields s))
    go true e z = preview-line-is s (form_in s) (call_by read_fields (form_in s)) (preview-is s e) (call-only (form_in s) z)
    go false e z = call-line-is s (call_by read_fields s) (call-only s z)

pub entry-only : TextOnlyLaw
entry-only b r s e z = go r.call (subst (LineIs s) e (line-only s z))
  where
    go : (call : Call) → LineIs s (asked_by b call r.sludge r.digester)
        → s ≡ entry_text b (record { call = call; sludge = r.sludge; digester = r.digester })
    go Receive h = h
    go (Feed k) h = h
    go (Settle g) h = h
    go (Return k) h = h
    go (Release k) h = h
    go (Recycle k) h = h
    go (Draw k) h = h
    go (Accept n) h = h
