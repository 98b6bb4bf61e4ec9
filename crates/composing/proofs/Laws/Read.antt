-- The columns of a vector that are written are read as the vector. Assumes nothing.
--
--   Lacks, lacks-append, lacks-digits, lacks-decimal   a byte that does not stand in bytes
--   up_to-past, behind-past                            a search past bytes that lack what is looked for
--   up_to-at, behind-at, pieces-at                     a search and a cut where it stands behind them
--   clear, Plain, plain-sludge, plain-digester         names of columns: none stands twice, no space and no bracket is in them
--   name-column                                        the column of a name
--   piece, piece-read, pieces-column                   a column that is written
--   Until, until-zero, until-put                       what was read of the columns before one of them
--   names-inside, names-first, names-rest              the names from a column on
--   Holds, Filled, fields_read                         all columns are read
--   fields-no-zero                                     none of them is zero
--   fields-start                                       they begin with a space
use mathlib.Core.Bool.{Bool, true, false, cond, not, ◌&&◌, false≢true}
use mathlib.Core.List.{List, [], ◌∷◌, ◌++◌, append-nil}
use mathlib.Core.Path.{◌≡◌, refl, sym, ap, ap₂, subst, ◌∙◌}
use Prim.Native.Nat.{ℕ, zero, suc, ◌+◌, ◌≤◌, ◌<◌}
use native.Mathlib.Numerals.{add-one}
use native.Mathlib.Omega.{arith}
use lib.Dec.{leb, eqb}
use lib.ListN.{length, drop, get_or, set, length-append, length-set, length-drop, get_or-eq_default}
use lib.Seq.{drop-cons, get_or-set_same, get_or-set_other}
use borrow.Author.Tests.{leb-true, leb-false, le-leb, eq-eqb, ne_eqb, eqb-true}
use Rattle.vectors.proofs.Laws.Columns.{same_at}
use Rattle.std.proofs.lemmas.Bool.{and_parts}
use Rattle.std.proofs.lemmas.Option.{none-some}
use Rattle.std.proofs.Common.{Option, Some, None, option_and_then}
use Rattle.reading.specs.declared.names.Vector.TheVariants.{Sludge, Digester}
use Rattle.reading.specs.declared.fields.Field.{Field}
use Rattle.reading.specs.declared.fields.Fields.{Fields}
use Rattle.reading.specs.Text.{ascii, same_bytes, up_to, behind, pieces}
use Rattle.reading.specs.Number.{is_digit, all_digits, largest, read_number, decimal}
use Rattle.reading.specs.Names.{names_of, column_from, column_of, from_column, distinct}
use Rattle.reading.specs.Form.{field, field_of, read_field, read_piece, no_fields, add_field, number_in, column_in}
use Rattle.reading.specs.Form.{read_pieces, from_fields, rises, read_fields, field_from}
use Rattle.reading.proofs.Laws.Text.{same-equal, pieces-cut, pieces-some}
use Rattle.reading.proofs.Laws.Names.{column-found, column-from}
use Rattle.reading.proofs.Laws.Form.{put, add-first, left, left_step}
use Rattle.writing.specs.Answer.{column_text, column_or_none, columns_from}
use Rattle.writing.proofs.Laws.Decimal.{decimal-digits}
use Rattle.writing.proofs.Laws.Page.{column-none, column-some}
use Rattle.composing.specs.Line.{fields_from, fields_text, none_zero, fields_no_zero}
use Rattle.composing.proofs.Laws.Number.{decimal-read}
use Rattle.composing.proofs.Laws.Column.{piece-text}

-- ---- bytes that lack a byte

abbrev pub Lacks : ℕ → List ℕ → Type 0
Lacks b s = up_to b s ≡ s

-- the first byte is another, and the rest lacks it too
lacks_rest : (b c : ℕ) (s : List ℕ) → Lacks b (c ∷ s) → (eqb c b ≡ false) × Lacks b s
unfolding up_to
lacks_rest b c s = go (eqb c b)
  where
    go : (t : Bool) → cond t [] (c ∷ up_to b s) ≡ c ∷ s → (t ≡ false) × Lacks b s
    go true e = absurd (omega (arith, ap length e))
    go false e = (refl, ap (drop 1) e)

-- past w, which lacks b
pub up_to-past : (b : ℕ) (w s : List ℕ) → Lacks b w → up_to b (w ++ s) ≡ w ++ up_to b s
unfolding up_to
up_to-past b [] s h = refl
up_to-past b (c ∷ w) s h =
    let r = lacks_rest b c w h in
    ap (λ t. cond t [] (c ∷ up_to b (w ++ s))) r.0 ∙ ap (λ (x : List ℕ). c ∷ x) (up_to-past b w s r.1)

pub behind-past : (b : ℕ) (w s : List ℕ) → Lacks b w → behind b (w ++ s) ≡ behind b s
unfolding behind
behind-past b [] s h = refl
behind-past b (c ∷ w) s h =
    let r = lacks_rest b c w h in
    ap (λ t. cond t (w ++ s) (behind b (w ++ s))) r.0 ∙ behind-past b w s r.1

pub lacks-append : (b : ℕ) (w s : List ℕ) → Lacks b w → Lacks b s → Lacks b (w ++ s)
lacks-append b w s h k = up_to-past b w s h ∙ ap (λ (x : List ℕ). w ++ x) k

pub lacks-digits : (b : ℕ) (s : List ℕ) → b < 48 → all_digits s ≡ true → Lacks b s
unfolding up_to all_digits
lacks-digits b [] h e = refl
lacks-digits b (c ∷ s) h e =
    let d = and_parts (is_digit c) (all_digits s) e in
    let c-digit = and_parts (leb 48 c) (leb c 57) d.0 in
    ap (λ t. cond t [] (c ∷ up_to b s)) (ne_eqb c b (λ q. omega (arith, leb-true 48 c c-digit.0)))
    ∙ ap (λ (x : List ℕ). c ∷ x) (lacks-digits b s h d.1)

pub lacks-decimal : (b n : ℕ) → b < 48 → Lacks b (decimal n)
lacks-decimal b n h = lacks-digits b (decimal n) h (decimal-digits n).0

-- up to a b that follows, and behind it
pub up_to-at : (b : ℕ) (w s : List ℕ) → Lacks b w → up_to b (w ++ (b ∷ s)) ≡ w
unfolding up_to
up_to-at b w s h =
    up_to-past b w (b ∷ s) h ∙ ap (λ t. w ++ cond t [] (b ∷ up_to b s)) (eq-eqb b b refl) ∙ append-nil w

pub behind-at : (b : ℕ) (w s : List ℕ) → Lacks b w → behind b (w ++ (b ∷ s)) ≡ s
unfolding behind
behind-at b w s h = behind-past b w (b ∷ s) h ∙ ap (λ t. cond t s (behind b s)) (eq-eqb b b refl)

pub pieces-at : (b : ℕ) (w s : List ℕ) → Lacks b w → pieces b (w ++ (b ∷ s)) ≡ w ∷ pieces b s
pieces-at b w s h =
    pieces-cut b (w ++ (b ∷ s)) (omega (arith, ap length (up_to-at b w s h), length-append w (b ∷ s)))
    ∙ ap₂ (λ (x y : List ℕ). x ∷ pieces b y) (up_to-at b w s h) (behind-at b w s h)

-- ---- names of columns

-- no space and no bracket is in a name, and it has at most four bytes, as a test
unfoldable pub clear : List ℕ → Bool
clear s = same_bytes (up_to 32 s) s && (same_bytes (up_to 41 s) s && leb (length s) 4)

unfoldable pub all_clear : List (List ℕ) → Bool
all_clear [] = true
all_clear (s ∷ ss) = clear s && all_clear ss

pub record Plain (names : List (List ℕ)) : Type 0 where
  pub once : distinct names ≡ true
  pub cleared : all_clear names ≡ true
  pub few : length names ≤ 26

pub plain-sludge : Plain (names_of Sludge)
unfolding distinct column_from same_bytes all_clear clear up_to
plain-sludge = record { once = refl; cleared = refl; few = omega arith }

pub plain-digester : Plain (names_of Digester)
unfolding distinct column_from same_bytes all_clear clear up_to
plain-digester = record { once = refl; cleared = refl; few = omega arith }

clear_at : (names : List (List ℕ)) (c : ℕ) → c < length names → all_clear names ≡ true → clear (get_or names c []) ≡ true
unfolding all_clear
clear_at [] c h e = absurd (omega arith)
clear_at (n ∷ ns) zero h e = (and_parts (clear n) (all_clear ns) e).0
clear_at (n ∷ ns) (suc c) h e = clear_at ns c (omega arith) (and_parts (clear n) (all_clear ns) e).1

pub clear-lacks : (s : List ℕ) → clear s ≡ true → Lacks 32 s × Lacks 41 s × (length s ≤ 4)
unfolding clear
clear-lacks s e =
    let space = and_parts (same_bytes (up_to 32 s) s) (same_bytes (up_to 41 s) s && leb (length s) 4) e in
    let bracket = and_parts (same_bytes (up_to 41 s) s) (leb (length s) 4) space.1 in
    (same-equal (up_to 32 s) s space.0, same-equal (up_to 41 s) s bracket.0, leb-true (length s) 4 bracket.1)

-- what is found from its own column on is that column
from_at : (c : ℕ) (x : Option ℕ) → from_column c x ≡ Some c → x ≡ Some c
from_at c (Some i) e = go (leb c i) e
  where
    go : (t : Bool) → cond t (Some i) None ≡ Some c → Some i ≡ Some c
    go true q = q
    go false q = absurd (none-some _ q)
from_at c None e = absurd (none-some _ e)

same_refl : (s : List ℕ) → same_bytes s s ≡ true
unfolding same_bytes
same_refl [] = refl
same_refl (b ∷ s) = rw (eq-eqb b b refl) (same_refl s)

module _ (names : List (List ℕ)) (plain : Plain names) (c : ℕ) (h : c < length names) where
  pub name-column : column_of names (get_or names c []) ≡ Some c
  name-column =
      from_at c (column_of names (get_or names c []))
      (sym (column-from c names (get_or names c []) plain.once)
      ∙ column-found names (get_or names c []) c c h (same_refl (get_or names c [])))

  -- ---- one column

  -- what stands before its closing bracket
  abbrev pub piece : ℕ → List ℕ
  piece n = ascii " (" ++ (get_or names c [] ++ (32 ∷ decimal n))

  lacks : Lacks 32 (get_or names c []) × Lacks 41 (get_or names c []) × (length (get_or names c []) ≤ 4)
  lacks = clear-lacks (get_or names c []) (clear_at names c h plain.cleared)

  piece-lacks : (n : ℕ) → Lacks 41 (piece n)
  unfolding up_to
  piece-lacks n =
      ap (λ (x : List ℕ). 32 ∷ (40 ∷ x))
      (lacks-append 41 (get_or names c []) (32 ∷ decimal n) lacks.1 (ap (λ (x : List ℕ). 32 ∷ x) (lacks-decimal 41 n (omega arith))))

  pub piece-read : (n : ℕ) → n ≤ largest → read_piece names (piece n) ≡ field c n
  unfolding read_piece read_field
  piece-read n k =
      ap₂ (λ (x y : List ℕ). field_of (column_of names x) (read_number y))
      (up_to-at 32 (get_or names c []) (decimal n) lacks.0) (behind-at 32 (get_or names c []) (decimal n) lacks.0)
      ∙ ap₂ field_of name-column (decimal-read n k)

  pub pieces-column : (n : ℕ) (s : List ℕ) → pieces 41 (column_text (get_or names c []) n ++ s) ≡ piece n ∷ pieces 41 s
  pieces-column n s = ap (pieces 41) (sym (piece-text (get_or names c []) n s)) ∙ pieces-at 41 (piece n) s (piece-lacks n)

-- ---- all columns

-- f holds the columns of v before c, and none behind
record Until (v : List ℕ) (c : ℕ) (f : Fields) : Type 0 where
  size : length f.columns ≡ 26
  before : (j : ℕ) → j < c → get_or f.columns j 0 ≡ get_or v j 0
  behind : (j : ℕ) → c ≤ j → get_or f.columns j 0 ≡ 0
  unseen : (j : ℕ) → c ≤ j → get_or f.seen j false ≡ false

-- f holds all of them
pub record Holds (v : List ℕ) (f : Fields) : Type 0 where
  pub size : length f.columns ≡ 26
  pub all : (j : ℕ) → get_or f.columns j 0 ≡ get_or v j 0

-- fields that are read, and hold all of them
pub record Filled (v : List ℕ) (r : Option Fields) : Type 0 where
  pub fields : Fields
  pub read : r ≡ Some fields
  pub holds : Holds v fields

-- a zero column more
until-zero : (v : List ℕ) (c : ℕ) (f : Fields) → get_or v c 0 ≡ 0 → Until v c f → Until v (c + 1) f
until-zero v c f z u =
    record {
      size = u.size;
      before = λ j h. go j h (leb c j) refl;
      behind = λ j h. u.behind j (omega arith);
      unseen = λ j h. u.unseen j (omega arith);
    }
  where
    go : (j : ℕ) → j < c + 1 → (t : Bool) → leb c j ≡ t → get_or f.columns j 0 ≡ get_or v j 0
    go j h true e =
        let q : c ≡ j = omega (arith, leb-true c j e) in
        u.behind j (leb-true c j e) ∙ sym (ap (λ (i : ℕ). get_or v i 0) (sym q) ∙ z)
    go j h false e = u.before j (leb-false c j e)

-- a column that is not zero
until-put : (v : List ℕ) (c : ℕ) (f : Fields) → c < 26 → Until v c f → Until v (c + 1) (put f c (get_or v c 0))
until-put v c f l u =
    record {
      size = length-set f.columns c (get_or v c 0) ∙ u.size;
      before = λ j h. go j h (eqb j c) refl;
      behind = λ j h. get_or-set_other f.columns c j (get_or v c 0) 0 (λ e. omega arith) ∙ u.behind j (omega arith);
      unseen = λ j h. get_or-set_other f.seen c j true false (λ e. omega arith) ∙ u.unseen j (omega arith);
    }
  where
    go : (j : ℕ) → j < c + 1 → (t : Bool) → eqb j c ≡ t → get_or (set f.columns c (get_or v c 0)) j 0 ≡ get_or v j 0
    go j h true e =
        let q = eqb-true j c e in
        ap (λ (i : ℕ). get_or (set f.columns c (get_or v c 0)) i 0) q
        ∙ get_or-set_same f.columns c (get_or v c 0) 0 (omega (arith, u.size))
        ∙ ap (λ (i : ℕ). get_or v i 0) (sym q)
    go j h false e =
        let other : j ≡ c → ⊥ = λ q. false≢true (sym e ∙ eq-eqb j c q) in
        get_or-set_other f.columns c j (get_or v c 0) 0 other ∙ u.before j (omega (arith, other))

-- the names from c on: the first of them, and the others
module _ (names : List (List ℕ)) (c : ℕ) (x : List ℕ) (ns : List (List ℕ)) (e : drop c names ≡ x ∷ ns) where
  names-inside : c < length names
  names-inside = omega (arith, ap length e, length-drop c names)

  split : get_or names c [] ∷ drop (suc c) names ≡ x ∷ ns
  split = sym (drop-cons names c [] names-inside) ∙ e

  names-first : x ≡ get_or names c []
  names-first = sym (ap (λ (l : List (List ℕ)). get_or l 0 []) split)

  names-rest : drop (c + 1) names ≡ ns
  names-rest = ap (λ (j : ℕ). drop j names) (add-one c) ∙ ap (drop 1) split

module _ (names : List (List ℕ)) (plain : Plain names) (v : List ℕ) (few : length v ≤ length names)
    (small : (j : ℕ) → get_or v j 0 ≤ largest) where
  until-all : (c : ℕ) (f : Fields) → length names ≤ c → Until v c f → Filled v (Some f)
  until-all c f h u = record { fields = f; read = refl; holds = record { size = u.size; all = λ j. go j (leb c j) refl } }
    where
      go : (j : ℕ) (t : Bool) → leb c j ≡ t → get_or f.columns j 0 ≡ get_or v j 0
      go j true e = u.behind j (leb-true c j e) ∙ sym (get_or-eq_default v 0 (omega (arith, leb-true c j e)))
      go j false e = u.before j (leb-false c j e)

  -- a field at c, where the next column is n and c is not before it
  left-field : (c n : ℕ) (f : Fields) (s : List ℕ) → c < length names → n ≤ c → Until v c f
      → left names n f (pieces 41 (column_text (get_or names c []) (get_or v c 0) ++ s))
      ≡ left names (c + 1) (put f c (get_or v c 0)) (pieces 41 s)
  left-field c n f s h l u =
      let k = get_or v c 0 in
      let x : field_from n (read_piece names (piece names plain c h k)) ≡ field c k =
      ap (field_from n) (piece-read names plain c h k (small c)) ∙ ap (λ t. cond t (field c k) None) (le-leb n c l) in
      let g : add_field f (field c k) ≡ Some (put f c k) = add-first f (field c k) (omega (arith, plain.few)) (u.unseen c (omega arith)) in
      ap (left names n f) (pieces-column names plain c h k s)
      ∙ left_step names n f (piece names plain c h k) (pieces 41 s) (pieces-some 41 s)
      ∙ ap (λ (y : Option Field). option_and_then (λ (z : Fields). left names (column_in y + 1) z (pieces 41 s)) (add_field f y)) x
      ∙ ap (option_and_then (λ (z : Fields). left names (c + 1) z (pieces 41 s))) g

  fields-left : (ns : List (List ℕ)) (c n : ℕ) (f : Fields) → drop c names ≡ ns → n ≤ c → Until v c f
      → Filled v (left names n f (pieces 41 (fields_from c ns v)))
  unfolding columns_from read_pieces pieces from_fields rises
  fields-left [] c n f e l u = until-all c f (omega (arith, ap length e, length-drop c names)) u
  fields-left (x ∷ ns) c n f e l u = go (eqb k 0) refl (λ m g. fields-left ns (c + 1) m g (names-rest names c x ns e))
    where
      k : ℕ
      k = get_or v c 0

      h : c < length names
      h = names-inside names c x ns e

      Further : Type 0
      Further = (m : ℕ) (g : Fields) → m ≤ c + 1 → Until v (c + 1) g → Filled v (left names m g (pieces 41 (fields_from (c + 1) ns v)))

      go : (t : Bool) → eqb k 0 ≡ t → Further → Filled v (left names n f (pieces 41 (column_or_none false x k ++ fields_from (c + 1) ns v)))
      go true q further =
          let z = eqb-true k 0 q in
          subst (λ (s : List ℕ). Filled v (left names n f (pieces 41 (s ++ fields_from (c + 1) ns v)))) (column-none false x k refl z)
          (further n f (omega arith) (until-zero v c f z u))
      go false q further =
          let text : column_text (get_or names c []) k ≡ column_or_none false x k =
          ap (λ (y : List ℕ). column_text y k) (sym (names-first names c x ns e))
          ∙ column-some false x k (λ z. false≢true (sym q ∙ eq-eqb k 0 z)) in
          subst (λ (s : List ℕ). Filled v (left names n f (pieces 41 (s ++ fields_from (c + 1) ns v)))) text
          (subst (Filled v) (sym (left-field c n f (fields_from (c + 1) ns v) h l u))
          (further (c + 1) (put f c k) (omega arith) (until-put v c f (omega (arith, plain.few, h)) u)))

  none-until : Until v 0 no_fields
  none-until =
      record {
        size = refl;
        before = λ j h. absurd (omega arith);
        behind = λ j h. same_at 26 j 0;
        unseen = λ j h. same_at 26 j false;
      }

  pub fields_read : Filled v (read_fields names (fields_text names v))
  fields_read = fields-left names 0 0 no_fields refl (omega arith) none-until

  -- ---- none of them is zero

  fields-first : (of : Option Field → ℕ) (p : List ℕ) (ps : List (List ℕ)) → 0 < length ps
      → from_fields of names (p ∷ ps) ≡ of (read_piece names p) ∷ from_fields of names ps
  unfolding from_fields
  fields-first of p [] h = absurd (omega arith)
  fields-first of p (q ∷ ps) h = refl

  no-zero-from : (ns : List (List ℕ)) (c : ℕ) → drop c names ≡ ns
      → none_zero (from_fields number_in names (pieces 41 (fields_from c ns v))) ≡ true
  unfolding columns_from pieces from_fields none_zero
  no-zero-from [] c e = refl
  no-zero-from (x ∷ ns) c e = go (eqb k 0) refl (no-zero-from ns (c + 1) (names-rest names c x ns e))
    where
      k : ℕ
      k = get_or v c 0

      h : c < length names
      h = names-inside names c x ns e

      rest : List ℕ
      rest = fields_from (c + 1) ns v

      Passed : List ℕ → Type 0
      Passed s = none_zero (from_fields number_in names (pieces 41 s)) ≡ true

      numbers : from_fields number_in names (pieces 41 (column_text (get_or names c []) k ++ rest))
          ≡ k ∷ from_fields number_in names (pieces 41 rest)
      numbers =
          ap (from_fields number_in names) (pieces-column names plain c h k rest)
          ∙ fields-first number_in (piece names plain c h k) (pieces 41 rest) (pieces-some 41 rest)
          ∙ ap (λ (y : Option Field). number_in y ∷ from_fields number_in names (pieces 41 rest)) (piece-read names plain c h k (small c))

      go : (t : Bool) → eqb k 0 ≡ t → Passed rest → Passed (column_or_none false x k ++ rest)
      go true q i = subst (λ (s : List ℕ). Passed (s ++ rest)) (column-none false x k refl (eqb-true k 0 q)) i
      go false q i =
          let text : column_text (get_or names c []) k ≡ column_or_none false x k =
          ap (λ (y : List ℕ). column_text y k) (sym (names-first names c x ns e))
          ∙ column-some false x k (λ z. false≢true (sym q ∙ eq-eqb k 0 z)) in
          subst (λ (s : List ℕ). Passed (s ++ rest)) text
          (ap none_zero numbers ∙ ap (λ t. not t && none_zero (from_fields number_in names (pieces 41 rest))) q ∙ i)

  pub fields-no-zero : fields_no_zero names (fields_text names v) ≡ true
  fields-no-zero = no-zero-from names 0 refl

-- ---- their bytes

-- they begin with a space
pub fields-start : (c : ℕ) (ns : List (List ℕ)) (v : List ℕ) → up_to 32 (fields_from c ns v) ≡ []
unfolding columns_from column_or_none column_text up_to
fields-start c [] v = refl
fields-start c (x ∷ ns) v = go (eqb (get_or v c 0) 0) (fields-start (c + 1) ns v)
  where
    go : (t : Bool) → up_to 32 (fields_from (c + 1) ns v) ≡ []
        → up_to 32 (cond t [] (column_text x (get_or v c 0)) ++ fields_from (c + 1) ns v) ≡ []
    go true e = e
    go false e = refl
