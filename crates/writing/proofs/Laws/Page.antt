-- Laws of text on a page. Assumes nothing.
--
--   wrote_then                 two writers, one behind the other, are one
--   wrote_same                 the bytes under another name
--   written                    what stands in the buffer itself
--   wrote-nothing              no bytes
--   told-room, told-then, told-all        a number behind its label, and all of them with the bracket
--   column-all, column-some, column-none  a column that is written, and one that is left away
--   columns-then, columns-all             one column more, and all of them
use mathlib.Core.Bool.{Bool, true, false, not, false≢true, and-false}
use mathlib.Core.List.{List, [], ◌∷◌, ◌++◌, append_assoc, append-nil}
use mathlib.Core.Path.{◌≡◌, refl, sym, ap, subst, ◌∙◌}
use Prim.Native.Nat.{ℕ, zero, suc, ◌+◌, ◌*◌, ◌≤◌, ◌<◌}
use native.Mathlib.Nat.{add-zero, zero-add}
use native.Mathlib.Numerals.{add-one}
use native.Mathlib.Omega.{arith}
use lib.Dec.{leb}
use lib.ListN.{length, length-map, take, get_or}
use borrow.Author.Tests.{ne_eqb, leb-true}
use Rattle.std.specs.Borrow.{Bor}
use Rattle.std.specs.List.{flat_map}
use Rattle.std.proofs.lemmas.List.{get_or-map}
use Rattle.std.proofs.lemmas.List.Folds.{list_all_at}
use Rattle.reading.specs.Text.{ascii}
use Rattle.reading.specs.Names.{unpadded, unpadded_all}
use lib.Seq.{take_all}
use Rattle.writing.specs.declared.page.Page.{Page}
use Rattle.writing.specs.Page.{HasRoom, Wrote, parts_of, AllShort}
use Rattle.writing.specs.Answer.{labelled, told_text, column_text, column_or_none, columns_from, columns_text}
use Rattle.writing.specs.Buffer.{Put}
use Rattle.writing.proofs.Laws.Buffer.{put_then, put-nothing}

module _ {p q : Page} {s t : List ℕ} where
  pub wrote_then : {r : Page} → Wrote p s q → Wrote q t r → r.at ≤ length p.bytes.now → Wrote p (s ++ t) r
  wrote_then a b h = record { same = b.same ∙ a.same; put = put_then a.put b.put h; room = b.room ∙ a.room }

  pub wrote_same : s ≡ t → Wrote p s q → Wrote p t q
  wrote_same e a = subst (λ (x : List ℕ). Wrote p x q) e a

pub written : {p q : Page} {s e : List ℕ} → e ≡ q.bytes.now → Wrote p s q → Put p.bytes.now p.at s q.at e
written {p} {q} {s} last a = subst (λ (x : List ℕ). Put p.bytes.now p.at s q.at x) (sym last) a.put

pub wrote-nothing : (p : Page) → Wrote p [] p
wrote-nothing p = record { same = refl; put = put-nothing p.bytes.now p.at; room = refl }

-- ---- numbers behind their labels

-- without the bracket
abbrev pub labels : List (List ℕ × ℕ) → List ℕ
labels ps = flat_map (λ (p : List ℕ × ℕ). labelled p.0 p.1) ps

labels-last : (i : ℕ) (ps : List (Bor (List ℕ) × ℕ)) (d : Bor (List ℕ) × ℕ) → i < length ps
    → labels (take (suc i) (parts_of ps)) ≡ labels (take i (parts_of ps)) ++ labelled (get_or ps i d).0.now (get_or ps i d).1
labels-last i [] d h = absurd (omega arith)
labels-last zero (p ∷ ps) d h = append-nil (labelled p.0.now p.1)
labels-last (suc i) (p ∷ ps) d h =
    ap (λ (s : List ℕ). labelled p.0.now p.1 ++ s) (labels-last i ps d (omega arith))
    ∙ sym (append_assoc (labelled p.0.now p.1) (labels (take i (parts_of ps))) (labelled (get_or ps i d).0.now (get_or ps i d).1))

labels-all : (ps : List (List ℕ × ℕ)) → labels ps ++ ascii ")" ≡ told_text ps
unfolding told_text
labels-all [] = refl
labels-all (p ∷ ps) = append_assoc (labelled p.0 p.1) (labels ps) (ascii ")") ∙ ap (λ (s : List ℕ). labelled p.0 p.1 ++ s) (labels-all ps)

-- all of them, and the bracket
pub told-all : {p q r : Page} (i : ℕ) (ps : List (Bor (List ℕ) × ℕ)) → length ps ≤ i
    → Wrote p (labels (take i (parts_of ps))) q → Wrote q (ascii ")") r → r.at ≤ length p.bytes.now → Wrote p (told_text (parts_of ps)) r
told-all i ps l a b h =
    let many = length-map {B = List ℕ × ℕ} ps (λ p. (p.0.now, p.1)) in
    wrote_same (ap (λ (x : List (List ℕ × ℕ)). labels x ++ ascii ")") (take_all i (parts_of ps) (omega (arith, many)))
    ∙ labels-all (parts_of ps)) (wrote_then a b h)

label-short : (i : ℕ) (ps : List (Bor (List ℕ) × ℕ)) (d : Bor (List ℕ) × ℕ) → AllShort ps → i < length ps
    → length (get_or ps i d).0.now ≤ 20
label-short i ps d h l = go (leb (length (get_or ps i d).0.now) 20) refl
  where
    go : (b : Bool) → leb (length (get_or ps i d).0.now) 20 ≡ b → length (get_or ps i d).0.now ≤ 20
    go true e = leb-true (length (get_or ps i d).0.now) 20 e
    go false e = absurd (false≢true (sym (list_all_at (λ (p : Bor (List ℕ) × ℕ). leb (length p.0.now) 20) ps i d l e) ∙ h))

module _ (i : ℕ) (ps : List (Bor (List ℕ) × ℕ)) (d : Bor (List ℕ) × ℕ) where
  -- there is room for one number more
  pub told-room : (q : Page) → AllShort ps → i < length ps → HasRoom q 40 → HasRoom q (length (get_or ps i d).0.now + 20)
  told-room q h l room = omega (arith, label-short i ps d h l, room)

  -- one number more
  pub told-then : {p q r : Page} → AllShort ps → i < length ps → HasRoom p (40 * length ps)
      → (q.at ≤ p.at + 40 * i) × Wrote p (labels (take i (parts_of ps))) q
      → Wrote q (labelled (get_or ps i d).0.now (get_or ps i d).1) r × (r.at ≤ q.at + (length (get_or ps i d).0.now + 20))
      → (r.at ≤ p.at + 40 * (i + 1)) × Wrote p (labels (take (i + 1) (parts_of ps))) r
  told-then {p} {q} {r} h l room a b =
      let short = label-short i ps d h l in
      let within : r.at ≤ p.at + 40 * (i + 1) = omega (arith, short, a.0, b.1) in (
        within,
        wrote_same (sym (labels-last i ps d l) ∙ ap (λ (j : ℕ). labels (take j (parts_of ps))) (sym (add-one i)))
            (wrote_then a.1 b.0 (omega (arith, within, room, l))),
      )

-- ---- columns

module _ (z : Bool) (name : List ℕ) (n : ℕ) where
  pub column-all : z ≡ true → column_text name n ≡ column_or_none z name n
  unfolding column_or_none
  column-all e = rw e

  pub column-some : (n ≡ 0 → ⊥) → column_text name n ≡ column_or_none z name n
  unfolding column_or_none
  column-some e = rw (ne_eqb n 0 e, and-false (not z))

  pub column-none : z ≡ false → n ≡ 0 → [] ≡ column_or_none z name n
  unfolding column_or_none
  column-none e o = rw (e, o)

columns-last : (z : Bool) (k c : ℕ) (names : List (List ℕ)) (v : List ℕ) → k < length names
    → columns_from z c (take (suc k) names) v
    ≡ columns_from z c (take k names) v ++ column_or_none z (get_or names k []) (get_or v (c + k) 0)
unfolding columns_from
columns-last z k c [] v h = absurd (omega arith)
columns-last z zero c (n ∷ ns) v h =
    append-nil (column_or_none z n (get_or v c 0)) ∙ ap (λ (j : ℕ). column_or_none z n (get_or v j 0)) (sym (add-zero c))
columns-last z (suc k) c (n ∷ ns) v h =
    ap (λ (s : List ℕ). column_or_none z n (get_or v c 0) ++ s)
    (columns-last z k (c + 1) ns v (omega arith)
    ∙ ap (λ (j : ℕ). columns_from z (c + 1) (take k ns) v ++ column_or_none z (get_or ns k []) (get_or v j 0)) place)
    ∙ sym (append_assoc (column_or_none z n (get_or v c 0)) (columns_from z (c + 1) (take k ns) v)
    (column_or_none z (get_or ns k []) (get_or v (c + suc k) 0)))
  where
    place : c + 1 + k ≡ c + suc k
    place = omega arith

-- of a table of names
module _ {p q : Page} (z : Bool) (table : List (List ℕ)) (c : ℕ) (v : List ℕ) where
  -- one column more
  pub columns-then : {r : Page} → c < length table → Wrote p (columns_text z (take c (unpadded_all table)) v) q
      → Wrote q (column_or_none z (unpadded (get_or table c [])) (get_or v c 0)) r → r.at ≤ length p.bytes.now
      → Wrote p (columns_text z (take (c + 1) (unpadded_all table)) v) r
  columns-then l a b h =
      let names = unpadded_all table in
      let many = length-map table unpadded in
      let more : columns_text z (take c names) v ++ column_or_none z (unpadded (get_or table c [])) (get_or v c 0)
      ≡ columns_text z (take (suc c) names) v =
      ap (λ (n : List ℕ). columns_text z (take c names) v ++ column_or_none z n (get_or v c 0)) (sym (get_or-map unpadded table c [] [] l))
      ∙ ap (λ (j : ℕ). columns_text z (take c names) v ++ column_or_none z (get_or names c []) (get_or v j 0)) (sym (zero-add c))
      ∙ sym (columns-last z c 0 names v (omega (arith, many, l))) in
      wrote_same (more ∙ ap (λ (j : ℕ). columns_text z (take j names) v) (sym (add-one c))) (wrote_then a b h)

  -- all of them
  pub columns-all : length table ≤ c → Wrote p (columns_text z (take c (unpadded_all table)) v) q
      → Wrote p (columns_text z (unpadded_all table) v) q
  columns-all h a =
      let many = length-map table unpadded in
      wrote_same (ap (λ (ns : List (List ℕ)). columns_text z ns v) (take_all c (unpadded_all table) (omega (arith, many, h)))) a
