-- Laws of whole lines. Assumes nothing.
--
--   brackets-short, brackets-long, brackets-open, brackets-close,  the test of the brackets
--   brackets-both
--   brackets-two                                                   what is inside them begins behind the first byte
--   call_none, call-form                                           the form of a call in its brackets, by that test
--   preview-word, preview-brackets, preview-ten                    the test of a preview
--   line-preview, line-call, line-none, line-long                  a whole line
--   preview-form-law                                               PreviewFormLaw
--   order-law                                                      OrderLaw
use mathlib.Core.Bool.{Bool, true, false, cond, ◌&&◌, and-false, false≢true}
use mathlib.Core.List.{List, [], ◌∷◌, ◌++◌}
use mathlib.Core.Path.{◌≡◌, refl, sym, ap, ◌∙◌}
use Prim.Native.Nat.{ℕ, ◌+◌, ◌-◌, ◌≤◌, ◌<◌}
use native.Mathlib.Omega.{arith}
use lib.ListN.{length, take, drop, get_or, length-append, take-append-drop}
use lib.Seq.{get_or_at, take_at, take-append-add}
use borrow.Author.Tests.{eq-eqb, ne_eqb, le-leb, lt-leb, leb-true}
use Rattle.std.proofs.lemmas.Bool.{and_parts}
use Rattle.std.proofs.Common.{Option, Some, None}
use Rattle.reading.specs.declared.names.Vector.TheVariants.{Sludge, Digester}
use Rattle.reading.specs.declared.fields.Fields.{Fields}
use Rattle.reading.specs.declared.form.Asked.{Asked}
use Rattle.reading.specs.Text.{ascii, same_bytes, look_up, up_to, behind}
use Rattle.reading.specs.Number.{read_number}
use Rattle.reading.specs.Names.{names_of}
use Rattle.reading.specs.Form.{any_fields, in_order, read_fields, no_form, receive_line, settle_line, accept_line, number_line}
use Rattle.reading.specs.Form.{paired, numbered_by, fields_part, form_of, form_by}
use Rattle.reading.specs.Line.{in_brackets, inner, call_by, preview_line, is_preview, form_in, read_line}
use Rattle.reading.specs.Line.{bracketed, preview_text, PreviewFormLaw, form_passes, call_passes, OrderLaw}
use Rattle.reading.proofs.Laws.Text.{same-equal}
use Rattle.reading.proofs.Laws.Form.{cond-swap}

-- ---- brackets

module _ (s : List ℕ) where
  pub brackets-short : length s < 2 → false ≡ in_brackets s
  unfolding in_brackets
  brackets-short h = simp (lt-leb 2 (length s) h)

  pub brackets-long : 1024 < length s → false ≡ in_brackets s
  unfolding in_brackets
  brackets-long h = simp (lt-leb (length s) 1024 h, and-false)

  pub brackets-open : (get_or s 0 0 ≡ 40 → ⊥) → false ≡ in_brackets s
  unfolding in_brackets
  brackets-open h = simp (ne_eqb (get_or s 0 0) 40 h, and-false)

  pub brackets-close : (get_or s (length s - 1) 0 ≡ 41 → ⊥) → false ≡ in_brackets s
  unfolding in_brackets
  brackets-close h = simp (ne_eqb (get_or s (length s - 1) 0) 41 h, and-false)

  pub brackets-both : 2 ≤ length s → length s ≤ 1024 → get_or s 0 0 ≡ 40 → get_or s (length s - 1) 0 ≡ 41 → true ≡ in_brackets s
  unfolding in_brackets
  brackets-both h k a b =
      simp (
        le-leb 2 (length s) h,
        le-leb (length s) 1024 k,
        eq-eqb (get_or s 0 0) 40 a,
        eq-eqb (get_or s (length s - 1) 0) 41 b,
      )

  pub brackets-two : in_brackets s ≡ true → 2 ≤ length s
  unfolding in_brackets
  brackets-two e = leb-true 2 (length s) (and_parts _ _ (and_parts _ _ (and_parts _ _ e).0).0).0

  -- ---- calls

  pub call_none : in_brackets s ≡ false → no_form ≡ call_by read_fields s
  unfolding call_by
  call_none h = rw h

  pub call-form : in_brackets s ≡ true → form_by read_fields (inner s) ≡ call_by read_fields s
  unfolding call_by
  call-form h = rw h

-- ---- the test of a preview

module _ (s : List ℕ) where
  pub preview-word : same_bytes (take 9 s) (ascii "(preview ") ≡ false → false ≡ is_preview s
  unfolding is_preview
  preview-word e = simp (e, and-false)

  pub preview-brackets : same_bytes (take 9 s) (ascii "(preview ") ≡ true → in_brackets s ≡ is_preview s
  unfolding is_preview
  preview-brackets e = go (in_brackets s)
    where
      go : (b : Bool) → b ≡ (b && same_bytes (take 9 s) (ascii "(preview "))
      go true = sym e
      go false = refl

  pub preview-split : is_preview s ≡ true → s ≡ ascii "(preview " ++ drop 9 s
  unfolding is_preview
  preview-split e =
      sym (take-append-drop 9 s)
      ∙ ap (λ (w : List ℕ). w ++ drop 9 s) (same-equal (take 9 s) (ascii "(preview ") (and_parts (in_brackets s) _ e).1)

  -- a bracket follows, so that there is a byte behind the space
  pub preview-ten : is_preview s ≡ true → 10 ≤ length s
  unfolding is_preview in_brackets
  preview-ten e = go (drop 9 s) (preview-split e) (and_parts (in_brackets s) _ e).0
    where
      go : (x : List ℕ) → s ≡ ascii "(preview " ++ x → in_brackets s ≡ true → 10 ≤ length s
      go [] q i = absurd (false≢true (ap in_brackets (sym q) ∙ i))
      go (y ∷ ys) q i = omega (arith, ap length q)

-- ---- a whole line

module _ (s : List ℕ) where
  pub line-preview : is_preview s ≡ true → preview_line (call_by read_fields (form_in s)) ≡ read_line s
  unfolding read_line
  line-preview h = rw h

  pub line-call : is_preview s ≡ false → call_by read_fields s ≡ read_line s
  unfolding read_line
  line-call h = rw h

  -- b tells whether it is a preview
  pub line-none : (b : Bool) → is_preview s ≡ b → None ≡ call_by read_fields (cond b (form_in s) s) → None ≡ read_line s
  line-none true e q = ap preview_line q ∙ line-preview e
  line-none false e q = q ∙ line-call e

  pub line-long : 1024 < length s → no_form ≡ read_line s
  unfolding is_preview
  line-long h =
      call_none s (sym (brackets-long s h))
      ∙ line-call (ap (λ (b : Bool). b && same_bytes (take 9 s) (ascii "(preview ")) (sym (brackets-long s h)))

-- ---- a preview in the place of a line

pub brackets-around : (t : List ℕ) → length (bracketed t) ≤ 1024 → in_brackets (bracketed t) ≡ true
unfolding in_brackets
brackets-around t h =
    let n = length-append t (41 ∷ []) in
    simp (
      le-leb 2 (length (bracketed t)) (omega (arith, n)),
      le-leb (length (bracketed t)) 1024 h,
      eq-eqb (get_or (bracketed t) (length (bracketed t) - 1) 0) 41
          (get_or_at (40 ∷ t) 41 [] 0 (length (bracketed t) - 1) (omega (arith, n))),
    )

pub preview-around : (u : List ℕ) → length (preview_text u) ≤ 1024 → is_preview (preview_text u) ≡ true
unfolding is_preview same_bytes
preview-around u h = ap (λ (b : Bool). b && true) (brackets-around (ascii "preview " ++ u) h)

pub form-around : (u : List ℕ) → form_in (preview_text u) ≡ u
form-around u = take_at u (41 ∷ []) (length (preview_text u) - 1 - 9) (omega (arith, length-append u (41 ∷ [])))

-- the word preview is no call's
word-preview : (z : List ℕ) → form_by read_fields (ascii "preview " ++ z) ≡ no_form
unfolding form_of up_to behind same_bytes look_up
word-preview z = go (read_number z)
  where
    go : (n : Option ℕ) → number_line (ascii "preview") n ≡ no_form
    go (Some k) = refl
    go None = refl

inner-preview : (y : ℕ) (ys : List ℕ) → inner (ascii "(preview " ++ (y ∷ ys)) ≡ ascii "preview " ++ take (length ys) (y ∷ ys)
inner-preview y ys =
    let n : length (ascii "(preview " ++ (y ∷ ys)) - 1 - 1 ≡ length (ascii "preview ") + length ys = omega arith in
    ap (λ (k : ℕ). take k (ascii "preview " ++ (y ∷ ys))) n ∙ take-append-add (ascii "preview ") (y ∷ ys) (length ys)

-- a preview is no call's form
call-preview : (u : List ℕ) → is_preview u ≡ true → call_by read_fields u ≡ no_form
unfolding call_by in_brackets
call-preview u e = go (drop 9 u) (preview-split u e)
  where
    either : (b : Bool) (l : Option Asked) → l ≡ no_form → cond b l no_form ≡ no_form
    either true l q = q
    either false l q = refl

    go : (x : List ℕ) → u ≡ ascii "(preview " ++ x → call_by read_fields u ≡ no_form
    go [] q = ap (call_by read_fields) q
    go (y ∷ ys) q =
        either (in_brackets u) _ (ap (form_by read_fields) (ap inner q ∙ inner-preview y ys) ∙ word-preview (take (length ys) (y ∷ ys)))

preview-twice : (l : Option Asked) → preview_line (preview_line l) ≡ no_form
preview-twice None = refl
preview-twice (Some a) = go a.preview
  where
    go : (b : Bool) → preview_line (cond b no_form (Some (record { request = a.request; preview = true }))) ≡ no_form
    go true = refl
    go false = refl

-- a call by itself, and as a line
call_line : (u : List ℕ) → preview_line (call_by read_fields u) ≡ preview_line (read_line u)
unfolding read_line
call_line u = go (is_preview u) refl
  where
    go : (b : Bool) → is_preview u ≡ b
        → preview_line (call_by read_fields u)
        ≡ preview_line (cond b (preview_line (call_by read_fields (form_in u))) (call_by read_fields u))
    go true e = ap preview_line (call-preview u e) ∙ sym (preview-twice (call_by read_fields (form_in u)))
    go false e = refl

pub preview-form-law : PreviewFormLaw
preview-form-law u h =
    sym (line-preview (preview_text u) (preview-around u h))
    ∙ ap (λ (x : List ℕ). preview_line (call_by read_fields x)) (form-around u)
    ∙ call_line u

-- ---- the order of the fields

-- a line of what is read only where it is in order
line-when : {A : Type 0} (line : Option A → Option Asked) → line None ≡ no_form → (b : Bool) (x : Option A)
    → line (cond b x None) ≡ cond b (line x) no_form
line-when line none true x = refl
line-when line none false x = none

paired-when : (n : Option ℕ) (b : Bool) (f : Option Fields) → paired n (cond b f None) ≡ cond b (paired n f) None
paired-when n true f = refl
paired-when (Some n) false f = refl
paired-when None false f = refl

-- a number, and fields behind it
numbered-when : (line : Option (ℕ × Fields) → Option Asked) → line None ≡ no_form → (names : List (List ℕ)) (u : List ℕ)
    → line (numbered_by read_fields names u) ≡ cond (in_order names (fields_part u)) (line (numbered_by any_fields names u)) no_form
unfolding numbered_by
numbered-when line none names u =
    let n = read_number (up_to 32 u) in
    let b = in_order names (fields_part u) in
    let f = any_fields names (fields_part u) in
    ap line (paired-when n b f) ∙ line-when line none b (paired n f)

-- the four kinds of form: with the tests of their words as they are
form-ordered : (w t : List ℕ) → form_of read_fields w t ≡ cond (form_passes in_order w t) (form_of any_fields w t) no_form
unfolding form_of form_passes
form-ordered w t = go (same_bytes w (ascii "receive")) (same_bytes w (ascii "settle")) (same_bytes w (ascii "accept"))
  where
    go : (a b c : Bool)
        → cond a (receive_line (read_fields (names_of Sludge) (drop (length w) t)))
        (cond b (settle_line (numbered_by read_fields (names_of Digester) (behind 32 t)))
        (cond c (accept_line (numbered_by read_fields (names_of Sludge) (behind 32 t))) (number_line w (read_number (behind 32 t)))))
        ≡ cond
        (cond a (in_order (names_of Sludge) (drop (length w) t))
        (cond b (in_order (names_of Digester) (fields_part (behind 32 t)))
        (cond c (in_order (names_of Sludge) (fields_part (behind 32 t))) true)))
        (cond a (receive_line (any_fields (names_of Sludge) (drop (length w) t)))
        (cond b (settle_line (numbered_by any_fields (names_of Digester) (behind 32 t)))
        (cond c (accept_line (numbered_by any_fields (names_of Sludge) (behind 32 t))) (number_line w (read_number (behind 32 t))))))
        no_form
    go true b c =
        line-when receive_line refl (in_order (names_of Sludge) (drop (length w) t)) (any_fields (names_of Sludge) (drop (length w) t))
    go false true c = numbered-when settle_line refl (names_of Digester) (behind 32 t)
    go false false true = numbered-when accept_line refl (names_of Sludge) (behind 32 t)
    go false false false = refl

call-ordered : (u : List ℕ) → call_by read_fields u ≡ cond (call_passes in_order u) (call_by any_fields u) no_form
unfolding call_by
call-ordered u =
    ap (λ (l : Option Asked). cond (in_brackets u) l no_form) (form-ordered (up_to 32 (inner u)) (inner u))
    ∙ cond-swap (in_brackets u) (call_passes in_order u) (form_by any_fields (inner u)) no_form

preview-when : (b : Bool) (l : Option Asked) → preview_line (cond b l no_form) ≡ cond b (preview_line l) no_form
preview-when true l = refl
preview-when false l = refl

pub order-law : OrderLaw
unfolding read_line
order-law s = go (is_preview s)
  where
    go : (b : Bool)
        → cond b (preview_line (call_by read_fields (form_in s))) (call_by read_fields s)
        ≡ cond (cond b (call_passes in_order (form_in s)) (call_passes in_order s))
        (cond b (preview_line (call_by any_fields (form_in s))) (call_by any_fields s))
        no_form
    go true =
        ap preview_line (call-ordered (form_in s)) ∙ preview-when (call_passes in_order (form_in s)) (call_by any_fields (form_in s))
    go false = call-ordered s
