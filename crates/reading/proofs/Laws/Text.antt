-- Laws of bytes: comparing, searching, cutting. Assumes nothing.
--
--   same-..                                                          comparing two byte strings
--   look-found, look-further                                         a word of a table: it is the first, or a further one
--   up_to-first, behind-first, pieces-split                          searching and cutting in the library's words
--   place-up, up-first, up-end                                       the library's search for the first b
--   places-first, places-end                                         its search for each b
--   up_to-take, up_to-place, up_to-length, behind-next, behind-strip what a search has found, by its place
--   pieces-cut, pieces-last, pieces-some                             cutting behind each b
use mathlib.Core.Bool.{Bool, true, false, cond, not}
use mathlib.Core.List.{List, [], ◌∷◌}
use mathlib.Core.Path.{◌≡◌, refl, sym, ap, ap₂, ◌∙◌}
use Prim.Native.Nat.{ℕ, zero, suc, ◌+◌, ◌-◌, ◌≤◌, ◌<◌}
use native.Mathlib.Omega.{arith}
use lib.Dec.{eqb}
use lib.ListN.{length, take, drop, get_or, drop_of_length-le}
use lib.Seq.{drop-drop}
use Rattle.std.specs.List.{position_or_len, before_first, after_first, slice_split, onto_first}
use Rattle.std.specs.Cmp.Lexicographic.{pointwise}
use Rattle.std.specs.Bool.{Decides}
use Rattle.std.specs.Option.{unwrap_or, MatchOption}
use Rattle.std.proofs.Common.{Option, Some, None, Bor}
use Rattle.std.proofs.lemmas.Bool.{false_from_ne_true}
use Rattle.std.proofs.lemmas.Bool.Decides.{same_from_decides}
use Rattle.std.proofs.lemmas.List.{drop_more}
use Rattle.std.proofs.lemmas.List.Folds.{length-prefix_len}
use Rattle.std.proofs.lemmas.List.Recursion.{same_from_clauses}
use Rattle.std.proofs.lemmas.List.Splits.{slice_split_first, slice_split_none, length-slice_split}
use Rattle.std.proofs.lemmas.List.Sums.{position_or_len_is, fails_before_first, prefix_len-le-length, take_while-cons}
use Rattle.std.proofs.lemmas.Slice.Eq.{bytes_eq-Decides, compares_Decides}
use Rattle.memchr.specs.Find.{IsFirstByte, is_byte, places_from, places_between}
use Rattle.reading.specs.Text.{ascii, same_bytes, Word, look_up, up_to, behind, on_first, pieces}

-- ---- comparing

-- the test decides whether they are the same
pub same-decides : (s t : List ℕ) → Decides (same_bytes s t) (s ≡ t)
unfolding same_bytes
same-decides =
    compares_Decides same_bytes
    (record { empty = refl; shorter = λ b t. refl; longer = λ a s. refl; heads = λ a b s t. refl })

-- what is tested as the same is the same
pub same-equal : (s t : List ℕ) → same_bytes s t ≡ true → s ≡ t
same-equal s t = (same-decides s t).0

-- the library's test of two slices is the same
pub same-pointwise : (s t : List ℕ) → pointwise eqb s t ≡ same_bytes s t
same-pointwise s t = same_from_decides _ _ (bytes_eq-Decides s t) (same-decides s t)

-- and with the sides the other way round, as its test of a beginning has them
pub same-swapped : (s t : List ℕ) → pointwise eqb s t ≡ same_bytes t s
same-swapped s t = let d = same-decides t s in same_from_decides _ _ (bytes_eq-Decides s t) ((λ e. sym (d.0 e)), λ e. d.1 (sym e))

-- what it said of them, where t stands for u
pub same-is : (s : List ℕ) {t u : List ℕ} {r b : Bool} → t ≡ u → r ≡ pointwise eqb s t → r ≡ b → same_bytes s u ≡ b
same-is s {t} q e h = ap (same_bytes s) (sym q) ∙ sym (same-pointwise s t) ∙ sym e ∙ h

-- ---- looking a word up

module _ {A : Type 0} (d : A) (r : Word A) (rs : List (Word A)) (w : List ℕ) where
  pub look-found : same_bytes w (ascii r.word) ≡ true → r.meaning ≡ look_up d (r ∷ rs) w
  unfolding look_up
  look-found h = rw h

  pub look-further : {x : A} → same_bytes w (ascii r.word) ≡ false → x ≡ look_up d rs w → x ≡ look_up d (r ∷ rs) w
  unfolding look_up
  look-further h e = rw h e

-- ---- the library's words

-- what stands before the first b
pub up_to-first : (b : ℕ) (s : List ℕ) → up_to b s ≡ before_first (is_byte b) s
unfolding up_to
up_to-first b =
    same_from_clauses (up_to b) (before_first (is_byte b)) (λ c u. cond (eqb c b) [] (c ∷ u)) refl (λ c s. refl)
    (λ c s. grind (arith, take_while-cons (λ x. not (is_byte b x)) c s))

-- what stands behind it
pub behind-first : (b : ℕ) (s : List ℕ) → behind b s ≡ after_first (is_byte b) s
unfolding behind
behind-first b [] = refl
behind-first b (c ∷ s) = grind (arith, behind-first b s)

onto-first : (c : ℕ) (ps : List (List ℕ)) → onto_first c ps ≡ on_first c ps
unfolding on_first
onto-first c [] = refl
onto-first c (p ∷ ps) = refl

-- the pieces are the parts of a split
pub pieces-split : (b : ℕ) (s : List ℕ) → pieces b s ≡ slice_split (is_byte b) s
unfolding pieces
pieces-split b =
    same_from_clauses (pieces b) (slice_split (is_byte b)) (λ c ps. cond (eqb c b) ([] ∷ ps) (on_first c ps)) refl (λ c s. refl)
    (λ c s. ap (cond (eqb c b) ([] ∷ slice_split (is_byte b) s)) (onto-first c (slice_split (is_byte b) s)))

-- ---- searching

-- the library's search for b, which stops at the end where there is none, goes over the bytes before the first b
pub place-up : (b : ℕ) (s : List ℕ) → position_or_len (is_byte b) s ≡ length (up_to b s)
place-up b s = sym (ap length (up_to-first b s) ∙ length-prefix_len (λ c. not (is_byte b c)) s)

-- what memchr gives: the place of the first b, or none, which stands for the end
pub up-first : (b : ℕ) (s : List ℕ) (r : Option ℕ) → IsFirstByte (is_byte b) s r → unwrap_or r (length s) ≡ length (up_to b s)
up-first b s (Some i) h =
    let before = λ (k : ℕ) (l : k < i). false_from_ne_true _ (h.0.before k (omega arith) l) in
    sym (position_or_len_is (is_byte b) s i 0 (omega (arith, h.0.high)) before (λ l. h.1)) ∙ place-up b s
up-first b s None h =
    let before = λ (k : ℕ) (l : k < length s). false_from_ne_true _ (h k (omega arith) l) in
    sym (position_or_len_is (is_byte b) s (length s) 0 (omega arith) before (λ l. absurd (omega arith))) ∙ place-up b s

pub up-end : (b : ℕ) (s : List ℕ) (i : ℕ) → length s ≤ i → length (up_to b (drop i s)) ≡ 0
unfolding up_to
up-end b s i h = simp (drop_of_length-le s h)

pub up_to-take : (b : ℕ) (s : List ℕ) → take (length (up_to b s)) s ≡ up_to b s
up_to-take b s = ap (λ (k : ℕ). take k s) (sym (place-up b s)) ∙ sym (up_to-first b s)

-- the same, where k is the place that was found
pub up_to-place : (b : ℕ) (s : List ℕ) (k : ℕ) → k ≡ length (up_to b s) → take k s ≡ up_to b s
up_to-place b s k e = ap (λ (j : ℕ). take j s) e ∙ up_to-take b s

pub up_to-length : (b : ℕ) (s : List ℕ) → length (up_to b s) ≤ length s
up_to-length b s = omega (arith, place-up b s, prefix_len-le-length (λ c. not (is_byte b c)) s)

-- what stands behind it, by the place k of the first b: nothing behind the end
pub behind-next : (b : ℕ) (s : List ℕ) (k : ℕ) → k ≡ length (up_to b s) → drop (k + 1) s ≡ behind b s
behind-next b s k e =
    let at : k ≡ position_or_len (is_byte b) s = omega (arith, e, place-up b s) in
    ap (λ (j : ℕ). drop (j + 1) s) at ∙ sym (behind-first b s)

-- the same by stripping b from what stands from k on
unstripped : (b : ℕ) (s : List ℕ) → pointwise eqb (take 1 (drop (length (up_to b s)) s)) (b ∷ []) ≡ false
    → drop (length (up_to b s)) s ≡ behind b s
unfolding up_to behind
unstripped b [] h = refl
unstripped b (c ∷ s) h = grind (arith, h, unstripped b s)

pub behind-strip : (b : ℕ) (s : List ℕ) (k : ℕ) (u rest : Bor (List ℕ)) (r : Option (Bor (List ℕ)))
    → k ≡ length (up_to b s)
    → u ≡ unwrap_or r rest
    → rest.now ≡ drop k s
    → MatchOption r (pointwise eqb (take 1 rest.now) (b ∷ []) ≡ false)
    (λ x. (pointwise eqb (take 1 rest.now) (b ∷ []) ≡ true) × (x.now ≡ drop 1 rest.now) × (length x.now + 1 ≡ length rest.now))
    → u.now ≡ behind b s
behind-strip b s k u rest (Some x) e p q h =
    ap (λ (x : Bor (List ℕ)). x.now) p ∙ h.1 ∙ ap (drop 1) q ∙ drop-drop 1 k s ∙ behind-next b s k e
behind-strip b s k u rest None e p q h =
    let at = q ∙ ap (λ (j : ℕ). drop j s) e in
    ap (λ (x : Bor (List ℕ)). x.now) p ∙ at ∙ unstripped b s (ap (λ (t : List ℕ). pointwise eqb (take 1 t) (b ∷ [])) (sym at) ∙ h)

-- ---- the places of each b, by the library's memchr_iter

module _ (b : ℕ) (s : List ℕ) where
  up-here : (i : ℕ) → i < length s → is_byte b (get_or s i 0) ≡ true → length (up_to b (drop i s)) ≡ 0
  unfolding up_to
  up-here i l h = simp (drop_more s i 0 l, h)

  up-past : (i : ℕ) → i < length s → is_byte b (get_or s i 0) ≡ false
      → length (up_to b (drop i s)) ≡ suc (length (up_to b (drop (i + 1) s)))
  unfolding up_to
  up-past i l h = simp (drop_more s i 0 l, h)

  -- of the places in the n bytes from i on, the first is that of the first b, and the others stand behind it
  pub places-first : (n i e : ℕ) (es : List ℕ) → i + n ≡ length s → places_from (is_byte b) s i n ≡ e ∷ es
      → (e ≡ i + length (up_to b (drop i s))) × (e < length s) × (es ≡ places_between (is_byte b) s (e + 1) (length s))
  unfolding places_from
  places-first zero i e es q p = absurd (omega (arith, ap length p))
  places-first (suc n) i e es q p = go (is_byte b (get_or s i 0)) refl p (places-first n (i + 1) e es (omega (arith, q)))
    where
      go : (t : Bool) → is_byte b (get_or s i 0) ≡ t
          → cond t (i ∷ places_from (is_byte b) s (i + 1) n) (places_from (is_byte b) s (i + 1) n) ≡ e ∷ es
          → (places_from (is_byte b) s (i + 1) n ≡ e ∷ es
          → (e ≡ i + 1 + length (up_to b (drop (i + 1) s))) × (e < length s) × (es ≡ places_between (is_byte b) s (e + 1) (length s)))
          → (e ≡ i + length (up_to b (drop i s))) × (e < length s) × (es ≡ places_between (is_byte b) s (e + 1) (length s))
      go true h r later =
          let at : i ≡ e = ap (λ (l : List ℕ). get_or l 0 0) r in
          let count : n ≡ length s - (e + 1) = omega (arith, q, at) in (
            omega (arith, at, up-here i (omega (arith, q)) h),
            omega (arith, q, at),
            sym (ap (drop 1) r) ∙ ap₂ (λ (j m : ℕ). places_from (is_byte b) s (j + 1) m) at count,
          )
      go false h r later =
          let l = later r in (omega (arith, l.0, up-past i (omega (arith, q)) h), l.1, l.2)

  -- where they have none, b is not among them
  pub places-end : (n i : ℕ) → i + n ≡ length s → places_from (is_byte b) s i n ≡ [] → length s ≤ i + length (up_to b (drop i s))
  unfolding places_from
  places-end zero i q p = omega (arith, q)
  places-end (suc n) i q p = go (is_byte b (get_or s i 0)) refl p (places-end n (i + 1) (omega (arith, q)))
    where
      go : (t : Bool) → is_byte b (get_or s i 0) ≡ t
          → cond t (i ∷ places_from (is_byte b) s (i + 1) n) (places_from (is_byte b) s (i + 1) n) ≡ []
          → (places_from (is_byte b) s (i + 1) n ≡ [] → length s ≤ i + 1 + length (up_to b (drop (i + 1) s)))
          → length s ≤ i + length (up_to b (drop i s))
      go true h r later = absurd (omega (arith, ap length r))
      go false h r later = omega (arith, later r, up-past i (omega (arith, q)) h)

-- ---- cutting

pub pieces-cut : (b : ℕ) (s : List ℕ) → length (up_to b s) < length s → pieces b s ≡ up_to b s ∷ pieces b (behind b s)
pieces-cut b s h =
    pieces-split b s
    ∙ slice_split_first (is_byte b) s 0 (omega (arith, place-up b s))
    ∙ ap₂ (λ (u : List ℕ) (ps : List (List ℕ)). u ∷ ps) (sym (up_to-first b s))
    (sym (ap (pieces b) (behind-first b s) ∙ pieces-split b (after_first (is_byte b) s)))

pub pieces-last : (b : ℕ) (s : List ℕ) → length s ≤ length (up_to b s) → pieces b s ≡ s ∷ []
pieces-last b s h =
    pieces-split b s
    ∙ slice_split_none (is_byte b) s (λ k d l. fails_before_first (is_byte b) s k d (omega (arith, place-up b s)))

pub pieces-some : (b : ℕ) (s : List ℕ) → 0 < length (pieces b s)
pieces-some b s = omega (arith, ap length (pieces-split b s), length-slice_split (is_byte b) s)
