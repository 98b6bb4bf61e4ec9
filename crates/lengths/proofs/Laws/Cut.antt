-- Laws of an input's lines, counted one by one. Assumes nothing.
--
--   cut-some, cut-here, cut-end               the first line of an input and those behind it; behind the end there is none
--   plant-next, bytes-next, others-next       a counted line: the record, the bytes and the lines behind it
--   none-left, all-left                       where no line is left to count
--   transcript-length                         the bytes of all that is printed
--   one-cuts, cut-lined                       no line holds a newline, so that lines with their newlines are cut there again
--   alone, all                                AloneLaw and AllLaw
use mathlib.Core.Bool.{Bool, true, false, cond, not, ◌&&◌}
use mathlib.Core.List.{List, [], ◌∷◌, ◌++◌, append_assoc, append-nil}
use mathlib.Core.Path.{◌≡◌, refl, sym, ap, ap₂, ◌∙◌}
use mathlib.Core.Logic.{inl, inr}
use Prim.Native.Nat.{ℕ, zero, suc, ◌+◌, ◌-◌, ◌≤◌, ◌<◌}
use native.Mathlib.Omega.{arith}
use lib.Dec.{eqb}
use lib.ListN.{length, take, drop, length-append, length-drop, drop_of_length-le}
use lib.Seq.{take-nil, drop-nil, drop-drop, take_all}
use Rattle.std.specs.Prelude.{◌⊎◌}
use Rattle.std.proofs.lemmas.Bool.{and_parts}
use Rattle.plant.specs.declared.record.Plant.{Plant}
use Rattle.plant.specs.declared.answer.Outcome.{Outcome}
use Rattle.holding.specs.Held.{held_of}
use Rattle.reading.specs.Text.{newline, up_to, behind, one_line}
use Rattle.writing.specs.Answer.{held_text}
use Rattle.lines.specs.Asking.{outcome_text}
use Rattle.lines.specs.Session.{cut, cut_lines, given_by, answers, after_lines, held_line_text, transcript}
use Rattle.lengths.specs.Lengths.{counted, lined, AloneLaw, AllLaw}
use Rattle.reading.proofs.Laws.Text.{up_to-place, behind-next}
use Rattle.writing.proofs.Laws.OneLine.{all_one, one-append}
use Rattle.lines.proofs.Laws.Session.{one-cut}

-- ---- cutting

-- h is what the line has so far; there is a line, if it has a byte or one follows
cut-some : (h s : List ℕ) → 1 ≤ length h + length s → cut h s ≡ (h ++ up_to newline s) ∷ cut [] (behind newline s)
unfolding cut up_to behind
cut-some [] [] some = absurd (omega arith)
cut-some (c ∷ h) [] some = ap (λ (l : List ℕ). l ∷ []) (sym (append-nil (c ∷ h)))
cut-some h (b ∷ s) some = go (eqb b newline) (cut-some (h ++ (b ∷ [])) s (omega (arith, length-append h (b ∷ []))))
  where
    go : (t : Bool) → cut (h ++ (b ∷ [])) s ≡ ((h ++ (b ∷ [])) ++ up_to newline s) ∷ cut [] (behind newline s)
        → cond t (h ∷ cut [] s) (cut (h ++ (b ∷ [])) s)
        ≡ (h ++ cond t [] (b ∷ up_to newline s)) ∷ cut [] (cond t s (behind newline s))
    go true e = ap (λ (l : List ℕ). l ∷ cut [] s) (sym (append-nil h))
    go false e = e ∙ ap (λ (l : List ℕ). l ∷ cut [] (behind newline s)) (append_assoc h (b ∷ []) (up_to newline s))

-- of the input s from i on, e is the place of the next newline, or the end
module _ (s : List ℕ) (i e : ℕ) (h : i < length s) (is : e ≡ i + length (up_to newline (drop i s))) where
  pub cut-here : cut_lines (drop i s) ≡ take (e - i) (drop i s) ∷ cut_lines (drop (e + 1) s)
  cut-here =
      let place : e - i ≡ length (up_to newline (drop i s)) = omega (arith, is) in
      let at : e + 1 ≡ i + (e - i + 1) = omega (arith, is) in
      cut-some [] (drop i s) (omega (arith, length-drop i s))
      ∙ ap (λ (l : List ℕ). l ∷ cut [] (behind newline (drop i s))) (sym (up_to-place newline (drop i s) (e - i) place))
      ∙ ap (λ (u : List ℕ). take (e - i) (drop i s) ∷ cut [] u) (sym (behind-next newline (drop i s) (e - i) place))
      ∙ ap (λ (u : List ℕ). take (e - i) (drop i s) ∷ cut [] u) (drop-drop (e - i + 1) i s)
      ∙ ap (λ (j : ℕ). take (e - i) (drop i s) ∷ cut_lines (drop j s)) (sym at)

pub cut-end : (s : List ℕ) (i : ℕ) → length s ≤ i → cut_lines (drop i s) ≡ []
unfolding cut
cut-end s i h = ap cut_lines (drop_of_length-le s h)

-- ---- a line more is counted

-- m of the lines ls are still to count, and n of those behind the first, which gives the outcome o on the record p
module _ (p : Plant) (l : List ℕ) {o : Outcome} (gives : o ≡ given_by p l) {m n : ℕ} (one : m ≡ suc n)
    {ls rest : List (List ℕ)} (first : ls ≡ l ∷ rest) where
  taken : take m ls ≡ l ∷ take n rest
  taken = ap₂ (λ (k : ℕ) (x : List (List ℕ)). take k x) one first

  pub others-next : drop n rest ≡ drop m ls
  others-next = sym (ap₂ (λ (k : ℕ) (x : List (List ℕ)). drop k x) one first)

  pub plant-next : after_lines o.plant (take n rest) ≡ after_lines p (take m ls)
  unfolding after_lines
  plant-next = ap (λ (x : Outcome). after_lines x.plant (take n rest)) gives ∙ ap (after_lines p) (sym taken)

  pub bytes-next : length (answers p (take m ls)) ≡ length (outcome_text o) + 1 + length (answers o.plant (take n rest))
  unfolding answers
  bytes-next =
      ap (λ (x : List (List ℕ)). length (answers p x)) taken
      ∙ ap (λ (x : Outcome). length ((outcome_text x ++ (newline ∷ [])) ++ answers x.plant (take n rest))) (sym gives)
      ∙ length-append (outcome_text o ++ (newline ∷ [])) (answers o.plant (take n rest))
      ∙ ap (λ (k : ℕ). k + length (answers o.plant (take n rest))) (length-append (outcome_text o) (newline ∷ []))

-- ---- the end

module _ (n : ℕ) {ls : List (List ℕ)} (end : (ls ≡ []) ⊎ (n ≡ 0)) where
  pub none-left : take n ls ≡ []
  none-left = elim end [ inl e ↦ ap (take n) e ∙ take-nil n | inr e ↦ ap (λ (k : ℕ). take k ls) e ]

  pub all-left : drop n ls ≡ ls
  all-left = elim end [ inl e ↦ ap (drop n) e ∙ drop-nil n ∙ sym e | inr e ↦ ap (λ (k : ℕ). drop k ls) e ]

pub transcript-length : (p : Plant) (ls : List (List ℕ))
    → length (transcript p ls) ≡ length (answers p ls) + (length (held_text (held_of (after_lines p ls))) + 1)
transcript-length p ls =
    omega (
      arith,
      length-append (answers p ls) (held_line_text (after_lines p ls)),
      length-append (held_text (held_of (after_lines p ls))) (newline ∷ []),
    )

-- ---- lines with their newlines

-- h is what the line has so far
one-cuts : (h s : List ℕ) → one_line h ≡ true → all_one (cut h s) ≡ true
unfolding cut all_one one_line
one-cuts [] [] e = refl
one-cuts (b ∷ h) [] e = rw e
one-cuts h (b ∷ s) e = go (eqb b newline) refl (one-cuts [] s refl) (one-cuts (h ++ (b ∷ [])) s)
  where
    go : (t : Bool) → eqb b newline ≡ t → all_one (cut [] s) ≡ true
        → (one_line (h ++ (b ∷ [])) ≡ true → all_one (cut (h ++ (b ∷ [])) s) ≡ true)
        → all_one (cond t (h ∷ cut [] s) (cut (h ++ (b ∷ [])) s)) ≡ true
    go true q others longer = rw e others
    go false q others longer = longer (one-append h (b ∷ []) e (ap (λ t. not t && true) q))

all-taken : (n : ℕ) (ls : List (List ℕ)) → all_one ls ≡ true → all_one (take n ls) ≡ true
unfolding all_one
all-taken zero ls e = refl
all-taken (suc n) [] e = refl
all-taken (suc n) (l ∷ ls) e =
    let both = and_parts (one_line l) (all_one ls) e in
    rw both.0 (all-taken n ls both.1)

cut-lined : (ls : List (List ℕ)) → all_one ls ≡ true → cut_lines (lined ls) ≡ ls
unfolding lined cut all_one
cut-lined [] e = refl
cut-lined (l ∷ ls) e =
    let both = and_parts (one_line l) (all_one ls) e in
    one-cut l (lined ls) both.0 ∙ ap (λ (x : List (List ℕ)). l ∷ x) (cut-lined ls both.1)

-- ---- the claims

pub alone : AloneLaw
unfolding one_line
alone p s =
    ap (λ (ls : List (List ℕ)). length (transcript p ls))
    (sym (cut-lined (counted s) (all-taken 1000 (cut_lines s) (one-cuts [] s refl))))

pub all : AllLaw
all p s none =
    ap (λ (ls : List (List ℕ)). length (transcript p ls))
    (take_all 1000 (cut_lines s) (omega (arith, none, length-drop 1000 (cut_lines s))))
