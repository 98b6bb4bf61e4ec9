-- Laws of a session. Assumes nothing.
--
--   given-cut        a line cut to 1,025 bytes is answered as the line is
--   one-cut          OneLineLaw: a text without a newline is one line
--   run-append       bytes run one part behind the other
--   printed-whole    PrintedLaw: however an input falls into blocks, what is printed is that of its lines
--   after-entries    the record after lines is that after the calls and previews that they ask
use mathlib.Core.Bool.{Bool, true, false, cond, not}
use mathlib.Core.List.{List, [], ◌∷◌, ◌++◌, append_assoc, append-nil}
use mathlib.Core.Path.{◌≡◌, refl, sym, ap, ◌∙◌}
use Prim.Native.Nat.{ℕ, zero, suc}
use native.Mathlib.Omega.{arith}
use lib.Dec.{eqb, leb}
use lib.ListN.{length, take}
use lib.Seq.{take_all, length-take-le}
use borrow.Author.Tests.{leb-true, leb-false}
use Rattle.plant.specs.declared.record.Plant.{Plant}
use Rattle.plant.specs.declared.answer.Outcome.{Outcome}
use Rattle.plant.specs.Calls.{outcome_by}
use Rattle.balances.specs.Balance.{entry, after}
use Rattle.std.proofs.Common.{Option, Some, None}
use Rattle.reading.specs.declared.form.Asked.{Asked}
use Rattle.std.proofs.lemmas.Bool.{and_parts}
use Rattle.reading.specs.Text.{newline, one_line}
use Rattle.reading.specs.Line.{read_line}
use Rattle.lines.specs.Asking.{form_outcome, outcome_text}
use Rattle.lines.specs.Session.{cut, given_by, answer_of, after_line, answers, after_lines, held_line_text, transcript, entry_of, entries}
use Rattle.lines.specs.Session.{State, start, kept, ended, run, joined, run_blocks, said, OneLineLaw, PrintedLaw}
use Rattle.reading.proofs.Laws.Line.{line-long}

-- ---- a line over 1,024 bytes

line-cut : (l : List ℕ) → read_line (take 1025 l) ≡ read_line l
line-cut l = go (leb (length l) 1025) refl
  where
    go : (t : Bool) → leb (length l) 1025 ≡ t → read_line (take 1025 l) ≡ read_line l
    go true h = ap read_line (take_all 1025 l (leb-true (length l) 1025 h))
    go false h =
        let k = leb-false (length l) 1025 h in
        sym (line-long (take 1025 l) (omega (arith, length-take-le 1025 l (omega arith)))) ∙ line-long l (omega arith)

pub given-cut : (p : Plant) (l : List ℕ) → given_by p (take 1025 l) ≡ given_by p l
unfolding given_by
given-cut p l = ap (form_outcome p) (line-cut l)

-- ---- a text without a newline

-- one byte that is no newline, where the rest is cut as z
cut-byte : (h l s : List ℕ) (b : ℕ) (z : List (List ℕ)) → not (eqb b newline) ≡ true → cut (h ++ (b ∷ [])) (l ++ (newline ∷ s)) ≡ z
    → cut h (b ∷ l ++ (newline ∷ s)) ≡ z
unfolding cut
cut-byte h l s b z e r = go (eqb b newline) e
  where
    go : (t : Bool) → not t ≡ true → cond t (h ∷ cut [] (l ++ (newline ∷ s))) (cut (h ++ (b ∷ [])) (l ++ (newline ∷ s))) ≡ z
    go true q = absurd (cc q)
    go false q = r

-- behind what the line has so far
cut-one : (h l s : List ℕ) → one_line l ≡ true → cut h (l ++ (newline ∷ s)) ≡ (h ++ l) ∷ cut [] s
unfolding cut one_line
cut-one h [] s e = ap (λ (x : List ℕ). x ∷ cut [] s) (sym (append-nil h))
cut-one h (b ∷ l) s e =
    let both = and_parts (not (eqb b newline)) (one_line l) e in
    let rest = ap (λ (x : List ℕ). x ∷ cut [] s) (append_assoc h (b ∷ []) l) in
    cut-byte h l s b ((h ++ (b ∷ l)) ∷ cut [] s) both.0 (cut-one (h ++ (b ∷ [])) l s both.1 ∙ rest)

pub one-cut : OneLineLaw
one-cut l s e = cut-one [] l s e

-- ---- bytes

pub run-append : (st : State) (a b : List ℕ) → run st (a ++ b) ≡ run (run st a) b
unfolding run
run-append st [] b = refl
run-append st (x ∷ a) b = run-append (cond (eqb x newline) (ended st) (kept st (x ∷ []))) a b

pub take-take-append : (n : ℕ) (x s : List ℕ) → take n (take n x ++ s) ≡ take n (x ++ s)
take-take-append zero x s = refl
take-take-append (suc n) [] s = refl
take-take-append (suc n) (b ∷ x) s = ap (λ (l : List ℕ). b ∷ l) (take-take-append n x s)

abbrev from : List ℕ → Plant → List ℕ → State
from h p out = record { held = h; plant = p; printed = out }

-- a state's answer to a line, by the line's outcome
abbrev behind : List ℕ → Outcome → State
behind out o = from [] o.plant (out ++ (outcome_text o ++ (newline ∷ [])))

-- one byte more: a newline or not
one : (t : Bool) (input h : List ℕ) (p : Plant) (out : List ℕ) (b : ℕ)
    → said (run (from [] (after_line p h) (out ++ answer_of p h)) input)
    ≡ (out ++ answer_of p h) ++ transcript (after_line p h) (cut [] input)
    → said (run (from (take 1025 (h ++ (b ∷ []))) p out) input) ≡ out ++ transcript p (cut (h ++ (b ∷ [])) input)
    → said (run (cond t (ended (from (take 1025 h) p out)) (kept (from (take 1025 h) p out) (b ∷ []))) input)
    ≡ out ++ transcript p (cond t (h ∷ cut [] input) (cut (h ++ (b ∷ [])) input))
unfolding answers after_lines
one true input h p out b e q =
    ap (λ (o : Outcome). said (run (behind out o) input)) (given-cut p h)
    ∙ e
    ∙ simp append_assoc
one false input h p out b e q = ap (λ (l : List ℕ). said (run (from l p out) input)) (take-take-append 1025 h (b ∷ [])) ∙ q

-- from a state that holds h, cut to what the program holds of it
from-held : (input h : List ℕ) (p : Plant) (out : List ℕ)
    → said (run (from (take 1025 h) p out) input) ≡ out ++ transcript p (cut h input)
unfolding run cut answers after_lines
from-held [] [] p out = refl
from-held [] (b ∷ h) p out =
    ap (λ (o : Outcome). out ++ ((outcome_text o ++ (newline ∷ [])) ++ [] ++ held_line_text o.plant)) (given-cut p (b ∷ h))
from-held (b ∷ input) h p out =
    one (eqb b newline) input h p out b
    (from-held input [] (after_line p h) (out ++ answer_of p h))
    (from-held input (h ++ (b ∷ [])) p out)

blocks-joined : (st : State) (bs : List (List ℕ)) → run_blocks st bs ≡ run st (joined bs)
unfolding joined run_blocks run
blocks-joined st [] = refl
blocks-joined st (b ∷ bs) = blocks-joined (run st b) bs ∙ sym (run-append st b (joined bs))

pub printed-whole : PrintedLaw
printed-whole p bs = ap said (blocks-joined (start p) bs) ∙ from-held (joined bs) [] p []

-- ---- the calls and previews that lines ask

module _ (ls : List (List ℕ)) where
  after-entry : (l : Option Asked) (p : Plant) → ((q : Plant) → after_lines q ls ≡ after q (entries ls))
      → after_lines (form_outcome p l).plant ls ≡ after p (entry_of l (entries ls))
  after-entry (Some a) p h = go a.preview
    where
      go : (b : Bool) → after_lines (outcome_by p b a.request).plant ls ≡ after p (entry b a.request ∷ entries ls)
      go true = h (outcome_by p true a.request).plant
      go false = h (outcome_by p false a.request).plant
  after-entry None p h = h p

pub after-entries : (p : Plant) (ls : List (List ℕ)) → after_lines p ls ≡ after p (entries ls)
unfolding after_lines entries given_by
after-entries p [] = refl
after-entries p (l ∷ ls) = after-entry ls (read_line l) p (λ (q : Plant). after-entries q ls)
