-- Laws of a session by blocks. Assumes nothing.
--
--   part-put                              bytes written into the part of a buffer from a place on
--   text-gathered                         a text and its newline behind the others
--   answer-gathered, held-gathered        an answer, and the held line, behind the others
--   part-line                             what a block has of a line, as a part of the block
--   fits-true, room-true                  what the test of the buffers' room tells
--   ready-true, ready_of                  where a step can be taken
--   through-newline, through-end          a step where all fits: a line is answered, or its bytes are held
--   goes, step-still, step-goes           a step: the block is used or the buffers have no room, or all fits
--   last_none, last_some                  the lines that are left behind the last byte: none, or one
--   end-unfit, end-ready                  behind the last byte: the buffers have no room, or all fits
use mathlib.Core.Bool.{true, false, cond, ◌&&◌}
use mathlib.Core.List.{List, [], ◌∷◌, ◌++◌, append-nil}
use mathlib.Core.Path.{◌≡◌, refl, sym, ap, subst, ◌∙◌}
use Prim.Native.Nat.{ℕ, ◌+◌, ◌-◌, ◌≤◌, ◌<◌}
use native.Mathlib.Omega.{arith}
use lib.Dec.{ltb, leb, eqb}
use Rattle.std.proofs.lemmas.List.{take_rest}
use lib.ListN.{length, take, drop, length-drop, drop_of_length-le}
use lib.Seq.{drop-drop, length-take-le}
use borrow.Author.Tests.{lt-ltb, le-ltb, le-leb, eq-eqb, leb-true, eqb-true, ltb-true}
use Rattle.std.proofs.lemmas.Bool.{and_parts}
use Rattle.plant.specs.declared.record.Plant.{Plant}
use Rattle.plant.specs.declared.answer.Outcome.{Outcome}
use Rattle.holding.specs.Held.{held_of}
use Rattle.lines.specs.declared.asking.LineOutcome.{LineOutcome}
use Rattle.lines.specs.declared.asking.HeldOutcome.{HeldOutcome}
use Rattle.lines.specs.declared.blocks.Place.{Place}
use Rattle.reading.specs.Text.{newline}
use Rattle.writing.specs.Buffer.{put_at, Put, Answered}
use Rattle.writing.specs.Answer.{held_text, fitting}
use Rattle.lines.specs.Asking.{outcome_text, line_text, LineAnswered, HeldAnswered}
use Rattle.lines.specs.Session.{last_line, given_by, answer_of, after_line, answers, after_lines, held_line_text, transcript}
use Rattle.lines.specs.Blocks.{Desk, desk, place_at, fits, room_for, desk_fits, ready, room, gathered, answered_desk, ended, through}
use Rattle.lines.specs.Blocks.{line_in, step_of}
use Rattle.lines.specs.Blocks.{ended_desk, end_of}
use Rattle.reading.proofs.Laws.Text.{up_to-take}
use Rattle.writing.proofs.Laws.Buffer.{put_then, put_same, put-nothing}
use Rattle.writing.proofs.Laws.Answer.{fitting-all}
use Rattle.lines.proofs.Laws.Asking.{outcome-full}

-- the buffer d with the bytes e in the place of those from `at` on
abbrev pub rejoined : List ℕ → ℕ → List ℕ → List ℕ
rejoined d at e = take at d ++ (e ++ drop (length d - at) (drop at d))

part-put : (d : List ℕ) (at : ℕ) {s : List ℕ} {r : ℕ} {e : List ℕ} → Answered (drop at d) s r e → Put d at s (at + r) (rejoined d at e)
unfolding put_at
part-put d at {s} {r} {e} a =
    record {
      next = ap (λ (n : ℕ). at + n) a.count;
      bytes =
          ap (λ (x : List ℕ). take at d ++ (e ++ x)) (drop_of_length-le (drop at d) {i = length d - at} (omega (arith, length-drop at d)))
          ∙ ap (λ (x : List ℕ). take at d ++ x) (append-nil e ∙ a.buffer)
          ∙ ap (λ (x : List ℕ). take at d ++ (s ++ x)) (drop-drop (length s) at d);
    }

-- the text s of r bytes, written into the part of d from `at` on, and its newline
module _ (s : List ℕ) (d : List ℕ) (at : ℕ) {r k : ℕ} {e g : List ℕ} where
  text-gathered : at + 513 ≤ length d
      → Answered (take (length d - at) (drop at d)) (fitting (length (take (length d - at) (drop at d))) s) r e
      → Put (rejoined d at e) (at + r) (newline ∷ []) k g → Put d at (s ++ (newline ∷ [])) k g × (k ≤ at + 513)
  text-gathered h a q =
      let b = subst (λ (x : List ℕ). Answered x (fitting (length x) s) r e) (take_rest d at) a in
      let m : 512 ≤ length (drop at d) = omega (arith, length-drop at d) in
      let t = subst (λ (x : List ℕ). Answered (drop at d) x r e) (fitting-all (length (drop at d)) s m) b in
      (put_then (part-put d at t) q (omega (arith, q.next, t.within)), omega (arith, q.next, t.within))

module _ {p : Plant} {l : List ℕ} (d : List ℕ) (at : ℕ) {r : LineOutcome} {e : List ℕ} where
  given : at + 513 ≤ length d → LineAnswered p l (take (length d - at) (drop at d)) r e → r.outcome ≡ given_by p l
  unfolding given_by
  given h a =
      let few = take (length d - at) (drop at d) in
      a.outcome ∙ outcome-full (length few) p l (omega (arith, ap length (take_rest d at), length-drop at d))

  pub answer-gathered : {k : ℕ} {g : List ℕ} → at + 513 ≤ length d → LineAnswered p l (take (length d - at) (drop at d)) r e
      → Put (rejoined d at e) (at + r.length) (newline ∷ []) k g
      → ((r.outcome.plant ≡ after_line p l) × Put d at (answer_of p l) k g) × (k ≤ at + 513)
  unfolding given_by line_text
  answer-gathered h a q =
      let t = text-gathered (outcome_text (given_by p l)) d at h a.text q in
      ((ap (λ (o : Outcome). o.plant) (given h a), t.0), t.1)

pub held-gathered : {p : Plant} (d : List ℕ) (at : ℕ) {r : HeldOutcome} {e : List ℕ} {k : ℕ} {g : List ℕ}
    → at + 513 ≤ length d → HeldAnswered p (take (length d - at) (drop at d)) r e
    → Put (rejoined d at e) (at + r.length) (newline ∷ []) k g → Put d at (held_line_text p) k g × (k ≤ at + 513)
held-gathered {p} d at h a q = text-gathered (held_text (held_of p)) d at h a.text q

-- ---- a step where all fits

pub part-line : (s : List ℕ) (a e : ℕ) → e ≡ a + length (line_in s a) → take (e - a) (drop a s) ≡ line_in s a
part-line s a e h =
    let n : e - a ≡ length (line_in s a) = omega (arith, h) in
    ap (λ (k : ℕ). take k (drop a s)) n ∙ up_to-take newline (drop a s)

-- a line is answered: the place, the line's buffer and the answers
answered-desk : (p : Place) (line out l : List ℕ) {q : Plant} {at : ℕ} {out2 : List ℕ} (e : ℕ) → q ≡ after_line p.plant l
    → Put out p.at (answer_of p.plant l) at out2 → desk (place_at e 0 at q) line out2 ≡ answered_desk p line out l e
answered-desk p line out l e r o = λ i. record {
  place = record { used = e; held = 0; at = o.next i; plant = r i };
  line = line;
  out = o.bytes i;
}

-- bytes are held: the place and the line's buffer
gathered-desk : (p : Place) (line out s : List ℕ) {h : ℕ} {line2 : List ℕ} {e u : ℕ} → e ≡ u → Put line p.held (room p.held s) h line2
    → desk (place_at e h p.at p.plant) line2 out ≡ gathered p line out s u
gathered-desk p line out s t k = λ i. record {
  place = record { used = t i; held = k.next i; at = p.at; plant = p.plant };
  line = k.bytes i;
  out = out;
}

module _ (block line out s : List ℕ) (p : Place) {e h : ℕ} {line2 : List ℕ} (t : e ≡ p.used + length s)
    (k : Put line p.held (room p.held s) h line2) where
  pub through-end : length block ≤ e → desk (place_at e h p.at p.plant) line2 out ≡ through block (desk p line out) s (p.used + length s)
  through-end n =
      gathered-desk p line out s t k
      ∙ sym (ap (λ b. cond b (ended (gathered p line out s (p.used + length s))) (gathered p line out s (p.used + length s)))
      (le-ltb (p.used + length s) (length block) (omega (arith, t))))

  pub through-newline : {g : Place} {out2 : List ℕ} → e < length block → g ≡ place_at p.used 0 g.at g.plant
      → (g.plant ≡ after_line p.plant (take h line2)) × Put out p.at (answer_of p.plant (take h line2)) g.at out2
      → desk (place_at (e + 1) g.held g.at g.plant) line2 out2 ≡ through block (desk p line out) s (p.used + length s)
  through-newline {g} {out2} n i w =
      ap (λ (x : Place). desk (place_at (e + 1) x.held g.at g.plant) line2 out2) i
      ∙ answered-desk p line2 out (take h line2) (e + 1) w.0 w.1
      ∙ ap ended (gathered-desk p line out s t k)
      ∙ sym (ap (λ b. cond b (ended (gathered p line out s (p.used + length s))) (gathered p line out s (p.used + length s)))
      (lt-ltb (p.used + length s) (length block) (omega (arith, t))))

-- ---- any step

pub fits-true : (n held at line out : ℕ) → fits n held at line out ≡ true → (held ≤ 1025) × (line ≡ 1025) × (at + n ≤ out)
unfolding fits
fits-true n held at line out e =
    let a = and_parts (leb held 1025 && eqb line 1025) (leb (at + n) out) e in
    let b = and_parts (leb held 1025) (eqb line 1025) a.0 in
    (leb-true held 1025 b.0, eqb-true line 1025 b.1, leb-true (at + n) out a.1)

pub room-true : (n : ℕ) (k : Desk) → room_for n k ≡ true → (k.place.held ≤ 1025) × (length k.line ≡ 1025) × (k.place.at + n ≤ length k.out)
room-true n k e = fits-true n k.place.held k.place.at (length k.line) (length k.out) e

pub ready-true : (block : List ℕ) (k : Desk) → ready block k ≡ true
    → (k.place.used < length block) × (k.place.held ≤ 1025) × (length k.line ≡ 1025) × (k.place.at + 513 ≤ length k.out)
ready-true block k e =
    let b = and_parts (ltb k.place.used (length block)) (desk_fits k) e in
    let t = room-true 513 k b.1 in
    (ltb-true k.place.used (length block) b.0, t.0, t.1, t.2)

pub ready_of : (block : List ℕ) (k : Desk) → k.place.used < length block → k.place.held ≤ 1025 → length k.line ≡ 1025
    → k.place.at + 513 ≤ length k.out → ready block k ≡ true
unfolding fits
ready_of block k u h l o =
    simp (
      lt-ltb k.place.used (length block) u,
      le-leb k.place.held 1025 h,
      eq-eqb (length k.line) 1025 l,
      le-leb (k.place.at + 513)
          (length k.out) o,
    )

module _ (block : List ℕ) (k : Desk) where
  -- where a step that all fits goes
  abbrev pub goes : Desk
  goes = through block k (line_in block k.place.used) (k.place.used + length (line_in block k.place.used))

  pub step-still : ready block k ≡ false → k ≡ step_of block k
  unfolding step_of
  step-still h = sym (ap (λ b. cond b goes k) h)

  pub step-goes : ready block k ≡ true → goes ≡ step_of block k
  unfolding step_of
  step-goes h = sym (ap (λ b. cond b goes k) h)

-- ---- behind the last byte

module _ (p : Plant) (line out : List ℕ) (at : ℕ) where
  -- what is left of a line of so many held bytes leaves the record q, and is put up to the place k
  abbrev Left : ℕ → Plant → ℕ → List ℕ → Type 0
  Left held q k out2 = (q ≡ after_lines p (last_line (take held line))) × Put out at (answers p (last_line (take held line))) k out2

  pub last_none : (held : ℕ) → held ≡ 0 → Left held p at out
  unfolding answers after_lines
  last_none held h = rw h (refl, put-nothing out at)

  pub last_some : (held : ℕ) (q : Plant) {k : ℕ} {out2 : List ℕ} → (held ≡ 0 → ⊥) → held ≤ length line
      → (q ≡ after_line p (take held line)) × Put out at (answer_of p (take held line)) k out2 → Left held q k out2
  unfolding answers after_lines
  last_some held q {k} {out2} n l t = go (take held line) (omega (arith, n, length-take-le held line l)) t
    where
      go : (h : List ℕ) → 0 < length h → (q ≡ after_line p h) × Put out at (answer_of p h) k out2
          → (q ≡ after_lines p (last_line h)) × Put out at (answers p (last_line h)) k out2
      go [] z t = absurd (omega arith)
      go (b ∷ h) z t = (t.0, put_same (sym (append-nil (answer_of p (b ∷ h)))) t.1)

module _ (p : Place) (line out : List ℕ) where
  abbrev k : Desk
  k = desk p line out

  abbrev l : List (List ℕ)
  l = last_line (take p.held line)

  abbrev answered : Desk
  answered = ended_desk k (transcript p.plant l) (after_lines p.plant l)

  pub end-unfit : room_for 1026 k ≡ false → k ≡ end_of k
  unfolding end_of
  end-unfit h = sym (ap (λ b. cond b answered k) h)

  -- the last line's answer is put, and the held line behind it: the places g and h
  pub end-ready : {g h : Place} {out2 out3 : List ℕ} → room_for 1026 k ≡ true → h ≡ place_at g.used g.held h.at g.plant
      → g ≡ place_at p.used 0 g.at g.plant → (g.plant ≡ after_lines p.plant l) × Put out p.at (answers p.plant l) g.at out2
      → Put out2 g.at (held_line_text g.plant) h.at out3 → h.at ≤ length out → desk h line out3 ≡ end_of k
  unfolding end_of
  end-ready {g} {h} {out2} {out3} r i j t q n =
      let w = put_then t.1 (subst (λ (x : Plant). Put out2 g.at (held_line_text x) h.at out3) t.0 q) n in
      ap (λ (x : Place). desk x line out3) (i ∙ ap (λ (x : Place). place_at x.used x.held h.at x.plant) j)
      ∙ ended-desk t.0 w
      ∙ sym (ap (λ b. cond b answered k) r)
    where
      ended-desk : {at : ℕ} {q : Plant} {out3 : List ℕ} → q ≡ after_lines p.plant l → Put out p.at (transcript p.plant l) at out3
          → desk (place_at p.used 0 at q) line out3 ≡ answered
      ended-desk e w = λ i. record { place = record { used = p.used; held = 0; at = w.next i; plant = e i }; line = line; out = w.bytes i }
