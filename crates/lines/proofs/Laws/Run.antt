-- A session by blocks is the session byte by byte. Assumes nothing.
--
--   run-line        the bytes of a line that has not ended are held
--   run-ended       a newline ends the line
--   taken-put       the bytes up to the place behind those that were put
--   step-state      a step takes the session's state through the bytes that it used
--   step-bounds     a step that all fits uses some bytes, and no more than the block has
--   block-step      a step more changes nothing of where a block's steps end
--   block-done      where no step can be taken, they have ended
--   block-state     a block's steps take the session's state through the bytes that they used
--   block-grows     the block's place never goes back
--   block_more      where a step can be taken, some bytes are used
--   block_held      the held bytes stay within the line's buffer
--   end-said        behind the last byte, the bytes that are not written are those and the end
--   desks           DeskLaw
use mathlib.Core.Bool.{Bool, true, false, cond, ◌&&◌}
use mathlib.Core.List.{List, [], ◌∷◌, ◌++◌, append_assoc, append-nil}
use mathlib.Core.Path.{◌≡◌, refl, sym, ap, ◌∙◌}
use Prim.Native.Nat.{ℕ, zero, suc, ◌+◌, ◌-◌, ◌≤◌, ◌<◌}
use native.Mathlib.Omega.{arith}
use lib.Dec.{ltb, eqb}
use lib.ListN.{length, take, drop, length-append, length-take, length-drop}
use lib.Seq.{take_all, take-add, drop-drop, take_at, take-append-add, length-take-le}
use borrow.Author.Tests.{eqb-true, ltb-true, ltb-false, le-ltb}
use Rattle.lines.specs.declared.blocks.Place.{Place}
use Rattle.reading.specs.Text.{newline, up_to}
use Rattle.writing.specs.Buffer.{put_at}
use Rattle.lines.specs.Session as session
use Rattle.lines.specs.Session.{State, keep, kept, run, answer_of, after_line, said}
use Rattle.lines.specs.Blocks.{Desk, desk, room_for, desk_fits, ready, room, gathered, answered_desk, ended, line_in, step_of}
use Rattle.lines.specs.Blocks.{steps_of, block_of, end_of}
use Rattle.lines.specs.Blocks.{state_of, DeskLaw}
use Rattle.reading.proofs.Laws.Text.{up_to-length}
use Rattle.lines.proofs.Laws.Session.{run-append, take-take-append}
use Rattle.lines.proofs.Laws.Blocks.{part-line, room-true, ready-true, goes, step-still}

-- ---- bytes

keep-keep : (h s t : List ℕ) → keep (keep h s) t ≡ keep h (s ++ t)
keep-keep h s t = take-take-append 1025 (h ++ s) t ∙ ap (take 1025) (append_assoc h s t)

keep-nothing : (h : List ℕ) → length h ≤ 1025 → keep h [] ≡ h
keep-nothing h l = ap (take 1025) (append-nil h) ∙ take_all 1025 h l

keep-room : (h s : List ℕ) → length h ≤ 1025 → h ++ take (1025 - length h) s ≡ keep h s
keep-room h s l =
    let e : length h + (1025 - length h) ≡ 1025 = omega arith in
    sym (ap (λ (n : ℕ). take n (h ++ s)) (sym e) ∙ take-append-add h s (1025 - length h))

keep-fits : (h s : List ℕ) → length (keep h s) ≤ 1025
keep-fits h s = omega (arith, length-take 1025 (h ++ s))

holding : State → List ℕ → State
holding st h = record { held = h; plant = st.plant; printed = st.printed }

pub run-line : (st : State) (s : List ℕ) → length st.held ≤ 1025 → run st (up_to newline s) ≡ kept st (up_to newline s)
unfolding run up_to holding
run-line st [] l = ap (holding st) (sym (keep-nothing st.held l))
run-line st (b ∷ s) l = go (eqb b newline) refl (run-line (kept st (b ∷ [])) s (keep-fits st.held (b ∷ [])))
  where
    go : (t : Bool) → eqb b newline ≡ t → run (kept st (b ∷ [])) (up_to newline s) ≡ kept (kept st (b ∷ [])) (up_to newline s)
        → run st (cond t [] (b ∷ up_to newline s)) ≡ kept st (cond t [] (b ∷ up_to newline s))
    go true e r = ap (holding st) (sym (keep-nothing st.held l))
    go false e r =
        ap (λ t. run (cond t (session.ended st) (kept st (b ∷ []))) (up_to newline s)) e ∙ r
        ∙ ap (holding st) (keep-keep st.held (b ∷ []) (up_to newline s))

pub run-ended : (st : State) (s : List ℕ) → run st (s ++ (newline ∷ [])) ≡ session.ended (run st s)
unfolding run
run-ended st s = run-append st s (newline ∷ [])

up_to-found : (b : ℕ) (s : List ℕ) → length (up_to b s) < length s → take (suc (length (up_to b s))) s ≡ up_to b s ++ (b ∷ [])
unfolding up_to
up_to-found b [] l = absurd (omega arith)
up_to-found b (c ∷ s) l = go (eqb c b) refl l (up_to-found b s)
  where
    go : (t : Bool) → eqb c b ≡ t → length (cond t [] (c ∷ up_to b s)) < length (c ∷ s)
        → (length (up_to b s) < length s → take (suc (length (up_to b s))) s ≡ up_to b s ++ (b ∷ []))
        → take (suc (length (cond t [] (c ∷ up_to b s)))) (c ∷ s) ≡ cond t [] (c ∷ up_to b s) ++ (b ∷ [])
    go true e k r = ap (λ (x : ℕ). x ∷ []) (eqb-true c b e)
    go false e k r = ap (λ (x : List ℕ). c ∷ x) (r (omega arith))

pub taken-put : (d : List ℕ) (at : ℕ) (s : List ℕ) → at ≤ length d → take (at + length s) (put_at d at s) ≡ take at d ++ s
unfolding put_at
taken-put d at s h =
    let l : length (take at d ++ s) ≡ at + length s = simp (length-append, length-take-le at d h) in
    ap (take (at + length s)) (sym (append_assoc (take at d) s (drop (at + length s) d)))
    ∙ take_at (take at d ++ s) (drop (at + length s) d) (at + length s) l

-- ---- a step

module _ (p : Place) (line out : List ℕ) where
  gathered-state : (s : List ℕ) (e : ℕ) → p.held ≤ 1025 → length line ≡ 1025
      → state_of (gathered p line out s e) ≡ kept (state_of (desk p line out)) s
  unfolding holding
  gathered-state s e h l =
      let n : length (take p.held line) ≡ p.held = length-take-le p.held line (omega arith) in
      ap (holding (state_of (desk p line out)))
      (taken-put line p.held (room p.held s) (omega arith)
      ∙ ap (λ (m : ℕ). take p.held line ++ take (1025 - m) s) (sym n)
      ∙ keep-room (take p.held line) s (omega arith))

  answered-state : (e : ℕ) → p.at ≤ length out
      → state_of (answered_desk p line out (take p.held line) e) ≡ session.ended (state_of (desk p line out))
  answered-state e h =
      ap (λ (x : List ℕ). record { held = []; plant = after_line p.plant (take p.held line); printed = x })
      (taken-put out p.at (answer_of p.plant (take p.held line)) h)

module _ (block : List ℕ) (p : Place) (line out : List ℕ) (h : p.held ≤ 1025) (l : length line ≡ 1025) (o : p.at + 513 ≤ length out) where
  abbrev st : State
  st = state_of (desk p line out)

  abbrev bytes : List ℕ
  bytes = line_in block p.used

  abbrev held : Desk
  held = gathered p line out bytes (p.used + length bytes)

  held-state : state_of held ≡ run st bytes
  held-state = gathered-state p line out bytes (p.used + length bytes) h l
      ∙ sym (run-line st (drop p.used block) (omega (arith, length-take-le p.held line (omega arith))))

  with_newline : p.used + length bytes < length block
      → take (p.used + length bytes + 1 - p.used) (drop p.used block) ≡ bytes ++ (newline ∷ [])
  with_newline n =
      let e : p.used + length bytes + 1 - p.used ≡ suc (length bytes) = omega arith in
      ap (λ (k : ℕ). take k (drop p.used block)) e ∙ up_to-found newline (drop p.used block) (omega (arith, length-drop p.used block))

  through-state : (t : Bool) → ltb (p.used + length bytes) (length block) ≡ t
      → state_of (cond t (ended held) held) ≡ run st (take ((cond t (ended held) held).place.used - p.used) (drop p.used block))
  through-state true e =
      answered-state held.place held.line out (p.used + length bytes + 1) (omega arith)
      ∙ ap session.ended held-state
      ∙ sym (run-ended st bytes)
      ∙ ap (run st) (sym (with_newline (ltb-true (p.used + length bytes) (length block) e)))
  through-state false e = held-state ∙ ap (run st) (sym (part-line block p.used (p.used + length bytes) refl))

  through-more : (t : Bool) → ltb (p.used + length bytes) (length block) ≡ t → p.used < length block
      → (p.used < (cond t (ended held) held).place.used) × ((cond t (ended held) held).place.used ≤ length block)
  through-more true e u = (omega arith, omega (arith, ltb-true (p.used + length bytes) (length block) e))
  through-more false e u = (
    omega (arith, ltb-false (p.used + length bytes) (length block) e),
    omega (arith, up_to-length newline (drop p.used block), length-drop p.used block),
  )

module _ (block : List ℕ) (k : Desk) where
  pub step-state : state_of (step_of block k)
      ≡ run (state_of k) (take ((step_of block k).place.used - k.place.used) (drop k.place.used block))
  unfolding step_of run
  step-state = go (ready block k) refl
    where
      go : (t : Bool) → ready block k ≡ t
          → state_of (cond t (goes block k) k)
          ≡ run (state_of k) (take ((cond t (goes block k) k).place.used - k.place.used) (drop k.place.used block))
      go true e =
          let t = ready-true block k e in
          through-state block k.place k.line k.out t.1 t.2 t.3 (ltb (k.place.used + length (line_in block k.place.used)) (length block))
          refl
      go false e =
          let z : 0 ≡ k.place.used - k.place.used = omega arith in
          ap (λ (n : ℕ). run (state_of k) (take n (drop k.place.used block))) z

  pub step-bounds : ready block k ≡ true → (k.place.used < (step_of block k).place.used) × ((step_of block k).place.used ≤ length block)
  unfolding step_of
  step-bounds e =
      let t = ready-true block k e in
      rw e
      (through-more block k.place k.line k.out t.1 t.2 t.3 (ltb (k.place.used + length (line_in block k.place.used)) (length block)) refl
      t.0)

-- ---- a block

module _ (block : List ℕ) where
  still : (k : Desk) → ready block k ≡ false → step_of block k ≡ k
  still k e = sym (step-still block k e)

  used-up : (k : Desk) → length block ≤ k.place.used → ready block k ≡ false
  used-up k h = ap (λ b. b && desk_fits k) (le-ltb k.place.used (length block) h)

  steps-still : (n : ℕ) (k : Desk) → step_of block k ≡ k → steps_of block n k ≡ k
  unfolding steps_of
  steps-still zero k e = refl
  steps-still (suc n) k e = ap (steps_of block n) e ∙ steps-still n k e

  -- no step more is left to take
  steps-enough : (n : ℕ) (k : Desk) → length block ≤ n + k.place.used → steps_of block n (step_of block k) ≡ steps_of block n k
  unfolding steps_of
  steps-enough zero k h = still k (used-up k (omega arith))
  steps-enough (suc n) k h = go (ready block k) refl (steps-enough n (step_of block k))
    where
      go : (t : Bool) → ready block k ≡ t
          → (length block ≤ n + (step_of block k).place.used
          → steps_of block n (step_of block (step_of block k)) ≡ steps_of block n (step_of block k))
          → steps_of block n (step_of block (step_of block k)) ≡ steps_of block n (step_of block k)
      go true e r = r (omega (arith, (step-bounds block k e).0))
      go false e r = ap (λ (x : Desk). steps_of block n (step_of block x)) (still k e)

  pub block-step : (k m : Desk) → m ≡ step_of block k → block_of block m ≡ block_of block k
  block-step k m e = ap (steps_of block (length block)) e ∙ steps-enough (length block) k (omega arith)

  pub block-done : (k : Desk) → ready block k ≡ false → k ≡ block_of block k
  block-done k e = sym (steps-still (length block) k (still k e))

  step-grows : (k : Desk) → k.place.used ≤ (step_of block k).place.used
  step-grows k = go (ready block k) refl
    where
      go : (t : Bool) → ready block k ≡ t → k.place.used ≤ (step_of block k).place.used
      go true e = omega (arith, (step-bounds block k e).0)
      go false e = omega (arith, ap (λ (x : Desk). x.place.used) (still k e))

  steps-grow : (n : ℕ) (k : Desk) → k.place.used ≤ (steps_of block n k).place.used
  unfolding steps_of
  steps-grow zero k = omega arith
  steps-grow (suc n) k = omega (arith, step-grows k, steps-grow n (step_of block k))

  -- bytes from a to b and from b to c are those from a to c
  parts_join : (a b c : ℕ) → a ≤ b → b ≤ c → take (b - a) (drop a block) ++ take (c - b) (drop b block) ≡ take (c - a) (drop a block)
  parts_join a b c l m =
      let e : a + (b - a) ≡ b = omega arith in
      let g : b - a + (c - b) ≡ c - a = omega arith in
      ap (λ (x : List ℕ). take (b - a) (drop a block) ++ take (c - b) x)
      (ap (λ (n : ℕ). drop n block) (sym e) ∙ sym (drop-drop (b - a) a block))
      ∙ sym (take-add (b - a) (c - b) (drop a block))
      ∙ ap (λ (n : ℕ). take n (drop a block)) g

  steps-state : (n : ℕ) (k : Desk)
      → state_of (steps_of block n k) ≡ run (state_of k) (take ((steps_of block n k).place.used - k.place.used) (drop k.place.used block))
  unfolding steps_of run
  steps-state zero k =
      let z : 0 ≡ k.place.used - k.place.used = omega arith in
      ap (λ (n : ℕ). run (state_of k) (take n (drop k.place.used block))) z
  steps-state (suc n) k =
      let m = step_of block k in
      let u = k.place.used in
      let v = m.place.used in
      let w = (steps_of block n m).place.used in
      steps-state n m
      ∙ ap (λ (st : State). run st (take (w - v) (drop v block))) (step-state block k)
      ∙ sym (run-append (state_of k) (take (v - u) (drop u block)) (take (w - v) (drop v block)))
      ∙ ap (run (state_of k)) (parts_join u v w (step-grows k) (steps-grow n m))

  pub block-state : (k : Desk)
      → state_of (block_of block k) ≡ run (state_of k) (take ((block_of block k).place.used - k.place.used) (drop k.place.used block))
  block-state k = steps-state (length block) k

  pub block-grows : (k : Desk) → k.place.used ≤ (block_of block k).place.used
  block-grows k = steps-grow (length block) k

  pub block_more : (k : Desk) → ready block k ≡ true → k.place.used < (block_of block k).place.used
  block_more k e =
      let b = ap (λ (x : Desk). x.place.used) (block-step k (step_of block k) refl) in
      omega (arith, b, (step-bounds block k e).0, steps-grow (length block) (step_of block k))

  through-held : (t : Bool) (k : Desk) (s : List ℕ) (e : ℕ) → k.place.held ≤ 1025
      → (cond t (ended (gathered k.place k.line k.out s e)) (gathered k.place k.line k.out s e)).place.held ≤ 1025
  through-held true k s e h = omega arith
  through-held false k s e h = omega (arith, length-take (1025 - k.place.held) s)

  step-held : (k : Desk) → k.place.held ≤ 1025 → (step_of block k).place.held ≤ 1025
  unfolding step_of
  step-held k h = go (ready block k)
    where
      go : (t : Bool) → (cond t (goes block k) k).place.held ≤ 1025
      go true = through-held (ltb (k.place.used + length (line_in block k.place.used)) (length block)) k (line_in block k.place.used)
          (k.place.used + length (line_in block k.place.used)) h
      go false = h

  steps-held : (n : ℕ) (k : Desk) → k.place.held ≤ 1025 → (steps_of block n k).place.held ≤ 1025
  unfolding steps_of
  steps-held zero k h = h
  steps-held (suc n) k h = steps-held n (step_of block k) (step-held k h)

  pub block_held : (k : Desk) → k.place.held ≤ 1025 → (block_of block k).place.held ≤ 1025
  block_held k h = steps-held (length block) k h

-- ---- behind the last byte

pub end-said : (k : Desk) → room_for 1026 k ≡ true → take (end_of k).place.at (end_of k).out ≡ said (state_of k)
unfolding end_of
end-said k e = rw e (taken-put k.out k.place.at _ (omega (arith, room-true 1026 k e)))

pub desks : DeskLaw
desks k = record { block = λ block. block-state block k; end = end-said k }
