-- What is carried from block to block does not turn on what is printed. Assumes nothing.
--
--   core-run        the core of a run is that of the run from the core
--   block-carried   by a block's steps, what is carried is that of the run through the bytes that they used
--   carried_none    where nothing is used, it is what it was
--   carried-written the same where answers were written
--   carried-all     where the block is used, that of the run through the whole block
--   run-printed     what a state has printed stands before what the run prints
--   written-whole   WrittenLaw
use mathlib.Core.Bool.{Bool, true, false, cond}
use mathlib.Core.List.{List, [], ◌∷◌, ◌++◌, append_assoc, append-nil}
use mathlib.Core.Path.{◌≡◌, refl, sym, ap, ◌∙◌}
use Prim.Native.Nat.{ℕ, ◌+◌, ◌-◌, ◌≤◌}
use native.Mathlib.Omega.{arith}
use lib.Dec.{eqb}
use lib.ListN.{length, take, drop}
use lib.Seq.{take_all, take-add}
use Rattle.lines.specs.declared.blocks.Place.{Place}
use Rattle.reading.specs.Text.{newline}
use Rattle.lines.specs.Session.{State, start, core, kept, run, ended, run_blocks, said, written, WrittenLaw}
use Rattle.lines.specs.Blocks.{Desk, place_at, block_of, state_of, carried}
use Rattle.lines.proofs.Laws.Session.{run-append, printed-whole}
use Rattle.lines.proofs.Laws.Run.{block-state, block-grows}

core-byte : (t : Bool) (st : State) (b : ℕ)
    → core (cond t (ended st) (kept st (b ∷ []))) ≡ core (cond t (ended (core st)) (kept (core st) (b ∷ [])))
core-byte true st b = refl
core-byte false st b = refl

pub core-run : (st : State) (s : List ℕ) → core (run st s) ≡ core (run (core st) s)
unfolding run
core-run st [] = refl
core-run st (b ∷ s) =
    core-run (cond (eqb b newline) (ended st) (kept st (b ∷ []))) s
    ∙ ap (λ (x : State). core (run x s)) (core-byte (eqb b newline) st b)
    ∙ sym (core-run (cond (eqb b newline) (ended (core st)) (kept (core st) (b ∷ []))) s)

pub block-carried : (block : List ℕ) (st : State) (k m : Desk) → m ≡ block_of block k
    → core (state_of k) ≡ core (run st (take k.place.used block)) → core (state_of m) ≡ core (run st (take m.place.used block))
block-carried block st k m e h =
    let u = k.place.used in
    let v = (block_of block k).place.used in
    let s = take (v - u) (drop u block) in
    let n : u + (v - u) ≡ m.place.used = omega (arith, block-grows block k, ap (λ (x : Desk). x.place.used) e) in
    ap (λ (x : Desk). core (state_of x)) e
    ∙ ap core (block-state block k)
    ∙ core-run (state_of k) s
    ∙ ap (λ (x : State). core (run x s)) h
    ∙ sym (core-run (run st (take u block)) s)
    ∙ ap core (sym (run-append st (take u block) s))
    ∙ ap (λ (l : List ℕ). core (run st l)) (sym (take-add u (v - u) block) ∙ ap (λ (x : ℕ). take x block) n)

pub carried_none : (block : List ℕ) (st : State) (n : ℕ) → n ≡ 0 → core st ≡ core (run (core st) (take n block))
unfolding run
carried_none block st n h = ap (λ (k : ℕ). core (run (core st) (take k block))) (sym h)

pub carried-written : (block : List ℕ) (st : State) (line : List ℕ) (r w : Place)
    → w ≡ place_at r.used r.held 0 r.plant
    → carried r line ≡ core (run st (take r.used block)) → carried w line ≡ core (run st (take w.used block))
carried-written block st line r w e p = rw e p

pub carried-all : (block : List ℕ) (st now : State) (n : ℕ) → length block ≤ n → now ≡ core (run st (take n block))
    → now ≡ core (run st block)
carried-all block st now n h p = p ∙ ap (λ (l : List ℕ). core (run st l)) (take_all n block h)

-- ---- what is written behind each block

-- what a state has printed already stands before what the run prints
printed-byte : (t : Bool) (st : State) (b : ℕ)
    → (cond t (ended st) (kept st (b ∷ []))).printed ≡ st.printed ++ (cond t (ended (core st)) (kept (core st) (b ∷ []))).printed
printed-byte true st b = refl
printed-byte false st b = sym (append-nil st.printed)

pub run-printed : (st : State) (s : List ℕ) → (run st s).printed ≡ st.printed ++ (run (core st) s).printed
unfolding run
run-printed st [] = sym (append-nil st.printed)
run-printed st (b ∷ s) =
    let t = eqb b newline in
    let x = cond t (ended st) (kept st (b ∷ [])) in
    let y = cond t (ended (core st)) (kept (core st) (b ∷ [])) in
    run-printed x s
    ∙ ap (λ (l : List ℕ). l ++ (run (core x) s).printed) (printed-byte t st b)
    ∙ append_assoc st.printed y.printed (run (core x) s).printed
    ∙ ap (λ (z : State). st.printed ++ (y.printed ++ (run z s).printed)) (core-byte t st b)
    ∙ ap (λ (l : List ℕ). st.printed ++ l) (sym (run-printed y s))

blocks-printed : (st : State) (bs : List (List ℕ))
    → said (run_blocks st bs) ≡ st.printed ++ said (run_blocks (core st) bs)
unfolding run_blocks
blocks-printed st [] = refl
blocks-printed st (b ∷ bs) =
    let x = run st b in
    let y = run (core st) b in
    blocks-printed x bs
    ∙ ap (λ (l : List ℕ). l ++ said (run_blocks (core x) bs)) (run-printed st b)
    ∙ append_assoc st.printed y.printed (said (run_blocks (core x) bs))
    ∙ ap (λ (z : State). st.printed ++ (y.printed ++ said (run_blocks z bs))) (core-run st b)
    ∙ ap (λ (l : List ℕ). st.printed ++ l) (sym (blocks-printed y bs))

written-said : (st : State) (bs : List (List ℕ)) → written st bs ≡ said (run_blocks st bs)
unfolding written run_blocks
written-said st [] = refl
written-said st (b ∷ bs) =
    ap (λ (l : List ℕ). (run st b).printed ++ l) (written-said (core (run st b)) bs) ∙ sym (blocks-printed (run st b) bs)

pub written-whole : WrittenLaw
written-whole p bs = written-said (start p) bs ∙ printed-whole p bs
