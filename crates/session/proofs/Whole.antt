-- What the program writes, block by block and in all.
--
--   none_printed                   where nothing is used, nothing is printed
--   desk_carried                   a place with no answers left stands for what is carried
--   block_printed                  by a block's steps, what the run prints is what it printed before and then the bytes that are left to be
--                                  written
--   end_fits                       where the buffers are the program's, the end of the session has room
--   run_after                      the run through what was read before and then a block, from what is carried
--   printed_after                  the same of what is printed
--   all_printed                    what is written until the input's end and then at the end of the session is what is printed for the
--                                  input
--   begun_printed, begun_carried   before the first block
use Rattle.std.proofs.Common.{true, List, [], ◌∷◌, ◌++◌, ◌≡◌, ℕ, ◌+◌, ◌-◌, ◌≤◌, length, take, drop, arith, refl, sym, ap, ◌∙◌, append-nil}
use Rattle.std.proofs.Math.Seq.{take-add}
use Rattle.plant.specs.declared.record.Plant.{Plant}
use Rattle.lines.specs.declared.blocks.Place.{Place}
use Rattle.lines.specs.Session.{State, start, core, run, said, printed, run_blocks, joined}
use Rattle.lines.specs.Blocks.{Desk, desk, place_at, fits, room_for, block_of, state_of, carried}
use Rattle.lines.proofs.Laws.Session.{run-append, printed-whole}
use Rattle.lines.proofs.Laws.Run.{block-state, block-grows}
use Rattle.lines.proofs.Laws.Carry.{core-run, run-printed}

pub none_printed : (block : List ℕ) (st : State) (n : ℕ) → n ≡ 0 → (run (core st) (take n block)).printed ≡ []
unfolding run
none_printed block st n h = ap (λ (k : ℕ). (run (core st) (take k block)).printed) h

pub desk_carried : (p : Place) (line out : List ℕ) → p.at ≡ 0 → state_of (desk p line out) ≡ carried p line
desk_carried p line out h =
    ap (λ (n : ℕ). record { held = take p.held line; plant = p.plant; printed = take n out }) h

pub block_printed : (block : List ℕ) (st : State) (k m : Desk) → m ≡ block_of block k → k.place.at ≡ 0
    → core (state_of k) ≡ core (run st (take k.place.used block))
    → (run st (take m.place.used block)).printed ≡ (run st (take k.place.used block)).printed ++ take m.place.at m.out
block_printed block st k m e h c =
    let u = k.place.used in
    let v = (block_of block k).place.used in
    let s = take (v - u) (drop u block) in
    let x = run st (take u block) in
    let n : u + (v - u) ≡ m.place.used = omega (arith, block-grows block k, ap (λ (d : Desk). d.place.used) e) in
    let fresh : core (state_of k) ≡ state_of k = ap core (desk_carried k.place k.line k.out h)
    ∙ sym (desk_carried k.place k.line k.out h) in
    ap (λ (i : ℕ). (run st (take i block)).printed) (sym n)
    ∙ ap (λ (l : List ℕ). (run st l).printed) (take-add u (v - u) block)
    ∙ ap (λ (z : State). z.printed) (run-append st (take u block) s)
    ∙ run-printed x s
    ∙ ap (λ (z : State). x.printed ++ (run z s).printed) (sym c ∙ fresh)
    ∙ ap (λ (z : State). x.printed ++ z.printed) (sym (block-state block k))
    ∙ ap (λ (d : Desk). x.printed ++ take d.place.at d.out) (sym e)

pub end_fits : (p : Place) (line out : List ℕ) → p.held ≤ 1025 → length line ≡ 1025 → p.at ≡ 0 → length out ≡ 65536
    → room_for 1026 (desk p line out) ≡ true
unfolding fits
end_fits p line out h l a o = grind arith

pub run_after : (st now : State) (before block : List ℕ) → now ≡ core (run st before)
    → core (run now block) ≡ core (run st (before ++ block))
run_after st now before block e =
    ap (λ (z : State). core (run z block)) e
    ∙ sym (core-run (run st before) block)
    ∙ ap core (sym (run-append st before block))

pub printed_after : (st now : State) (before block : List ℕ) → now ≡ core (run st before)
    → (run st before).printed ++ (run now block).printed ≡ (run st (before ++ block)).printed
printed_after st now before block e =
    ap (λ (z : State). (run st before).printed ++ (run z block).printed) e
    ∙ sym (run-printed (run st before) block)
    ∙ ap (λ (z : State). z.printed) (sym (run-append st before block))

whole : (p : Plant) (xs : List ℕ) → said (run (start p) xs) ≡ printed p xs
unfolding run_blocks joined
whole p xs = printed-whole p (xs ∷ []) ∙ ap (printed p) (append-nil xs)

pub all_printed : (p : Plant) (now : State) (xs : List ℕ) → now ≡ core (run (start p) xs)
    → (run (start p) xs).printed ++ said now ≡ printed p xs
all_printed p now xs e =
    ap (λ (z : State). (run (start p) xs).printed ++ said z) e ∙ whole p xs

pub begun_printed : (p : Plant) → (run (start p) []).printed ≡ []
unfolding run
begun_printed p = refl

pub begun_carried : (p q : Plant) (line : List ℕ) → q ≡ p → carried (place_at 0 0 0 q) line ≡ core (run (start p) [])
unfolding run
begun_carried p q line e = ap (λ (z : Plant). core (start z)) e
