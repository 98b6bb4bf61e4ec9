-- Laws of writing into a buffer. Assumes nothing.
--
--   put_first                      bytes at the start
--   put-none, put-nothing          nothing, put anywhere
--   put_then                       two writers, one behind the other, are one
--   put_same                       the bytes under another name
--   put-left, put-fits, put-room   bytes that do not fit, and bytes that do
--   answered, filled, behind       an answer at the start, the part that it fills, and the bytes behind it
use mathlib.Core.List.{List, [], ◌++◌, append_assoc}
use mathlib.Core.Path.{◌≡◌, sym, ap, subst, ◌∙◌}
use Prim.Native.Nat.{ℕ, ◌+◌, ◌≤◌, ◌<◌}
use native.Mathlib.Nat.{zero-add, add-zero, add_assoc}
use native.Mathlib.Omega.{arith}
use lib.ListN.{take-append-drop, length, take, drop, length-append, length-drop}
use lib.Seq.{drop-drop, length-take-le, take_at, drop_at}
use mathlib.Core.Bool.{cond}
use borrow.Author.Tests.{le-leb, lt-leb}
use Rattle.writing.specs.Buffer.{put_at, Put, fitted, Answered}

-- at the start of the buffer
pub put_first : (d s : List ℕ) → put_at d 0 s ≡ s ++ drop (length s) d
unfolding put_at
put_first d s = rw zero-add

length-put : (d : List ℕ) (at : ℕ) (s : List ℕ) → at + length s ≤ length d → length (put_at d at s) ≡ length d
unfolding put_at
length-put d at s h = simp (length-append, length-drop, length-take-le at d (omega arith)) (omega arith)

put-put : (d : List ℕ) (at : ℕ) (a b : List ℕ) → at + (length a + length b) ≤ length d
    → put_at (put_at d at a) (at + length a) b ≡ put_at d at (a ++ b)
unfolding put_at
put-put d at a b h =
    let L = take at d ++ (a ++ drop (at + length a) d) in
    let l : L ≡ (take at d ++ a) ++ drop (at + length a) d = sym (append_assoc (take at d) a (drop (at + length a) d)) in
    let p : length (take at d ++ a) ≡ at + length a = simp (length-append, length-take-le at d (omega arith)) in
    let q : take (at + length a) L ≡ take at d ++ a =
    ap (take (at + length a)) l ∙ take_at (take at d ++ a) (drop (at + length a) d) (at + length a) p in
    let r : drop (at + length a) L ≡ drop (at + length a) d =
    ap (drop (at + length a)) l ∙ drop_at (take at d ++ a) (drop (at + length a) d) (at + length a) p in
    let t : drop (at + length a + length b) L ≡ drop (at + length a + length b) d =
    sym (drop-drop (length b) (at + length a) L) ∙ ap (drop (length b)) r ∙ drop-drop (length b) (at + length a) d in
    let e = add_assoc at (length a) (length b) in
    let u : drop (at + (length a + length b)) L ≡ drop (at + (length a + length b)) d =
    ap (λ (k : ℕ). drop k L) (sym e) ∙ t ∙ ap (λ (k : ℕ). drop k d) e in
    simp (q, u, append_assoc, length-append, add_assoc)

pub put-none : (d : List ℕ) (at : ℕ) (s : List ℕ) → d ≡ put_at d at (take 0 s)
unfolding put_at
put-none d at s = sym (rw add-zero (take-append-drop at d))

-- ---- writers one behind the other

pub put-nothing : (d : List ℕ) (at : ℕ) → Put d at [] at d
put-nothing d at = record { next = omega arith; bytes = put-none d at [] }

module _ {d : List ℕ} {at : ℕ} {a : List ℕ} {m : ℕ} {e : List ℕ} where
  pub put_then : {b : List ℕ} {r : ℕ} {f : List ℕ} → Put d at a m e → Put e m b r f → r ≤ length d → Put d at (a ++ b) r f
  put_then {b} {r} {f} p q h =
      record {
        next = omega (arith, p.next, q.next, length-append a b);
        bytes = q.bytes
            ∙ ap (λ (x : List ℕ). put_at x m b) p.bytes
            ∙ ap (λ (j : ℕ). put_at (put_at d at a) j b) p.next
            ∙ put-put d at a b (omega (arith, p.next, q.next));
      }

  pub put_same : {b : List ℕ} → a ≡ b → Put d at a m e → Put d at b m e
  put_same q p = subst (λ (s : List ℕ). Put d at s m e) q p

-- ---- where the bytes fit, and where they do not

fitted-all : (m at : ℕ) (s : List ℕ) → at + length s ≤ m → fitted m at s ≡ s
unfolding fitted
fitted-all m at s h = ap (λ b. cond b s []) (le-leb (at + length s) m h)

fitted_none : (m at : ℕ) (s : List ℕ) → m < at + length s → fitted m at s ≡ []
unfolding fitted
fitted_none m at s h = ap (λ b. cond b s []) (lt-leb (at + length s) m h)

pub put-left : (d : List ℕ) (at : ℕ) (s : List ℕ) → length d < at + length s → Put d at (fitted (length d) at s) at d
put-left d at s h = put_same (sym (fitted_none (length d) at s h)) (record { next = sym (add-zero at); bytes = put-none d at s })

module _ {d e : List ℕ} {r : ℕ} (at : ℕ) (s : List ℕ) where
  pub put-fits : at + length s ≤ length d → Put d at s r e → Put d at (fitted (length d) at s) r e
  put-fits h p = put_same (sym (fitted-all (length d) at s h)) p

  pub put-room : at + length s ≤ length d → Put d at (fitted (length d) at s) r e → Put d at s r e
  put-room h p = put_same (fitted-all (length d) at s h) p

-- ---- at the start of the buffer

pub answered : {d s : List ℕ} {r : ℕ} {e : List ℕ} → Put d 0 s r e → r ≤ 512 → Answered d s r e
answered {d} {s} p h = record { count = p.next ∙ zero-add (length s); buffer = p.bytes ∙ put_first d s; within = h }

pub filled : {d s : List ℕ} {r : ℕ} {e : List ℕ} → Answered d s r e → take r e ≡ s
filled {d} {s} {r} p = ap (take r) p.buffer ∙ take_at s (drop (length s) d) r (sym p.count)

pub behind : {d s : List ℕ} {r : ℕ} {e : List ℕ} → Answered d s r e → drop r e ≡ drop (length s) d
behind {d} {s} {r} p = ap (drop r) p.buffer ∙ drop_at s (drop (length s) d) r (sym p.count)
