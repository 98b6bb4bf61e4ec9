-- Laws of an answer in a buffer. Assumes nothing.
--
--   too_short      a buffer under 512 bytes keeps its bytes, and the answer has none
--   paged          a buffer of 512 bytes or more has the text that was written on its page
--   held-replied   the held line of equal totals
use mathlib.Core.Bool.{cond}
use mathlib.Core.List.{List, []}
use mathlib.Core.Path.{◌≡◌, refl, sym, ap, subst}
use Prim.Native.Nat.{ℕ, ◌+◌, ◌≤◌, ◌<◌}
use native.Mathlib.Omega.{arith}
use lib.ListN.{length}
use borrow.Author.Tests.{lt-ltb, le-ltb}
use Rattle.std.specs.Prelude.{Result}
use Rattle.refusals.specs.declared.Refusal.{Refusal}
use Rattle.holding.specs.declared.holding.HeldTotals.{HeldTotals}
use Rattle.writing.specs.declared.page.Page.{Page}
use Rattle.writing.specs.Buffer.{Put, Answered}
use Rattle.writing.specs.Page.{Wrote}
use Rattle.writing.proofs.Laws.Page.{written}
use Rattle.writing.specs.Answer.{held_text, fitting}
use Rattle.writing.proofs.Laws.Buffer.{answered}

pub fitting-none : (n : ℕ) (s : List ℕ) → n < 512 → fitting n s ≡ []
fitting-none n s h = ap (λ b. cond b [] s) (lt-ltb n 512 h)

pub fitting-all : (n : ℕ) (s : List ℕ) → 512 ≤ n → fitting n s ≡ s
fitting-all n s h = ap (λ b. cond b [] s) (le-ltb n 512 h)

pub too_short : (d s : List ℕ) → length d < 512 → Answered d (fitting (length d) s) 0 d
too_short d s h =
    let none = sym (fitting-none (length d) s h) in
    subst (λ (t : List ℕ). Answered d t 0 d) none (record { count = refl; buffer = refl; within = omega arith })

-- an answer on a page over a buffer of 512 bytes or more; e is what the buffer holds when the page is given up
pub paged : {p q : Page} {s e : List ℕ} → e ≡ q.bytes.now → 512 ≤ length p.bytes.now → p.at ≡ 0 → Wrote p s q × (q.at ≤ p.at + 512)
    → Answered p.bytes.now (fitting (length p.bytes.now) s) q.at e
paged {p} {q} {s} {e} last h start w =
    let d = p.bytes.now in
    let room = sym (fitting-all (length d) s h) in
    subst (λ (t : List ℕ). Answered d t q.at e) room
    (answered (subst (λ (j : ℕ). Put d j s q.at e) start (written last w.0))
    (omega (arith, w.1, start)))

module _ {d e : List ℕ} {r : ℕ} where
  pub held-replied : {h g : Result HeldTotals Refusal} → h ≡ g → Answered d (fitting (length d) (held_text h)) r e
      → Answered d (fitting (length d) (held_text g)) r e
  held-replied q p = subst (λ (x : Result HeldTotals Refusal). Answered d (fitting (length d) (held_text x)) r e) q p
