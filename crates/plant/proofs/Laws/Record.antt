-- Laws of the record's tests. Assumes nothing.
--
--   usable-permitted, usable-within                 the figures and the columns of a record that is not sent away
--   usable-is                                       and back
--   record-number                                   what sends a record away has a number
--   made-law                                        MadeLaw
--   sludge-within, digester-within, reject-within   the tanks of a record that is within its ceilings
--   thousandths-le                                  a k that passes is at most 1000
--   drawable                                        what a draw asks, by what the code tests: the record, and k
--   closes                                          COD that closes, tested without a sum
--   and-true, and-false                             a conjunction, by its first part
use mathlib.Core.Bool.{Bool, true, false, ◌&&◌}
use mathlib.Core.List.{[], ◌∷◌}
use mathlib.Core.Path.{◌≡◌, refl, sym, ap, ◌∙◌}
use Prim.Native.Nat.{ℕ, ◌+◌, ◌-◌, ◌≤◌}
use native.Mathlib.Omega.{arith}
use lib.Dec.{leb, eqb}
use borrow.Author.Tests.{leb-true, eqb-true, eqb-false, eq-eqb, ne_eqb}
use Rattle.std.proofs.lemmas.Bool.{and_parts}
use Rattle.std.specs.Prelude.{None, Some, cond}
use Rattle.refusals.specs.declared.Refusal.TheVariants.{RecordAbove, NotPermitted}
use Rattle.refusals.specs.Refusal.{number_of}
use Rattle.refusals.specs.Tests.{unless, first}
use Rattle.vectors.specs.Figures.{house, permitted, Permitted}
use Rattle.vectors.specs.Columns.{asm1_ceilings, digester_ceilings, within}
use Rattle.vectors.proofs.Laws.Figures.{permitted-law, house-permitted}
use Rattle.plant.specs.declared.record.Plant.{Plant}
use Rattle.plant.specs.declared.record.Made.{Made}
use Rattle.plant.specs.Record.{fresh_plant, record_within, record_refusal, thousandths, MadeLaw}
use Rattle.plant.proofs.Laws.Decision.{passed}

-- ---- what sends a record away

pub usable-permitted : (p : Plant) → record_refusal p ≡ None → Permitted p.figures
unfolding record_refusal
usable-permitted p e =
    (permitted-law p.figures).bounded (passed (permitted p.figures) NotPermitted (unless (record_within p) RecordAbove ∷ []) e).0

pub usable-within : (p : Plant) → record_refusal p ≡ None → record_within p ≡ true
unfolding record_refusal
usable-within p e =
    let columns = (passed (permitted p.figures) NotPermitted (unless (record_within p) RecordAbove ∷ []) e).1 in
    (passed (record_within p) RecordAbove [] columns).0

pub usable-is : (p : Plant) → Permitted p.figures → record_within p ≡ true → record_refusal p ≡ None
unfolding record_refusal
usable-is p h e = rw ((permitted-law p.figures).passes h, e) refl

pub record-number : (p : Plant) → number_of (record_refusal p) ≡ 0 → record_refusal p ≡ None
unfolding record_refusal
record-number p e = go (permitted p.figures) (record_within p) e
  where
    go : (a b : Bool) → number_of (first (unless a NotPermitted ∷ unless b RecordAbove ∷ [])) ≡ 0
        → first (unless a NotPermitted ∷ unless b RecordAbove ∷ []) ≡ None
    go false b e = absurd (omega (arith, e))
    go true false e = absurd (omega (arith, e))
    go true true e = refl

pub made-law : MadeLaw
made-law f = record { granted = granted; refused = refused (permitted f) refl; bounds = bounds (permitted f) refl }
  where
    of : Bool → Made
    of b = cond b (record { refusal = None; plant = fresh_plant f }) (record { refusal = Some NotPermitted; plant = fresh_plant house })

    granted : Permitted f → of (permitted f) ≡ of true
    granted h = ap of ((permitted-law f).passes h)

    refused : (b : Bool) → permitted f ≡ b → (Permitted f → ⊥) → of b ≡ of false
    refused true e h = absurd (h ((permitted-law f).bounded e))
    refused false e h = refl

    bounds : (b : Bool) → permitted f ≡ b → Permitted (of b).plant.figures
    bounds true e = (permitted-law f).bounded e
    bounds false e = house-permitted

-- ---- the tanks

pub sludge-within : (p : Plant) → record_within p ≡ true → within asm1_ceilings p.sludge ≡ true
unfolding record_within
sludge-within p e = (and_parts _ (within digester_ceilings p.digester && within asm1_ceilings p.reject) e).0

pub digester-within : (p : Plant) → record_within p ≡ true → within digester_ceilings p.digester ≡ true
unfolding record_within
digester-within p e = (and_parts _ (within asm1_ceilings p.reject) (and_parts (within asm1_ceilings p.sludge) _ e).1).0

pub reject-within : (p : Plant) → record_within p ≡ true → within asm1_ceilings p.reject ≡ true
unfolding record_within
reject-within p e = (and_parts (within digester_ceilings p.digester) _ (and_parts (within asm1_ceilings p.sludge) _ e).1).1

pub thousandths-le : (k : ℕ) → thousandths k ≡ true → k ≤ 1000
unfolding thousandths
thousandths-le k e = leb-true k 1000 (and_parts (leb 1 k) (leb k 1000) e).1

pub drawable : {A : Type 0} (p : Plant) (k : ℕ) {b : Bool} → (record_within p ≡ true → A)
    → None ≡ record_refusal p → b ≡ thousandths k → b ≡ true → A × (k ≤ 1000)
drawable p k held e f u = (held (usable-within p (sym e)), thousandths-le k (sym f ∙ u))

pub and-true : (a b : Bool) {x : Bool} → a ≡ true → x ≡ b → x ≡ (a && b)
and-true a b h e = rw h e

pub and-false : (a b : Bool) → a ≡ false → false ≡ (a && b)
and-false a b h = rw h

-- ---- a test of old = new + gas that adds nothing

pub closes : (old new gas : ℕ) → new ≤ old → eqb (old - new) gas ≡ eqb old (new + gas)
closes old new gas h = go (eqb (old - new) gas) refl
  where
    go : (b : Bool) → eqb (old - new) gas ≡ b → b ≡ eqb old (new + gas)
    go true e = sym (eq-eqb old (new + gas) (omega (arith, eqb-true (old - new) gas e)))
    go false e = sym (ne_eqb old (new + gas) (λ z. eqb-false (old - new) gas e (omega arith)))
