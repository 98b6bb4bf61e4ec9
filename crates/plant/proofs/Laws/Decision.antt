-- Laws of refusals in their order. Assumes nothing.
--
--   stop-all, pass-all            a refusal, or none, is the decision
--   stop-by, pass-by              a refusal sends away; where there is none, the decision is left to the next
--   stop, pass                    the same of a test: one that fails sends away
--   room-lost, room-found         the sum of two vectors, or its refusal, tells of the test
--   summed                        what the sludge tank would hold with a vector, or none
--   stop-first, pass-first, last-is   the same where tests give a refusal or none, and what the last one gives
--   flag                          a test of what a function gave is a test of what it stands for
--   number-case                   what holds where a number is 0, and where it is not, holds of the choice by it
--   decide-case                   what holds of the outcome where no refusal applies, and of the refusal that does, holds of the decision
--   passed-by, passed, draw-passed   what no refusal tells of the tests
--   number-passed-by, number-passed   the same by the number
use mathlib.Core.Bool.{Bool, true, false}
use mathlib.Core.List.{List, [], ◌∷◌}
use mathlib.Core.Path.{◌≡◌, refl, sym, ap, ◌∙◌}
use Prim.Native.Nat.{ℕ}
use native.Mathlib.Omega.{arith}
use lib.Dec.{T, eqb, ltb, ltb→lt}
use borrow.Author.Tests.{eqb-true, eqb-false}
use Rattle.std.specs.Prelude.{Option, None, Some, Result, Ok, Err, OnOk, IfErr, cond, ok_or}
use Rattle.std.specs.Result.{IsErrAnd, result_err}
use Rattle.refusals.specs.declared.Refusal.{Refusal}
use Rattle.refusals.specs.declared.Refusal.TheVariants.{NotThousandths}
use Rattle.refusals.specs.Refusal.{number, number_of}
use Rattle.refusals.specs.Tests.{unless, first, decide}
use Rattle.vectors.specs.Columns.{asm1_ceilings, within, added}
use Rattle.interface.proofs.Laws.Whole.{err-is}
use Rattle.plant.specs.declared.record.Plant.{Plant}
use Rattle.plant.specs.declared.answer.Outcome.{Outcome}
use Rattle.plant.specs.Record.{record_refusal, thousandths}
use Rattle.plant.specs.Answer.{refused, outcome_of}

-- ---- the way to a decision: x is what the code gives, and t its test

module _ {A : Type 0} (o : A) where
  pub stop-all : (t : Option Refusal) {e : Refusal} {x : Result A Refusal} → Some e ≡ t → IsErrAnd x (λ y. y ≡ e) → x ≡ decide t o
  stop-all t {x = x} g i = rw (sym g) (err-is x i refl)

  pub pass-all : (t : Option Refusal) → None ≡ t → Ok o ≡ decide t o
  pass-all t g = rw (sym g)

  pub stop-by : (t : Option Refusal) (ts : List (Option Refusal)) {e : Refusal} {x : Result A Refusal}
      → Some e ≡ t → IsErrAnd x (λ y. y ≡ e) → x ≡ decide (first (t ∷ ts)) o
  stop-by t ts {x = x} g i = rw (sym g) (err-is x i refl)

  pub pass-by : (t : Option Refusal) (ts : List (Option Refusal)) {x : Result A Refusal}
      → None ≡ t → x ≡ decide (first ts) o → x ≡ decide (first (t ∷ ts)) o
  pass-by t ts g e = rw (sym g) e

  pub stop : (b : Bool) (r : Refusal) (ts : List (Option Refusal)) {t : Bool} {e : Refusal} {x : Result A Refusal}
      → t ≡ b → (t ≡ false) × (e ≡ r) → IsErrAnd x (λ y. y ≡ e) → x ≡ decide (first (unless b r ∷ ts)) o
  stop b r ts {x = x} w f e = rw (sym w ∙ f.0) (err-is x e f.1)

  pub pass : (b : Bool) (r : Refusal) (ts : List (Option Refusal)) {t : Bool} {x : Result A Refusal}
      → t ≡ b → t ≡ true → x ≡ decide (first ts) o → x ≡ decide (first (unless b r ∷ ts)) o
  pass b r ts w f e = rw (sym w ∙ f) e

-- w is the sum s where its test b holds, or the refusal r
module _ {A : Type 0} (s : A) (r : Refusal) where
  pub room-lost : (b : Bool) {z : Option A} {w : Result A Refusal} {e : Refusal} → z ≡ cond b (Some s) None → w ≡ ok_or z r → w ≡ Err e
      → (b ≡ false) × (e ≡ r)
  room-lost b {e} p q t = go b (sym t ∙ q ∙ ap (λ (y : Option A). ok_or y r) p)
    where
      go : (b : Bool) → Err e ≡ ok_or (cond b (Some s) None) r → (b ≡ false) × (e ≡ r)
      go true h = absurd (cc h)
      go false h = (refl, cc h)

  pub room-found : (b : Bool) {z : Option A} {w : Result A Refusal} {y : A} → z ≡ cond b (Some s) None → w ≡ ok_or z r → w ≡ Ok y
      → (b ≡ true) × (y ≡ s)
  room-found b {y} p q t = go b (sym t ∙ q ∙ ap (λ (y : Option A). ok_or y r) p)
    where
      go : (b : Bool) → Ok y ≡ ok_or (cond b (Some s) None) r → (b ≡ true) × (y ≡ s)
      go true h = (refl, cc h)
      go false h = absurd (cc h)

-- the sludge tank with a vector, or none where a column would pass its ceiling
abbrev pub summed : Plant → List ℕ → Option (List ℕ)
summed p v = cond (within asm1_ceilings (added p.sludge v)) (Some (added p.sludge v)) None

-- a flag that a function gave, and the test of it
pub flag : {b r v : Bool} → r ≡ b → r ≡ v → b ≡ v
flag e t = sym e ∙ t

-- ---- the way to a refusal, or to none

module _ (x : Result Unit Refusal) where
  pub stop-first : (b : Bool) (r : Refusal) (ts : List (Option Refusal)) {t : Bool} {e : Refusal}
      → t ≡ b → (t ≡ false) × (e ≡ r) → IsErrAnd x (λ y. y ≡ e) → result_err x ≡ first (unless b r ∷ ts)
  stop-first b r ts {e = e} w f i = rw (sym w ∙ f.0) (ap (λ (y : Result Unit Refusal). result_err y) (err-is x i f.1))

  pub pass-first : (b : Bool) (r : Refusal) (ts : List (Option Refusal)) {t : Bool}
      → t ≡ b → t ≡ true → result_err x ≡ first ts → result_err x ≡ first (unless b r ∷ ts)
  pass-first b r ts w f e = rw (sym w ∙ f) e

-- what the last test gives
pub last-is : (x : Result Unit Refusal) (b : Bool) (r : Refusal) {t : Bool} → t ≡ b → OnOk x (t ≡ true)
    → IfErr x (λ e. (t ≡ false) × (e ≡ r)) → result_err x ≡ first (unless b r ∷ [])
last-is (Ok u) b r w p s = rw (sym w ∙ p) refl
last-is (Err e) b r w p s = rw (sym w ∙ s.0) (ap Some s.1)

-- ---- from a decision to its tests

pub number-case : {A : Type 0} (P : A → Type 0) (n : ℕ) (a b : A) → (n ≡ 0 → P a) → ((n ≡ 0 → ⊥) → P b) → P (cond (eqb n 0) a b)
number-case P n a b none some = go (eqb n 0) refl
  where
    go : (t : Bool) → eqb n 0 ≡ t → P (cond t a b)
    go true e = none (eqb-true n 0 e)
    go false e = some (eqb-false n 0 e)

pub decide-case : (P : Outcome → Type 0) (p : Plant) (t : Option Refusal) (o : Outcome) → (t ≡ None → P o)
    → ((r : Refusal) → t ≡ Some r → P (refused p r))
    → P (outcome_of p (decide t o))
decide-case P p None o taken sent = taken refl
decide-case P p (Some r) o taken sent = sent r refl

pub passed-by : (t : Option Refusal) (ts : List (Option Refusal)) → first (t ∷ ts) ≡ None → (t ≡ None) × (first ts ≡ None)
passed-by None ts e = (refl, e)
passed-by (Some r) ts e = absurd (cc e)

pub passed : (b : Bool) (r : Refusal) (ts : List (Option Refusal)) → first (unless b r ∷ ts) ≡ None → (b ≡ true) × (first ts ≡ None)
passed true r ts e = (refl, e)
passed false r ts e = absurd (cc e)

-- of a draw's two tests, and the rest
pub draw-passed : (p : Plant) (k : ℕ) (ts : List (Option Refusal))
    → first (record_refusal p ∷ unless (thousandths k) NotThousandths ∷ ts) ≡ None
    → (thousandths k ≡ true) × (first ts ≡ None)
draw-passed p k ts e =
    passed (thousandths k) NotThousandths ts (passed-by (record_refusal p) (unless (thousandths k) NotThousandths ∷ ts) e).1

-- h: a refusal of t has a number
pub number-passed-by : (t : Option Refusal) (ts : List (Option Refusal)) → (number_of t ≡ 0 → t ≡ None) → number_of (first (t ∷ ts)) ≡ 0
    → (t ≡ None) × (number_of (first ts) ≡ 0)
number-passed-by None ts h e = (refl, e)
number-passed-by (Some r) ts h e = absurd (cc (h e))

pub number-passed : (b : Bool) (r : Refusal) (ts : List (Option Refusal)) → T (ltb 0 (number r)) → number_of (first (unless b r ∷ ts)) ≡ 0
    → (b ≡ true) × (number_of (first ts) ≡ 0)
number-passed true r ts h e = (refl, e)
number-passed false r ts h e = absurd (omega (arith, ltb→lt 0 (number r) h, e))
