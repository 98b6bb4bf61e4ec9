-- The record stays within its ceilings over any call. Assumes nothing.
--
--   tanks-within                  three tanks within their ceilings are a record within its own
--   fed-within, returned-within   what becomes of a conversion is such a record where no refusal applies
--   filled, handed                what is added to sludge, and what is drawn from reject, leave such a record
--   done-within                   each call leaves such a record where no refusal applies
--   step-within                   any call does
--   fresh-within                  a fresh record is one
use mathlib.Core.Bool.{Bool, true}
use mathlib.Core.List.{List, [], ◌∷◌}
use mathlib.Core.Path.{◌≡◌, refl}
use Prim.Native.Nat.{ℕ}
use Rattle.vectors.proofs.Laws.Draw.{within-rest}
use Rattle.vectors.specs.declared.figures.Figures.{Figures}
use Rattle.vectors.specs.Columns.{asm1_ceilings, digester_ceilings, within, added}
use Rattle.vectors.specs.Draw.{drawn, rest}
use Rattle.plant.specs.declared.record.Plant.{Plant}
use Rattle.plant.specs.declared.answer.Call.{Call}
use Rattle.plant.specs.declared.answer.Call.TheVariants as call
use Rattle.plant.specs.declared.answer.Request.{Request}
use Rattle.plant.specs.declared.answer.Outcome.{Outcome}
use Rattle.plant.specs.Record.{fresh_plant, record_within, record_refusal}
use Rattle.std.specs.Prelude.{None, Result, Ok, Err}
use Rattle.refusals.specs.declared.Refusal.{Refusal}
use Rattle.refusals.specs.declared.Refusal.TheVariants.{ColumnAbove, TankAbove}
use Rattle.refusals.specs.Tests.{unless, first}
use Rattle.interface.specs.declared.feed.Fed.{Fed}
use Rattle.interface.specs.declared.returning.Returned.{Returned}
use Rattle.plant.specs.Calls.{receive, feed, settle, give_back, release, recycle, draw, accept, rule_by, ruled, step_by, step}
use Rattle.plant.specs.Nitrite.{acceptable, with_nitrite}
use Rattle.interface.specs.Feed.{feed_of}
use Rattle.interface.specs.Return.{return_of}
use Rattle.plant.specs.Calls.{settled_tests, fed_tests, fed, returned_tests, returned}
use Rattle.plant.proofs.Laws.Record.{sludge-within, digester-within, reject-within}
use Rattle.plant.proofs.Laws.Decision.{decide-case, passed-by, passed, draw-passed}

-- ---- records

pub tanks-within : (p : Plant) → within asm1_ceilings p.sludge ≡ true → within digester_ceilings p.digester ≡ true
    → within asm1_ceilings p.reject ≡ true → record_within p ≡ true
unfolding record_within
tanks-within p s d r = rw (s, d) r

-- ---- the calls

abbrev Stays : Outcome → Type 0
Stays o = record_within o.plant ≡ true

module _ (p : Plant) (h : record_within p ≡ true) where
  fed-within : (x : Result Fed Refusal) (r : List ℕ) → within asm1_ceilings r ≡ true → first (fed_tests p x) ≡ None → Stays (fed p x r)
  fed-within (Ok o) r w e =
      tanks-within _ w (passed (within digester_ceilings (added p.digester o.vector)) TankAbove [] e).0 (reject-within p h)
  fed-within (Err n) r w e = absurd (cc e)

  returned-within : (x : Result Returned Refusal) (r : List ℕ) → within digester_ceilings r ≡ true → first (returned_tests p x) ≡ None
      → Stays (returned p x r)
  returned-within (Ok o) r w e =
      tanks-within _ (sludge-within p h) w (passed (within asm1_ceilings (added p.reject o.vector)) TankAbove [] e).0
  returned-within (Err n) r w e = absurd (cc e)

  -- a vector w is added to the sludge tank, once b holds of what is handed over
  filled : (b : Bool) (w : List ℕ)
      → first (record_refusal p ∷ unless b ColumnAbove ∷ unless (within asm1_ceilings (added p.sludge w)) TankAbove ∷ []) ≡ None
      → record_within (record { sludge = added p.sludge w; digester = p.digester; reject = p.reject; figures = p.figures }) ≡ true
  filled b w e =
      let fits = unless (within asm1_ceilings (added p.sludge w)) TankAbove ∷ [] in
      let at-columns = (passed-by (record_refusal p) (unless b ColumnAbove ∷ fits) e).1 in
      let at-tank = (passed b ColumnAbove fits at-columns).1 in
      tanks-within _ (passed (within asm1_ceilings (added p.sludge w)) TankAbove [] at-tank).0 (digester-within p h) (reject-within p h)

  -- what is drawn from reject leaves it within its ceilings
  handed : (k : ℕ)
      → record_within (record { sludge = p.sludge; digester = p.digester; reject = rest k p.reject; figures = p.figures }) ≡ true
  handed k = tanks-within _ (sludge-within p h) (digester-within p h) (within-rest k asm1_ceilings p.reject (reject-within p h))

  -- each call where no refusal applies: a further call is one more row
  done-within : (c : Call) (v d : List ℕ) → first (rule_by p c v d).tests ≡ None → Stays (rule_by p c v d).done
  unfolding receive feed settle give_back release recycle draw accept
  done-within call.Receive v d e = filled (within asm1_ceilings v) v e
  done-within (call.Feed k) v d e =
      let x = feed_of p.figures (drawn k p.sludge) in
      fed-within x _ (within-rest k asm1_ceilings p.sludge (sludge-within p h)) (draw-passed p k (fed_tests p x) e).1
  done-within (call.Settle g) v d e =
      let ts = unless (within digester_ceilings d) ColumnAbove ∷ settled_tests p.figures p.digester g d in
      let e1 = (passed-by (record_refusal p) ts e).1 in
      let proposed = (passed (within digester_ceilings d) ColumnAbove (settled_tests p.figures p.digester g d) e1).0 in
      tanks-within _ (sludge-within p h) proposed (reject-within p h)
  done-within (call.Return k) v d e =
      let x = return_of p.figures (drawn k p.digester) in
      returned-within x _ (within-rest k digester_ceilings p.digester (digester-within p h)) (draw-passed p k (returned_tests p x) e).1
  done-within (call.Release k) v d e = handed k
  done-within (call.Recycle k) v d e =
      let room = within asm1_ceilings (added p.sludge (drawn k p.reject)) in
      let fits = (passed room TankAbove [] (draw-passed p k (unless room TankAbove ∷ []) e).1).0 in
      tanks-within _ fits (digester-within p h) (within-rest k asm1_ceilings p.reject (reject-within p h))
  done-within (call.Draw k) v d e = handed k
  done-within (call.Accept n) v d e = filled (acceptable v n) (with_nitrite v n) e

pub step-within : (p : Plant) (r : Request) → record_within p ≡ true → record_within (step p r).plant ≡ true
unfolding step_by ruled
step-within p r h =
    let rule = rule_by p r.call r.sludge r.digester in
    decide-case Stays p (first rule.tests) rule.done (done-within p h r.call r.sludge r.digester) (λ n e. h)

pub fresh-within : (f : Figures) → record_within (fresh_plant f) ≡ true
unfolding record_within within
fresh-within f = refl
