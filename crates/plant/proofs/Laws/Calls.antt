-- An answer tells exactly the refusal that applies first, or what its call tells. Assumes nothing.
--
--   fed-told, returned-told        what a conversion tells where it does not refuse
--   tells-by                       what each call tells where no refusal applies
--   tells                          TellsLaw
--   sent-first                     the refusal of an answer is the one that applies first
--   exact                          ExactLaw
--   figures-kept                   FiguresLaw
--   Answered, answered             the three clauses of a call's contract, by the first
--   ruled-answered                 the same by what the call's tests gave
--   previewed                      and of a preview's, by the call's
--   settle-passed, settle-passes   what an accepted settle tells of its tests, and that no more is needed
use mathlib.Core.Bool.{true, ◌&&◌}
use mathlib.Core.List.{List, [], ◌∷◌}
use mathlib.Core.Path.{◌≡◌, refl, ap, ◌∙◌}
use Prim.Native.Nat.{ℕ, ◌+◌}
use lib.Dec.{eqb}
use borrow.Author.Tests.{eq-eqb, eqb-true}
use Rattle.std.proofs.lemmas.Bool.{and_parts}
use Rattle.std.specs.Prelude.{Option, None, Some, Result, Ok, Err}
use Rattle.refusals.specs.declared.Refusal.{Refusal}
use Rattle.refusals.specs.declared.Refusal.TheVariants.{ColumnAbove, CodOpen, TknOpen, CarriedOpen}
use Rattle.refusals.specs.Refusal.{number_of}
use Rattle.refusals.specs.Tests.{unless, first, decide}
use Rattle.vectors.specs.declared.units.Milligrams.{Milligrams}
use Rattle.vectors.specs.Columns.{digester_ceilings, within}
use Rattle.vectors.specs.Draw.{drawn, rest}
use Rattle.vectors.specs.Totals.{digester_cod, digester_tkn, digester_oxygen, digester_nitrate}
use Rattle.interface.specs.declared.feed.Fed.{Fed}
use Rattle.interface.specs.declared.returning.Returned.{Returned}
use Rattle.interface.specs.Feed.{feed_of}
use Rattle.interface.specs.Return.{return_of}
use Rattle.plant.specs.declared.record.Plant.{Plant}
use Rattle.plant.specs.declared.answer.Call.{Call}
use Rattle.plant.specs.declared.answer.Call.TheVariants as call
use Rattle.plant.specs.declared.answer.Request.{Request}
use Rattle.plant.specs.declared.answer.Outcome.{Outcome}
use Rattle.plant.specs.declared.answer.Told.{Told}
use Rattle.plant.specs.Record.{record_refusal}
use Rattle.plant.specs.Answer.{told, refused_with, outcome_of}
use Rattle.plant.specs.Calls.{fed_tests, fed, fed_told, returned_tests, returned, returned_told}
use Rattle.plant.specs.Calls.{receive, feed, settle, give_back, release, recycle, draw, accept}
use Rattle.plant.specs.Calls.{rule_by, ruled, step_by, step, preview_of}
use Rattle.plant.specs.Calls.{refusal_for, tells_by, told_by, told_for, settling}
use Rattle.plant.specs.Calls.{TellsLaw, ExactLaw, FiguresLaw}
use Rattle.plant.proofs.Laws.Decision.{decide-case, draw-passed, number-passed-by, number-passed}
use Rattle.plant.proofs.Laws.Record.{record-number}

fed-told : (p : Plant) (x : Result Fed Refusal) (r : List ℕ) → (first (fed_tests p x) ≡ None → told (fed p x r).answer ≡ fed_told x)
    × ((fed_told x).number ≡ 0)
fed-told p (Ok o) r = ((λ e. refl), refl)
fed-told p (Err n) r = ((λ e. absurd (cc e)), refl)

returned-told : (p : Plant) (x : Result Returned Refusal) (r : List ℕ)
    → (first (returned_tests p x) ≡ None → told (returned p x r).answer ≡ returned_told x) × ((returned_told x).number ≡ 0)
returned-told p (Ok o) r = ((λ e. refl), refl)
returned-told p (Err n) r = ((λ e. absurd (cc e)), refl)

-- what each call tells where no refusal applies, which is no number: a further call is one more row
tells-by : (p : Plant) (c : Call) (v d : List ℕ)
    → (first (rule_by p c v d).tests ≡ None → told (rule_by p c v d).done.answer ≡ tells_by p c) × ((tells_by p c).number ≡ 0)
unfolding receive feed settle give_back release recycle draw accept
tells-by p call.Receive v d = ((λ e. refl), refl)
tells-by p (call.Feed k) v d =
    let t = fed-told p (feed_of p.figures (drawn k p.sludge)) (rest k p.sludge) in
    ((λ e. t.0 (draw-passed p k (fed_tests p (feed_of p.figures (drawn k p.sludge))) e).1), t.1)
tells-by p (call.Settle gas) v d = ((λ e. refl), refl)
tells-by p (call.Return k) v d =
    let t = returned-told p (return_of p.figures (drawn k p.digester)) (rest k p.digester) in
    ((λ e. t.0 (draw-passed p k (returned_tests p (return_of p.figures (drawn k p.digester))) e).1), t.1)
tells-by p (call.Release k) v d = ((λ e. refl), refl)
tells-by p (call.Recycle k) v d = ((λ e. refl), refl)
tells-by p (call.Draw k) v d = ((λ e. refl), refl)
tells-by p (call.Accept n) v d = ((λ e. refl), refl)

-- a decision tells its refusal, or what its outcome tells
decide-told : (p : Plant) (t : Option Refusal) (o : Outcome) (w : Told) → (t ≡ None → told o.answer ≡ w)
    → told (outcome_of p (decide t o)).answer ≡ told_by t w
decide-told p None o w h = h refl
decide-told p (Some r) o w h = refl

pub tells : TellsLaw
unfolding step_by ruled told_for
tells p r =
    let rule = rule_by p r.call r.sludge r.digester in
    decide-told p (first rule.tests) rule.done (tells_by p r.call) (tells-by p r.call r.sludge r.digester).0

-- the refusal of an answer is the one that applies first
fed-sent : (p : Plant) (x : Result Fed Refusal) (r : List ℕ) → first (fed_tests p x) ≡ None → refused_with (fed p x r).answer ≡ None
fed-sent p (Ok o) r e = refl
fed-sent p (Err n) r e = absurd (cc e)

returned-sent : (p : Plant) (x : Result Returned Refusal) (r : List ℕ) → first (returned_tests p x) ≡ None
    → refused_with (returned p x r).answer ≡ None
returned-sent p (Ok o) r e = refl
returned-sent p (Err n) r e = absurd (cc e)

sent-by : (p : Plant) (c : Call) (v d : List ℕ) → first (rule_by p c v d).tests ≡ None
    → refused_with (rule_by p c v d).done.answer ≡ None
unfolding receive feed settle give_back release recycle draw accept
sent-by p call.Receive v d e = refl
sent-by p (call.Feed k) v d e =
    let x = feed_of p.figures (drawn k p.sludge) in
    fed-sent p x (rest k p.sludge) (draw-passed p k (fed_tests p x) e).1
sent-by p (call.Settle gas) v d e = refl
sent-by p (call.Return k) v d e =
    let x = return_of p.figures (drawn k p.digester) in
    returned-sent p x (rest k p.digester) (draw-passed p k (returned_tests p x) e).1
sent-by p (call.Release k) v d e = refl
sent-by p (call.Recycle k) v d e = refl
sent-by p (call.Draw k) v d e = refl
sent-by p (call.Accept n) v d e = refl

decide-sent : (p : Plant) (t : Option Refusal) (o : Outcome) → (t ≡ None → refused_with o.answer ≡ None)
    → refused_with (outcome_of p (decide t o)).answer ≡ t
decide-sent p None o h = h refl
decide-sent p (Some r) o h = refl

pub sent-first : (p : Plant) (r : Request)
    → refused_with (step p r).answer ≡ first (rule_by p r.call r.sludge r.digester).tests
unfolding step_by ruled
sent-first p r =
    let rule = rule_by p r.call r.sludge r.digester in
    decide-sent p (first rule.tests) rule.done (sent-by p r.call r.sludge r.digester)

-- the number of what is told, where the call tells no number of its own
number_is : (t : Option Refusal) (w : Told) → w.number ≡ 0 → (told_by t w).number ≡ number_of t
number_is None w h = h
number_is (Some r) w h = refl

pub exact : ExactLaw
unfolding told_for
exact p r = ap (λ (t : Told). t.number) (tells p r)
    ∙ number_is (first (rule_by p r.call r.sludge r.digester).tests) (tells_by p r.call) (tells-by p r.call r.sludge r.digester).1

-- ---- the figures

fed-figures : (p : Plant) (x : Result Fed Refusal) (r : List ℕ) → (fed p x r).plant.figures ≡ p.figures
fed-figures p (Ok o) r = refl
fed-figures p (Err n) r = refl

returned-figures : (p : Plant) (x : Result Returned Refusal) (r : List ℕ) → (returned p x r).plant.figures ≡ p.figures
returned-figures p (Ok o) r = refl
returned-figures p (Err n) r = refl

done-figures : (p : Plant) (c : Call) (v d : List ℕ) → (rule_by p c v d).done.plant.figures ≡ p.figures
unfolding receive feed settle give_back release recycle draw accept
done-figures p call.Receive v d = refl
done-figures p (call.Feed k) v d = fed-figures p (feed_of p.figures (drawn k p.sludge)) (rest k p.sludge)
done-figures p (call.Settle gas) v d = refl
done-figures p (call.Return k) v d = returned-figures p (return_of p.figures (drawn k p.digester)) (rest k p.digester)
done-figures p (call.Release k) v d = refl
done-figures p (call.Recycle k) v d = refl
done-figures p (call.Draw k) v d = refl
done-figures p (call.Accept n) v d = refl

pub figures-kept : FiguresLaw
unfolding step_by ruled
figures-kept p r =
    let rule = rule_by p r.call r.sludge r.digester in
    let done = done-figures p r.call r.sludge r.digester in
    decide-case (λ o. o.plant.figures ≡ p.figures) p (first rule.tests) rule.done (λ e. done) (λ n e. refl)

-- ---- the clauses of a call's contract

pub record Answered (p : Plant) (r : Request) (o : Outcome) : Type 0 where
  pub outcome : o ≡ step p r
  pub tells : told o.answer ≡ told_for p r
  pub figures : o.plant.figures ≡ p.figures

pub answered : (p : Plant) (r : Request) {o : Outcome} → o ≡ step p r → Answered p r o
answered p r e =
    record {
      outcome = e;
      tells = ap (λ (x : Outcome). told x.answer) e ∙ tells p r;
      figures = ap (λ (x : Outcome). x.plant.figures) e ∙ figures-kept p r;
    }

pub ruled-answered : (p : Plant) (r : Request) {x : Result Outcome Refusal} {o : Outcome}
    → x ≡ ruled (rule_by p r.call r.sludge r.digester) → o ≡ outcome_of p x → Answered p r o
unfolding step_by
ruled-answered p r e g = answered p r (g ∙ ap (outcome_of p) e)

pub previewed : (p : Plant) (r : Request) {o : Outcome} → o ≡ step p r
    → let x : Outcome = record { answer = o.answer; vector = o.vector; plant = p } in
    (x ≡ preview_of p r) × (told x.answer ≡ told_for p r)
unfolding preview_of
previewed p r e =
    (ap (λ (x : Outcome). record { answer = x.answer; vector = x.vector; plant = p }) e, (answered p r e).tells)

-- ---- from an accepted settle to its tests

pub record SettlePassed (p : Plant) (g : Milligrams) (d : List ℕ) : Type 0 where
  pub held : record_refusal p ≡ None
  pub proposed : within digester_ceilings d ≡ true
  pub cod : digester_cod p.digester ≡ digester_cod d + g.0
  pub tkn : digester_tkn p.figures p.digester ≡ digester_tkn p.figures d
  pub oxygen : digester_oxygen p.digester ≡ digester_oxygen d
  pub nitrate : digester_nitrate p.digester ≡ digester_nitrate d

pub settle-passed : (p : Plant) (g : Milligrams) (d : List ℕ) → refusal_for p (settling g d) ≡ 0 → SettlePassed p g d
unfolding settle
settle-passed p g d e =
    let old = p.digester in
    let same = eqb (digester_oxygen old) (digester_oxygen d) && eqb (digester_nitrate old) (digester_nitrate d) in
    let t_9 = unless same CarriedOpen ∷ [] in
    let t_8 = unless (eqb (digester_tkn p.figures old) (digester_tkn p.figures d)) TknOpen ∷ t_9 in
    let t_7 = unless (eqb (digester_cod old) (digester_cod d + g.0)) CodOpen ∷ t_8 in
    let at-record = number-passed-by (record_refusal p) (unless (within digester_ceilings d) ColumnAbove ∷ t_7) (record-number p) e in
    let at-columns = number-passed (within digester_ceilings d) ColumnAbove t_7 tt at-record.1 in
    let at-cod = number-passed (eqb (digester_cod old) (digester_cod d + g.0)) CodOpen t_8 tt at-columns.1 in
    let at-tkn = number-passed (eqb (digester_tkn p.figures old) (digester_tkn p.figures d)) TknOpen t_9 tt at-cod.1 in
    let carried = and_parts _ _ (number-passed same CarriedOpen [] tt at-tkn.1).0 in
    record {
      held = at-record.0;
      proposed = at-columns.0;
      cod = eqb-true _ _ at-cod.0;
      tkn = eqb-true _ _ at-tkn.0;
      oxygen = eqb-true _ _ carried.0;
      nitrate = eqb-true _ _ carried.1;
    }

-- and back
pub settle-passes : (p : Plant) (g : Milligrams) (d : List ℕ) → SettlePassed p g d → refusal_for p (settling g d) ≡ 0
unfolding settle
settle-passes p g d s =
    rw (s.held, s.proposed, eq-eqb _ _ s.cod, eq-eqb _ _ s.tkn, eq-eqb _ _ s.oxygen, eq-eqb _ _ s.nitrate) refl
