-- The balances over any list of calls, previews, sheets and blends. Assumes nothing.
--
--   Quantity           what a balance is about: a total of each vector, what nitrite counts for beside it, and what a call lets go of it
--   Kept               one call keeps a quantity
--   fed-kept, ..       what becomes of a conversion does
--   handed-out         what is handed out leaves reject, to whomever it goes
--   done-kept          each call does where no refusal applies
--   step_kept          any call does
--   receive-kept       what is a receive or nothing, as a sheet and a blend are, does
--   over               so does every list of them and of previews
--   cod-quantity, ..   the four quantities
--   both-sums          sums of two numbers over a list are the two sums
--   received-alone     what is received, where no nitrite counts beside it
--   balance            BalanceLaw
--   figures-stay       StayLaw
--   recycle-holds      RecycleLaw
--   recycle-moves      MovesLaw
--   previews-skipped   SkipLaw
--   sheets-as-calls    SheetLaw
--   blends-as-calls    BlendLaw
use mathlib.Core.Bool.{Bool, true, false, cond}
use mathlib.Core.List.{List, [], ◌∷◌}
use mathlib.Core.Path.{◌≡◌, refl, ap, subst, ◌∙◌}
use Prim.Native.Nat.{ℕ, ◌+◌, ◌≤◌}
use native.Mathlib.Nat.{zero-add}
use native.Mathlib.Omega.{arith}
use Rattle.std.specs.Prelude.{Option, None, Result, Ok, Err}
use Rattle.refusals.specs.declared.Refusal.{Refusal}
use Rattle.refusals.specs.declared.Refusal.TheVariants.{NotThousandths, TankAbove}
use Rattle.refusals.specs.Refusal.{number, number_of}
use Rattle.refusals.specs.Tests.{unless, first}
use Rattle.interface.specs.declared.feed.Fed as in_feed
use Rattle.interface.specs.declared.returning.Returned as in_return
use Rattle.std.specs.Prelude.{is_none}
use Rattle.vectors.specs.declared.figures.Figures.{Figures}
use Rattle.vectors.specs.Figures.{Permitted}
use Rattle.vectors.specs.Columns.{asm1_ceilings, within, added}
use Rattle.vectors.specs.Draw.{drawn, rest}
use Rattle.vectors.specs.Totals.{asm1_cod, asm1_tkn, asm1_oxygen, asm1_nitrate, digester_cod, digester_tkn, digester_oxygen}
use Rattle.vectors.specs.Totals.{digester_nitrate}
use Rattle.interface.specs.Feed.{feed_of}
use Rattle.interface.specs.Return.{return_of}
use Rattle.vectors.specs.Laws.{Linear}
use Rattle.vectors.proofs.Laws.Columns.{added-column}
use Rattle.vectors.proofs.Laws.Draw.{column-splits}
use Rattle.vectors.proofs.Laws.Totals.{total-laws}
use Rattle.interface.proofs.Laws.Feed.{feed-keeps}
use Rattle.interface.proofs.Laws.Return.{return-keeps}
use Rattle.plant.specs.declared.record.Plant.{Plant}
use Rattle.plant.specs.declared.answer.Answer.TheVariants.{Fed, Returned, Accepted}
use Rattle.plant.specs.declared.answer.Call.{Call}
use Rattle.plant.specs.declared.answer.Call.TheVariants as call
use Rattle.plant.specs.declared.answer.Request.{Request}
use Rattle.plant.specs.declared.answer.Outcome.{Outcome}
use Rattle.plant.specs.declared.answer.Told.{Told}
use Rattle.plant.specs.Record.{no_columns, fresh_plant, record_refusal, thousandths}
use Rattle.plant.specs.Answer.{nothing, told, refused}
use Rattle.plant.specs.Calls.{receive, feed, settle, give_back, release, recycle, draw, accept}
use Rattle.plant.specs.Calls.{rule_by, ruled, step_by, step, preview_of}
use Rattle.plant.specs.Calls.{fed_tests, fed, returned_tests, returned}
use Rattle.plant.specs.Calls.{receiving, recycling}
use Rattle.plant.proofs.Laws.Record.{usable-permitted, thousandths-le}
use Rattle.plant.proofs.Laws.Calls.{settle-passed, figures-kept}
use Rattle.plant.proofs.Laws.Decision.{decide-case, passed-by, draw-passed}
use Rattle.plant.specs.Nitrite.{with_nitrite, n2_of}
use Rattle.plant.proofs.Laws.Nitrite.{with-nitrite-adds}
use Rattle.vectors.specs.declared.units.Ticks.{Ticks}
use Rattle.sheets.specs.Sheet.{refusal_in, counts_of, sheet_step}
use Rattle.sheets.proofs.Laws.Sheet.{sheet-plant, sheet-figures}
use Rattle.blends.specs.Blend.{loads_of, draws, blend_tests, blend_step}
use Rattle.blends.proofs.Laws.Draws.{blend-plant, blend-figures}
use Rattle.balances.specs.Balance.{Entry, calls, previews, sheets, blends, after, receive_adds, sheet_adds, blend_adds, sum_over}
use Rattle.balances.specs.Balance.{without_previews, received_or, sheets_as_calls, blends_as_calls}
use Rattle.balances.specs.Balance.{counts, if_accepted, received_by, released_by, gas_by, nitrite_by}
use Rattle.balances.specs.Balance.{BalanceLaw, StayLaw, RecycleLaw, SkipLaw, SheetLaw, BlendLaw, Moved, MovesLaw}

-- ---- quantities

-- a balance is about a total of each vector, by a set of figures, what nitrite counts for beside a vector, and what a call lets go of it,
-- by what it tells and the gas COD that it is handed
record Quantity : Type 0 where
  asm1 : Figures → List ℕ → ℕ
  digester : Figures → List ℕ → ℕ
  nitrite : ℕ → ℕ
  lost : Told → ℕ → ℕ
  asm1-linear : (f : Figures) → Linear (asm1 f)
  digester-linear : (f : Figures) → Linear (digester f)
  -- a call that tells no value and is handed no gas, refused or not, lets nothing go
  silent : (n : ℕ) → lost (nothing n) 0 ≡ 0
  no-nitrite : nitrite 0 ≡ 0
  feeds : (f : Figures) → Permitted f → (c : List ℕ) (o : in_feed.Fed) → feed_of f c ≡ Ok o
      → asm1 f c ≡ digester f o.vector + lost (told (Fed o.burnt o.oxygen o.nitrate o.warn)) 0
  settles : (f : Figures) (g : ℕ) (a d : List ℕ) → digester_cod a ≡ digester_cod d + g → digester_tkn f a ≡ digester_tkn f d
      → digester_oxygen a ≡ digester_oxygen d → digester_nitrate a ≡ digester_nitrate d → digester f a ≡ digester f d + lost (nothing 0) g
  returns : (f : Figures) (c : List ℕ) (o : in_return.Returned) → return_of f c ≡ Ok o
      → digester f c ≡ asm1 f o.vector + lost (told (Returned o.stripped)) 0
  accepts : (f : Figures) (v : List ℕ) (n : Ticks)
      → asm1 f v + nitrite n.0 ≡ asm1 f (with_nitrite v n) + lost (told (Accepted (n2_of n))) 0

-- the tests of a draw passed: the figures are a permitted set, and k is one of thousandths
at-draw : (p : Plant) (k : ℕ) (ts : List (Option Refusal))
    → first (record_refusal p ∷ unless (thousandths k) NotThousandths ∷ ts) ≡ None → (Permitted p.figures × (k ≤ 1000)) × (first ts ≡ None)
at-draw p k ts e =
    let usable = (passed-by (record_refusal p) (unless (thousandths k) NotThousandths ∷ ts) e).0 in
    let drawn = draw-passed p k ts e in
    ((usable-permitted p usable, thousandths-le k drawn.0), drawn.1)

module _ (q : Quantity) where
  abbrev in_tanks : Plant → ℕ
  in_tanks p = q.asm1 p.figures p.sludge + q.digester p.figures p.digester + q.asm1 p.figures p.reject

  -- the call c, handed v, with the outcome o
  abbrev Kept : Plant → Call → List ℕ → Outcome → Type 0
  Kept p c v o =
      in_tanks p + (if_accepted o (cond (counts c).received (q.asm1 p.figures v) 0) + q.nitrite (if_accepted o (counts c).nitrite))
      ≡ in_tanks o.plant
      + if_accepted o (cond (counts c).released (q.asm1 p.figures o.vector) 0)
      + q.lost (told o.answer) (if_accepted o (counts c).gas)

  refused-kept : (p : Plant) (c : Call) (v : List ℕ) (r : Refusal) → Kept p c v (refused p r)
  refused-kept p c v r = omega (arith, q.silent (number r), q.no-nitrite)

  -- what becomes of a conversion that refuses nothing
  fed-kept : (p : Plant) (k : ℕ) (v : List ℕ) (x : Result in_feed.Fed Refusal) → Permitted p.figures × (k ≤ 1000)
      → feed_of p.figures (drawn k p.sludge) ≡ x → first (fed_tests p x) ≡ None → Kept p (call.Feed k) v (fed p x (rest k p.sludge))
  fed-kept p k v (Ok o) a h e =
      let given = q.feeds p.figures a.0 (drawn k p.sludge) o h in
      let drawn = (q.asm1-linear p.figures).splits k a.1 p.sludge in
      omega (arith, drawn, (q.digester-linear p.figures).adds p.digester o.vector, given, q.no-nitrite)
  fed-kept p k v (Err r) a h e = absurd (cc e)

  returned-kept : (p : Plant) (k : ℕ) (v : List ℕ) (x : Result in_return.Returned Refusal) → k ≤ 1000
      → return_of p.figures (drawn k p.digester) ≡ x → first (returned_tests p x) ≡ None
      → Kept p (call.Return k) v (returned p x (rest k p.digester))
  returned-kept p k v (Ok o) le h e =
      let given = q.returns p.figures (drawn k p.digester) o h in
      let drawn = (q.digester-linear p.figures).splits k le p.digester in
      omega (arith, drawn, (q.asm1-linear p.figures).adds p.reject o.vector, given, q.no-nitrite)
  returned-kept p k v (Err r) le h e = absurd (cc e)

  -- what is handed out leaves reject, to whomever it goes
  handed-out : (p : Plant) (k : ℕ) → first (record_refusal p ∷ unless (thousandths k) NotThousandths ∷ []) ≡ None
      → in_tanks p + (0 + q.nitrite 0)
      ≡ q.asm1 p.figures p.sludge + q.digester p.figures p.digester + q.asm1 p.figures (rest k p.reject)
      + q.asm1 p.figures (drawn k p.reject)
      + q.lost (nothing 0) 0
  handed-out p k e = omega (arith, (q.asm1-linear p.figures).splits k (at-draw p k [] e).0.1 p.reject, q.silent 0, q.no-nitrite)

  -- each call where no refusal applies: a further call is one more row
  done-kept : (p : Plant) (c : Call) (v d : List ℕ) → first (rule_by p c v d).tests ≡ None → Kept p c v (rule_by p c v d).done
  unfolding receive feed settle give_back release recycle draw accept
  done-kept p call.Receive v d e = omega (arith, (q.asm1-linear p.figures).adds p.sludge v, q.silent 0, q.no-nitrite)
  done-kept p (call.Feed k) v d e =
      let x = feed_of p.figures (drawn k p.sludge) in
      let a = at-draw p k (fed_tests p x) e in
      fed-kept p k v x a.0 refl a.1
  done-kept p (call.Settle g) v d e =
      let s = settle-passed p g d (ap number_of e) in
      omega (arith, q.settles p.figures g.0 p.digester d s.cod s.tkn s.oxygen s.nitrate, q.no-nitrite)
  done-kept p (call.Return k) v d e =
      let x = return_of p.figures (drawn k p.digester) in
      let a = at-draw p k (returned_tests p x) e in
      returned-kept p k v x a.0.1 refl a.1
  done-kept p (call.Release k) v d e = handed-out p k e
  done-kept p (call.Recycle k) v d e =
      let ts = unless (within asm1_ceilings (added p.sludge (drawn k p.reject))) TankAbove ∷ [] in
      let reject = (q.asm1-linear p.figures).splits k (at-draw p k ts e).0.1 p.reject in
      omega (arith, reject, (q.asm1-linear p.figures).adds p.sludge (drawn k p.reject), q.silent 0, q.no-nitrite)
  done-kept p (call.Draw k) v d e = handed-out p k e
  done-kept p (call.Accept n) v d e =
      omega (arith, (q.asm1-linear p.figures).adds p.sludge (with_nitrite v n), q.accepts p.figures v n)

  step_kept : (p : Plant) (c : Call) (v d : List ℕ) → Kept p c v (step_by p c v d)
  unfolding step_by ruled
  step_kept p c v d =
      let rule = rule_by p c v d in
      decide-case (Kept p c v) p (first rule.tests) rule.done (done-kept p c v d) (λ n e. refused-kept p c v n)

  recycle-kept : (p : Plant) (k : ℕ) → in_tanks p ≡ in_tanks (step p (recycling k)).plant
  unfolding step_by ruled recycle
  recycle-kept p k =
      let rule = recycle p k in
      decide-case (λ o. in_tanks p ≡ in_tanks o.plant) p (first rule.tests) rule.done
      (λ e. omega (arith, done-kept p (call.Recycle k) no_columns no_columns e, q.silent 0, q.no-nitrite))
      (λ n e. refl)

  -- ---- a list of calls, previews, sheets and blends

  abbrev let_go : Request → Outcome → ℕ
  let_go r o = q.lost (told o.answer) (gas_by r o)

  -- what a call is handed, with the totals by the figures f
  abbrev handed_in : Figures → Request → Outcome → ℕ
  handed_in f r o = received_by (q.asm1 f) r o + q.nitrite (nitrite_by r o)

  -- with the totals by the figures f
  abbrev CallKept : Plant → Request → Figures → Type 0
  CallKept p r f =
      let o = step p r in
      in_tanks p + handed_in f r o ≡ in_tanks o.plant + released_by (q.asm1 f) r o + let_go r o

  -- the receive of v on p, where b holds, with the record r after it
  abbrev ReceiveKept : Plant → Bool → List ℕ → Plant → Figures → Type 0
  ReceiveKept p b v r f =
      in_tanks p + receive_adds (handed_in f) p b v
      ≡ in_tanks r + receive_adds (released_by (q.asm1 f)) p b v + receive_adds let_go p b v

  receive-kept : (p : Plant) (b : Bool) (v : List ℕ) {r : Plant} {f : Figures} → r ≡ cond b (step p (receiving v)).plant p
      → p.figures ≡ f → ReceiveKept p b v r f
  receive-kept p true v {f = f} e g =
      rw e (subst (CallKept p (receiving v)) g (step_kept p (receiving v).call (receiving v).sludge (receiving v).digester))
  receive-kept p false v e g = rw e (omega arith)

  -- on a record of the figures f
  over : (f : Figures) (p : Plant) → p.figures ≡ f → (es : List Entry)
      → in_tanks p + sum_over (handed_in f) p es
      ≡ in_tanks (after p es) + sum_over (released_by (q.asm1 f)) p es + sum_over let_go p es
  unfolding preview_of
  over f p g [] = omega arith
  over f p g (calls r ∷ es) =
      let kept = subst (CallKept p r) g (step_kept p r.call r.sludge r.digester) in
      omega (arith, kept, over f (step p r).plant (figures-kept p r ∙ g) es)
  over f p g (previews r ∷ es) = omega (arith, over f p g es)
  over f p g (sheets s ∷ es) =
      let kept = receive-kept p (is_none (refusal_in s)) (counts_of s) (sheet-plant p s) g in
      omega (arith, kept, over f (sheet_step p s).plant (sheet-figures p s ∙ g) es)
  over f p g (blends c ks ∷ es) =
      let kept = receive-kept p (is_none (first (blend_tests p c ks))) (draws (loads_of c ks)) (blend-plant p c ks) g in
      omega (arith, kept, over f (blend_step p c ks) (blend-figures p c ks ∙ g) es)

  from-fresh : (f : Figures) (es : List Entry)
      → sum_over (handed_in f) (fresh_plant f) es
      ≡ in_tanks (after (fresh_plant f) es) + sum_over (released_by (q.asm1 f)) (fresh_plant f) es + sum_over let_go (fresh_plant f) es
  from-fresh f es = omega (arith, over f (fresh_plant f) refl es, (q.asm1-linear f).none 13, (q.digester-linear f).none 26)

-- ---- the four quantities

-- what a feed burns, a settle's gas and what a return strips
cod_lost : Told → ℕ → ℕ
cod_lost t g = t.burnt + g + t.stripped

cod-quantity : Quantity
unfolding cod_lost
cod-quantity =
    record {
      asm1 = λ f. asm1_cod;
      digester = λ f. digester_cod;
      nitrite = λ n. 0;
      lost = cod_lost;
      asm1-linear = λ f. total-laws.asm1_cod;
      digester-linear = λ f. total-laws.digester_cod;
      silent = λ n. refl;
      no-nitrite = refl;
      feeds = λ f h c o e. omega (arith, (feed-keeps f h c o e).cod);
      settles = λ f g a d cod tkn oxygen nitrate. omega arith;
      returns = λ f c o e. omega (arith, (return-keeps f c o e).cod);
      accepts = λ f v n. omega (arith, with-nitrite-adds total-laws.asm1_cod v n);
    }

tkn-quantity : Quantity
tkn-quantity =
    record {
      asm1 = asm1_tkn;
      digester = digester_tkn;
      nitrite = λ n. 0;
      lost = λ t g. 0;
      asm1-linear = total-laws.asm1_tkn;
      digester-linear = total-laws.digester_tkn;
      silent = λ n. refl;
      no-nitrite = refl;
      feeds = λ f h c o e. omega (arith, (feed-keeps f h c o e).tkn);
      settles = λ f g a d cod tkn oxygen nitrate. omega arith;
      returns = λ f c o e. omega (arith, (return-keeps f c o e).tkn);
      accepts = λ f v n. omega (arith, with-nitrite-adds (total-laws.asm1_tkn f) v n);
    }

oxygen-quantity : Quantity
oxygen-quantity =
    record {
      asm1 = λ f. asm1_oxygen;
      digester = λ f. digester_oxygen;
      nitrite = λ n. 0;
      lost = λ t g. t.oxygen;
      asm1-linear = λ f. total-laws.asm1_oxygen;
      digester-linear = λ f. total-laws.digester_oxygen;
      silent = λ n. refl;
      no-nitrite = refl;
      feeds = λ f h c o e. (feed-keeps f h c o e).oxygen;
      settles = λ f g a d cod tkn oxygen nitrate. omega arith;
      returns = λ f c o e. omega (arith, (return-keeps f c o e).oxygen);
      accepts = λ f v n. omega (arith, with-nitrite-adds total-laws.asm1_oxygen v n);
    }

-- what a feed reduces, and the N2 of an accept
nitrate_lost : Told → ℕ → ℕ
nitrate_lost t g = t.nitrate + t.n2

nitrate-quantity : Quantity
unfolding nitrate_lost
nitrate-quantity =
    record {
      asm1 = λ f. asm1_nitrate;
      digester = λ f. digester_nitrate;
      nitrite = λ n. n;
      lost = nitrate_lost;
      asm1-linear = λ f. total-laws.asm1_nitrate;
      digester-linear = λ f. total-laws.digester_nitrate;
      silent = λ n. refl;
      no-nitrite = refl;
      feeds = λ f h c o e. omega (arith, (feed-keeps f h c o e).nitrate);
      settles = λ f g a d cod tkn oxygen nitrate. omega arith;
      returns = λ f c o e. omega (arith, (return-keeps f c o e).nitrate);
      accepts = λ f v n. omega (arith, with-nitrite-adds total-laws.asm1_nitrate v n);
    }

-- ---- the law

-- sums of two numbers are the two sums
both-added : (a b : Request → Outcome → ℕ) (p : Plant) (t : Bool) (v : List ℕ)
    → receive_adds (λ r o. a r o + b r o) p t v ≡ receive_adds a p t v + receive_adds b p t v
both-added a b p true v = refl
both-added a b p false v = refl

both-sums : (a b : Request → Outcome → ℕ) (p : Plant) (es : List Entry)
    → sum_over (λ r o. a r o + b r o) p es ≡ sum_over a p es + sum_over b p es
both-sums a b p [] = refl
both-sums a b p (calls r ∷ es) = omega (arith, both-sums a b (step p r).plant es)
both-sums a b p (previews r ∷ es) = both-sums a b (preview_of p r).plant es
both-sums a b p (sheets s ∷ es) =
    omega (arith, both-added a b p (is_none (refusal_in s)) (counts_of s), both-sums a b (sheet_step p s).plant es)
both-sums a b p (blends c ks ∷ es) =
    let added = both-added a b p (is_none (first (blend_tests p c ks))) (draws (loads_of c ks)) in
    omega (arith, added, both-sums a b (blend_step p c ks) es)

none-added : (p : Plant) (b : Bool) (v : List ℕ) → receive_adds (λ r o. 0) p b v ≡ 0
none-added p true v = refl
none-added p false v = refl

no-sum : (p : Plant) (es : List Entry) → sum_over (λ r o. 0) p es ≡ 0
no-sum p [] = refl
no-sum p (calls r ∷ es) = omega (arith, no-sum (step p r).plant es)
no-sum p (previews r ∷ es) = no-sum (preview_of p r).plant es
no-sum p (sheets s ∷ es) = omega (arith, none-added p (is_none (refusal_in s)) (counts_of s), no-sum (sheet_step p s).plant es)
no-sum p (blends c ks ∷ es) =
    let none = none-added p (is_none (first (blend_tests p c ks))) (draws (loads_of c ks)) in
    omega (arith, none, no-sum (blend_step p c ks) es)

-- no nitrite is handed in beside a total
received-alone : (total : List ℕ → ℕ) (p : Plant) (es : List Entry)
    → sum_over (λ r o. received_by total r o + 0) p es ≡ sum_over (received_by total) p es
received-alone total p es = omega (arith, both-sums (received_by total) (λ r o. 0) p es, no-sum p es)

pub balance : BalanceLaw
unfolding cod-quantity tkn-quantity oxygen-quantity nitrate-quantity cod_lost nitrate_lost
balance f es =
    let p = fresh_plant f in
    let burnt = λ (r : Request) (o : Outcome). (told o.answer).burnt in
    let stripped = λ (r : Request) (o : Outcome). (told o.answer).stripped in
    let reduced = λ (r : Request) (o : Outcome). (told o.answer).nitrate in
    let n2 = λ (r : Request) (o : Outcome). (told o.answer).n2 in
    let cod-gone = both-sums (λ r o. burnt r o + gas_by r o) stripped p es in
    record {
      cod = omega (arith, from-fresh cod-quantity f es, received-alone asm1_cod p es, cod-gone, both-sums burnt gas_by p es);
      tkn = omega (arith, from-fresh tkn-quantity f es, received-alone (asm1_tkn f) p es, no-sum p es);
      oxygen = omega (arith, from-fresh oxygen-quantity f es, received-alone asm1_oxygen p es);
      nitrate = omega (
        arith,
        from-fresh nitrate-quantity f es,
        both-sums (received_by asm1_nitrate) nitrite_by p es,
        both-sums reduced n2 p es,
      );
    }

pub figures-stay : StayLaw
unfolding preview_of
figures-stay p [] = refl
figures-stay p (calls r ∷ es) = figures-stay (step p r).plant es ∙ figures-kept p r
figures-stay p (previews r ∷ es) = figures-stay p es
figures-stay p (sheets s ∷ es) = figures-stay (sheet_step p s).plant es ∙ sheet-figures p s
figures-stay p (blends c ks ∷ es) = figures-stay (blend_step p c ks) es ∙ blend-figures p c ks

pub recycle-holds : RecycleLaw
unfolding cod-quantity tkn-quantity oxygen-quantity nitrate-quantity
recycle-holds p k =
    record {
      cod = recycle-kept cod-quantity p k;
      tkn = recycle-kept tkn-quantity p k;
      oxygen = recycle-kept oxygen-quantity p k;
      nitrate = recycle-kept nitrate-quantity p k;
    }

pub recycle-moves : MovesLaw
unfolding step_by ruled recycle
recycle-moves p k =
    let rule = recycle p k in
    decide-case (Moved p (recycling k)) p (first rule.tests) rule.done (λ e. moved (at-draw p k _ e).0.1) (λ n e. kept n)
  where
    moved : k ≤ 1000 → Moved p (recycling k) (recycle p k).done
    moved h =
        record {
          columns = λ i. omega (arith, column-splits k h p.reject i, added-column p.sludge (drawn k p.reject) i);
          digester = refl;
          received = λ t. refl;
          released = λ t. refl;
          gas = refl;
          nitrite = refl;
          silent = refl;
        }

    kept : (n : Refusal) → Moved p (recycling k) (refused p n)
    kept n = record {
      columns = λ i. refl;
      digester = refl;
      received = λ t. refl;
      released = λ t. refl;
      gas = refl;
      nitrite = refl;
      silent = refl;
    }

-- ---- previews

after-skipped : (p : Plant) (es : List Entry) → after p es ≡ after p (without_previews es)
unfolding preview_of
after-skipped p [] = refl
after-skipped p (calls r ∷ es) = after-skipped (step p r).plant es
after-skipped p (previews r ∷ es) = after-skipped p es
after-skipped p (sheets s ∷ es) = after-skipped (sheet_step p s).plant es
after-skipped p (blends c ks ∷ es) = after-skipped (blend_step p c ks) es

sums-skipped : (of : Request → Outcome → ℕ) (p : Plant) (es : List Entry)
    → sum_over of p es ≡ sum_over of p (without_previews es)
unfolding preview_of
sums-skipped of p [] = refl
sums-skipped of p (calls r ∷ es) = ap (λ n. of r (step p r) + n) (sums-skipped of (step p r).plant es)
sums-skipped of p (previews r ∷ es) = sums-skipped of p es
sums-skipped of p (sheets s ∷ es) = ap (λ n. sheet_adds of p s + n) (sums-skipped of (sheet_step p s).plant es)
sums-skipped of p (blends c ks ∷ es) = ap (λ n. blend_adds of p c ks + n) (sums-skipped of (blend_step p c ks) es)

pub previews-skipped : SkipLaw
previews-skipped p es = record { plant = after-skipped p es; sums = λ of. sums-skipped of p es }

-- ---- sheets and blends as calls

-- the receive of v on p, where b holds, and the lists es behind it and ds in its place
module _ (p : Plant) (v : List ℕ) (ds es : List Entry) where
  after-received : (b : Bool) {q : Plant} → q ≡ cond b (step p (receiving v)).plant p → after q es ≡ after q ds
      → after q es ≡ after p (received_or b v ds)
  after-received true e h = h ∙ ap (λ (q : Plant). after q ds) e
  after-received false e h = h ∙ ap (λ (q : Plant). after q ds) e

  sums-received : (of : Request → Outcome → ℕ) (b : Bool) {q : Plant} → q ≡ cond b (step p (receiving v)).plant p
      → sum_over of q es ≡ sum_over of q ds → receive_adds of p b v + sum_over of q es ≡ sum_over of p (received_or b v ds)
  sums-received of true e h = ap (λ n. of (receiving v) (step p (receiving v)) + n) (h ∙ ap (λ (q : Plant). sum_over of q ds) e)
  sums-received of false e h = zero-add _ ∙ h ∙ ap (λ (q : Plant). sum_over of q ds) e

after-as-calls : (p : Plant) (es : List Entry) → after p es ≡ after p (sheets_as_calls es)
after-as-calls p [] = refl
after-as-calls p (calls r ∷ es) = after-as-calls (step p r).plant es
after-as-calls p (previews r ∷ es) = after-as-calls (preview_of p r).plant es
after-as-calls p (sheets s ∷ es) =
    after-received p (counts_of s) _ es (is_none (refusal_in s)) (sheet-plant p s) (after-as-calls (sheet_step p s).plant es)
after-as-calls p (blends c ks ∷ es) = after-as-calls (blend_step p c ks) es

sums-as-calls : (of : Request → Outcome → ℕ) (p : Plant) (es : List Entry)
    → sum_over of p es ≡ sum_over of p (sheets_as_calls es)
sums-as-calls of p [] = refl
sums-as-calls of p (calls r ∷ es) = ap (λ n. of r (step p r) + n) (sums-as-calls of (step p r).plant es)
sums-as-calls of p (previews r ∷ es) = sums-as-calls of (preview_of p r).plant es
sums-as-calls of p (sheets s ∷ es) =
    sums-received p (counts_of s) _ es of (is_none (refusal_in s)) (sheet-plant p s) (sums-as-calls of (sheet_step p s).plant es)
sums-as-calls of p (blends c ks ∷ es) = ap (λ n. blend_adds of p c ks + n) (sums-as-calls of (blend_step p c ks) es)

pub sheets-as-calls : SheetLaw
sheets-as-calls p es = record { plant = after-as-calls p es; sums = λ of. sums-as-calls of p es }

after-blended : (p : Plant) (es : List Entry) → after p es ≡ after p (blends_as_calls p es)
after-blended p [] = refl
after-blended p (calls r ∷ es) = after-blended (step p r).plant es
after-blended p (previews r ∷ es) = after-blended (preview_of p r).plant es
after-blended p (sheets s ∷ es) = after-blended (sheet_step p s).plant es
after-blended p (blends c ks ∷ es) =
    let b = is_none (first (blend_tests p c ks)) in
    after-received p (draws (loads_of c ks)) _ es b (blend-plant p c ks) (after-blended (blend_step p c ks) es)

sums-blended : (of : Request → Outcome → ℕ) (p : Plant) (es : List Entry)
    → sum_over of p es ≡ sum_over of p (blends_as_calls p es)
sums-blended of p [] = refl
sums-blended of p (calls r ∷ es) = ap (λ n. of r (step p r) + n) (sums-blended of (step p r).plant es)
sums-blended of p (previews r ∷ es) = sums-blended of (preview_of p r).plant es
sums-blended of p (sheets s ∷ es) = ap (λ n. sheet_adds of p s + n) (sums-blended of (sheet_step p s).plant es)
sums-blended of p (blends c ks ∷ es) =
    let b = is_none (first (blend_tests p c ks)) in
    sums-received p (draws (loads_of c ks)) _ es of b (blend-plant p c ks) (sums-blended of (blend_step p c ks) es)

pub blends-as-calls : BlendLaw
blends-as-calls p es = record { plant = after-blended p es; sums = λ of. sums-blended of p es }
