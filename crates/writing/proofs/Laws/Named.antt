-- The answer of each call has a refusal of the table, where it has one. Assumes nothing.
--
--   NamedIf, NamedAll            a refusal that is given is one of the table; of each test
--   unless-named, first-named    of a test, and of the first of several
--   record-named, fed-named, returned-named   of the tests of a record and of what a conversion gives
--   feed-err, return-err         of a conversion's own refusal
--   tests-named                  of the tests of each call: a further call is one more row
--   named                        NamedLaw
use mathlib.Core.Bool.{Bool, true, false, ◌&&◌}
use mathlib.Core.List.{List, [], ◌∷◌}
use mathlib.Core.Path.{◌≡◌, refl, sym}
use Prim.Native.Nat.{ℕ, ◌+◌}
use lib.Dec.{eqb}
use Rattle.std.specs.Prelude.{Option, None, Some, Result, Ok, Err, cond, ⊤}
use Rattle.refusals.specs.declared.Refusal.{Refusal}
use Rattle.refusals.specs.declared.Refusal.TheVariants.{RecordAbove, NotThousandths, ColumnAbove, FeedShort, ReturnShort, CodOpen}
use Rattle.refusals.specs.declared.Refusal.TheVariants.{TknOpen, CarriedOpen, TankAbove, NotPermitted}
use Rattle.refusals.specs.Refusal.{in_table}
use Rattle.refusals.specs.Tests.{unless, first}
use Rattle.vectors.specs.declared.figures.Figures.{Figures}
use Rattle.vectors.specs.Columns.{asm1_ceilings, digester_ceilings, within, added}
use Rattle.vectors.specs.Draw.{drawn}
use Rattle.vectors.specs.Figures.{permitted}
use Rattle.vectors.specs.Totals.{digester_cod, digester_tkn, digester_oxygen, digester_nitrate}
use Rattle.interface.specs.declared.feed.Fed.{Fed}
use Rattle.interface.specs.declared.returning.Returned.{Returned}
use Rattle.interface.specs.Feed.{feed_asm1, feed_of}
use Rattle.interface.specs.Return.{return_digester, return_of}
use Rattle.plant.specs.declared.record.Plant.{Plant}
use Rattle.plant.specs.declared.answer.Answer.{Answer}
use Rattle.plant.specs.declared.answer.Answer.TheVariants.{Refused, Received, Fed as fed_answer, Settled}
use Rattle.plant.specs.declared.answer.Answer.TheVariants.{Returned as returned_answer, Released}
use Rattle.plant.specs.declared.answer.Answer.TheVariants.{Recycled, Drawn, Accepted}
use Rattle.plant.specs.declared.answer.Call.{Call}
use Rattle.plant.specs.declared.answer.Call.TheVariants as call
use Rattle.plant.specs.Answer.{refused_with}
use Rattle.plant.specs.Nitrite.{acceptable, with_nitrite}
use Rattle.plant.specs.Record.{record_refusal, record_within, thousandths}
use Rattle.plant.specs.Calls.{fed_tests, returned_tests, receive, feed, settle, give_back, release, recycle, draw, accept, rule_by, step}
use Rattle.plant.proofs.Laws.Calls.{sent-first}
use Rattle.writing.specs.ReadBack.{is_named, NamedLaw}

abbrev pub NamedIf : Option Refusal → Type 0
NamedIf t = (r : Refusal) → t ≡ Some r → in_table r ≡ true

abbrev pub NamedAll : List (Option Refusal) → Type 0
NamedAll [] = ⊤
NamedAll (t ∷ ts) = NamedIf t × NamedAll ts

unless-named : (b : Bool) (r : Refusal) → in_table r ≡ true → NamedIf (unless b r)
unless-named true r h s e = absurd (cc e)
unless-named false r h s e = let same : s ≡ r = cc e in rw same h

first-named : (ts : List (Option Refusal)) → NamedAll ts → NamedIf (first ts)
first-named [] h = λ r e. absurd (cc e)
first-named (None ∷ ts) h = first-named ts h.1
first-named (Some r ∷ ts) h = h.0

record-named : (p : Plant) → NamedIf (record_refusal p)
unfolding record_refusal
record-named p =
    first-named (unless (permitted p.figures) NotPermitted ∷ unless (record_within p) RecordAbove ∷ [])
    (unless-named (permitted p.figures) NotPermitted refl, (unless-named (record_within p) RecordAbove refl, tt))

-- what a conversion gives in place of its vector
either : {A : Type 0} (b : Bool) (r e : Refusal) (o : A) → cond b (Err r) (Ok o) ≡ Err e → e ≡ r
either true r e o h = cc h
either false r e o h = absurd (cc h)

fed-named : (p : Plant) (x : Result Fed Refusal) → ((e : Refusal) → x ≡ Err e → in_table e ≡ true) → NamedAll (fed_tests p x)
fed-named p (Ok o) h = (unless-named (within digester_ceilings (added p.digester o.vector)) TankAbove refl, tt)
fed-named p (Err e) h = ((λ r q. let same : r ≡ e = cc q in rw same (h e refl)), tt)

returned-named : (p : Plant) (x : Result Returned Refusal) → ((e : Refusal) → x ≡ Err e → in_table e ≡ true)
    → NamedAll (returned_tests p x)
returned-named p (Ok o) h = (unless-named (within asm1_ceilings (added p.reject o.vector)) TankAbove refl, tt)
returned-named p (Err e) h = ((λ r q. let same : r ≡ e = cc q in rw same (h e refl)), tt)

feed-err : (f : Figures) (c : List ℕ) (e : Refusal) → feed_of f c ≡ Err e → in_table e ≡ true
unfolding feed_asm1
feed-err f c e h = rw (either _ FeedShort e _ h) refl

return-err : (f : Figures) (c : List ℕ) (e : Refusal) → return_of f c ≡ Err e → in_table e ≡ true
unfolding return_digester
return-err f c e h = rw (either _ ReturnShort e _ h) refl

tests-named : (p : Plant) (c : Call) (v d : List ℕ) → NamedAll (rule_by p c v d).tests
unfolding receive feed settle give_back release recycle draw accept
tests-named p call.Receive v d = (
  record-named p,
  (
    unless-named (within asm1_ceilings v) ColumnAbove refl,
    (unless-named (within asm1_ceilings (added p.sludge v)) TankAbove refl, tt),
  ),
)
tests-named p (call.Feed k) v d =
    let x = feed_of p.figures (drawn k p.sludge) in
    (record-named p, (unless-named (thousandths k) NotThousandths refl, fed-named p x (feed-err p.figures (drawn k p.sludge))))
tests-named p (call.Settle gas) v d =
    let old = p.digester in
    let tkn = digester_tkn p.figures in
    let carried = eqb (digester_oxygen old) (digester_oxygen d) && eqb (digester_nitrate old) (digester_nitrate d) in (
      record-named p,
      (
        unless-named (within digester_ceilings d) ColumnAbove refl,
        (
          unless-named (eqb (digester_cod old) (digester_cod d + gas.0)) CodOpen refl,
          (
            unless-named (eqb (tkn old) (tkn d)) TknOpen refl,
            (unless-named carried CarriedOpen refl, tt),
          ),
        ),
      ),
    )
tests-named p (call.Return k) v d =
    let x = return_of p.figures (drawn k p.digester) in (
      record-named p,
      (
        unless-named (thousandths k) NotThousandths refl,
        returned-named p x (return-err p.figures (drawn k p.digester)),
      ),
    )
tests-named p (call.Release k) v d = (record-named p, (unless-named (thousandths k) NotThousandths refl, tt))
tests-named p (call.Recycle k) v d = (
  record-named p,
  (
    unless-named (thousandths k) NotThousandths refl,
    (unless-named (within asm1_ceilings (added p.sludge (drawn k p.reject))) TankAbove refl, tt),
  ),
)
tests-named p (call.Draw k) v d = (record-named p, (unless-named (thousandths k) NotThousandths refl, tt))
tests-named p (call.Accept n) v d = (
  record-named p,
  (
    unless-named (acceptable v n) ColumnAbove refl,
    (unless-named (within asm1_ceilings (added p.sludge (with_nitrite v n))) TankAbove refl, tt),
  ),
)

answer-named : (a : Answer) (t : Option Refusal) → refused_with a ≡ t → NamedIf t → is_named a ≡ true
answer-named (Refused r) t e h = h r (sym e)
answer-named Received t e h = refl
answer-named (fed_answer b o n w) t e h = refl
answer-named Settled t e h = refl
answer-named (returned_answer s) t e h = refl
answer-named Released t e h = refl
answer-named Recycled t e h = refl
answer-named Drawn t e h = refl
answer-named (Accepted m) t e h = refl

pub named : NamedLaw
named p r = answer-named (step p r).answer _ (sent-first p r) (first-named _ (tests-named p r.call r.sludge r.digester))
