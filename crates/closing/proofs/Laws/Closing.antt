-- What close gives, settle accepts, and nothing else would do. Assumes nothing.
--
--   replaced-within                          a vector with other sin, co and cn, each within its ceiling, is within its ceilings
--   gap_is, gap-passed                       the gap where its tests pass, and that they pass where there is one
--   closed_is, close-passed                  the same of close, whose tests pass where there is no gap
--   Fitting                                  what there is to be closed: the three gaps are none
--   close-law, none-law, only-law, gap-law   CloseLaw, NoneLaw, OnlyLaw, GapLaw
use mathlib.Core.Bool.{true}
use mathlib.Core.List.{List}
use mathlib.Core.Path.{◌≡◌, refl, sym, ap, subst, ◌∙◌}
use Prim.Native.Nat.{ℕ, ◌+◌, ◌-◌, ◌≤◌}
use native.Mathlib.Omega.{arith}
use borrow.Author.Rules.{rules}
use lib.Dec.{eqb}
use borrow.Author.Tests.{eqb-true}
use Rattle.vectors.specs.declared.figures.Figures.{Figures}
use Rattle.vectors.specs.declared.units.Milligrams.{Milligrams}
use Rattle.vectors.specs.Columns.{digester, digester_ceilings, cod_ceiling, tick_ceiling, within}
use Rattle.vectors.specs.Totals.{digester_cod, digester_tkn}
use Rattle.vectors.specs.Units.{milligrams}
use Rattle.vectors.proofs.Laws.Columns.{within-column, within-below, below-within, digester-columns}
use Rattle.plant.specs.declared.record.Plant.{Plant}
use Rattle.plant.specs.Record.{record_refusal}
use Rattle.refusals.specs.declared.Refusal.{Refusal}
use Rattle.refusals.specs.declared.Refusal.TheVariants.{ColumnAbove, CodOpen, TknOpen}
use Rattle.refusals.specs.Tests.{first, decide}
use Rattle.std.specs.Prelude.{Option, None, Some, Result, Ok, Err}
use Rattle.plant.specs.Calls.{refusal_for, settling}
use Rattle.plant.proofs.Laws.Calls.{SettlePassed, settle-passed, settle-passes}
use Rattle.plant.proofs.Laws.Record.{usable-within, digester-within}
use Rattle.plant.proofs.Laws.Decision.{passed-by, passed}
use Rattle.closing.specs.declared.Closed.{Closed}
use Rattle.closing.specs.declared.Gaps.{Gaps}
use Rattle.closing.specs.Closing.{replaced, SameBut, other_tkn, closing_sin, closing_gas, closed_vector}
use Rattle.closing.specs.Closing.{gaps, no_gap, gap_between, gap_tests, gap_of, close_tests, close_taken, close_by, close_of}
use Rattle.closing.specs.Closing.{Closes, CloseLaw, NoneLaw, OnlyLaw, GapLaw}

-- ---- vectors

replaced-within : (d : List ℕ) (sin co cn : ℕ) → within digester_ceilings d ≡ true → sin ≤ tick_ceiling → co ≤ cod_ceiling
    → cn ≤ tick_ceiling
    → within digester_ceilings (replaced d sin co cn) ≡ true
replaced-within d sin co cn h a b c =
    let l = within-below digester_ceilings d h in
    below-within digester_ceilings (replaced d sin co cn) (omega arith) (search rules)

-- the TKN of the other columns, by the vector without sin
other-tkn : (f : Figures) (d : List ℕ) → digester_tkn f d ≡ other_tkn f d + (digester d).sin
other-tkn f d = omega arith

-- vectors that differ in sin, co and cn alone have one COD, and one TKN of the other columns
same-cod : (e d : List ℕ) → SameBut e d → digester_cod e ≡ digester_cod d
same-cod e d s = ap digester_cod s

same-other : (f : Figures) (e d : List ℕ) → SameBut e d → other_tkn f e ≡ other_tkn f d
same-other f e d s =
    let t : digester_tkn f (replaced e 0 0 0) ≡ digester_tkn f (replaced d 0 0 0) = ap (digester_tkn f) s in
    omega arith

-- ---- gap and close by their refusals

-- what is decided as x
decided : {A : Type 0} (o : Option Refusal) {x y : A} → decide o x ≡ Ok y → (o ≡ None) × (x ≡ y)
decided None e = (refl, cc)
decided (Some r) e = absurd cc

module _ (p : Plant) (d : List ℕ) where
  pub gap_is : record_refusal p ≡ None → within digester_ceilings d ≡ true → Ok (gap_between p.figures p.digester d) ≡ gap_of p d
  unfolding gap_of
  gap_is h k = rw (h, k)

  pub gap-passed : (g : Gaps) → gap_of p d ≡ Ok g → (record_refusal p ≡ None) × (within digester_ceilings d ≡ true)
  unfolding gap_of
  gap-passed g e =
      let at-record = passed-by (record_refusal p) _ (decided (first (gap_tests p d)) e).0 in
      (at-record.0, (passed (within digester_ceilings d) ColumnAbove _ at-record.1).0)

  -- by the gap
  pub close_as : (g : Result Gaps Refusal) → g ≡ gap_of p d → close_by g (close_taken p.figures p.digester d) ≡ close_of p d
  unfolding close_of
  close_as g e = ap (λ (h : Result Gaps Refusal). close_by h (close_taken p.figures p.digester d)) e

  -- no test of close applies where there is no gap
  pub closed_is : gap_of p d ≡ Ok no_gap → close_of p d ≡ Ok (close_taken p.figures p.digester d)
  closed_is e = sym (close_as (Ok no_gap) (sym e))

  close-passed : (c : Closed) → close_of p d ≡ Ok c → (gap_of p d ≡ Ok no_gap) × (close_taken p.figures p.digester d ≡ c)
  unfolding close_of
  close-passed c = go (gap_of p d)
    where
      go : (g : Result Gaps Refusal) → close_by g (close_taken p.figures p.digester d) ≡ Ok c
          → (g ≡ Ok no_gap) × (close_taken p.figures p.digester d ≡ c)
      go (Err r) e = absurd cc
      go (Ok g) e =
          let q = decided (first (close_tests g)) e in
          let at-sin = passed (eqb g.sin.0 0) ColumnAbove _ q.0 in
          let at-cod = passed (eqb g.cod.0 0) CodOpen _ at-sin.1 in
          let sin = eqb-true _ _ at-sin.0 in
          let cod = eqb-true _ _ at-cod.0 in
          let tkn = eqb-true _ _ (passed (eqb g.tkn.0 0) TknOpen _ at-cod.1).0 in
          (λ i. Ok (gaps (cod i) (tkn i) (sin i)), q.1)

-- ---- no gap, as inequalities

record Fitting (p : Plant) (d : List ℕ) : Type 0 where
  held : record_refusal p ≡ None
  proposed : within digester_ceilings d ≡ true
  sin : closing_sin p.figures p.digester d ≤ tick_ceiling
  cod : digester_cod d ≤ digester_cod p.digester
  tkn : other_tkn p.figures d ≤ digester_tkn p.figures p.digester

fitting : (p : Plant) (d : List ℕ) → gap_of p d ≡ Ok no_gap → Fitting p d
unfolding gap_between
fitting p d e =
    let at-gap = gap-passed p d no_gap e in
    let q : ◌≡◌ {A = Result Gaps Refusal} (Ok (gap_between p.figures p.digester d)) (Ok no_gap) = gap_is p d at-gap.0 at-gap.1 ∙ e in
    let g : gap_between p.figures p.digester d ≡ no_gap = cc in
    record {
      held = at-gap.0;
      proposed = at-gap.1;
      sin = omega (arith, ap (λ (x : Gaps). x.sin.0) g);
      cod = omega (arith, ap (λ (x : Gaps). x.cod.0) g);
      tkn = omega (arith, ap (λ (x : Gaps). x.tkn.0) g);
    }

fits : (p : Plant) (d : List ℕ) → Fitting p d → gap_of p d ≡ Ok no_gap
unfolding gap_between
fits p d t =
    let cod : digester_cod d - digester_cod p.digester ≡ 0 = omega (arith, t.cod) in
    let tkn : other_tkn p.figures d - digester_tkn p.figures p.digester ≡ 0 = omega (arith, t.tkn) in
    let sin : closing_sin p.figures p.digester d - tick_ceiling ≡ 0 = omega (arith, t.sin) in
    sym (gap_is p d t.held t.proposed) ∙ (λ i. Ok (gaps (cod i) (tkn i) (sin i)))

-- ---- the laws

pub gap-law : GapLaw
gap-law p d = record { none = λ c e. (close-passed p d c e).0; closes = closed_is p d }

-- settle's tests on what closes
settles : (p : Plant) (d : List ℕ) → Fitting p d
    → refusal_for p (settling (milligrams (closing_gas p.digester d)) (closed_vector p.figures p.digester d)) ≡ 0
settles p d t =
    let old = p.digester in
    let b = within-below digester_ceilings old (digester-within p (usable-within p t.held)) in
    let v = closed_vector p.figures old d in
    let fitted : within digester_ceilings v ≡ true = replaced-within d _ _ _ t.proposed t.sin (omega arith) (omega arith) in
    let cod : digester_cod old ≡ digester_cod v + closing_gas old d = omega (arith, t.cod) in
    let tkn : digester_tkn p.figures old ≡ digester_tkn p.figures v = omega (arith, t.tkn) in
    settle-passes p _ v (record { held = t.held; proposed = fitted; cod = cod; tkn = tkn; oxygen = refl; nitrate = refl })

pub close-law : CloseLaw
close-law p d c e =
    let q = close-passed p d c e in
    subst (Closes p d) q.1 (record { settles = settles p d (fitting p d q.0); keeps = refl })

-- COD and TKN that close leave no gap
by-gas : {old new new' : ℕ} (gas : ℕ) → new ≡ new' → old ≡ new + gas → new' ≤ old
by-gas gas e h = omega arith

by-other : {old other other' sin : ℕ} (c : ℕ) → other ≡ other' → old ≡ other + sin → sin ≤ c → (old - other' ≤ c) × (other' ≤ old)
by-other c e h l = (omega arith, omega arith)

left_over : {old new new' rest : ℕ} → new ≡ new' → old ≡ new + rest → old - new' ≡ rest
left_over e h = omega arith

-- what settle accepts, close has no gap for
settled-fits : (p : Plant) (d : List ℕ) → within digester_ceilings d ≡ true → (gas : Milligrams) (e : List ℕ) → SameBut e d
    → SettlePassed p gas e → Fitting p d
settled-fits p d h gas e same s =
    let low : (digester e).sin ≤ tick_ceiling = within-column digester_ceilings e 22 s.proposed in
    record {
      held = s.held;
      proposed = h;
      sin = (by-other _ (same-other p.figures e d same) (s.tkn ∙ other-tkn p.figures e) low).0;
      cod = by-gas gas.0 (same-cod e d same) s.cod;
      tkn = (by-other _ (same-other p.figures e d same) (s.tkn ∙ other-tkn p.figures e) low).1;
    }

pub none-law : NoneLaw
none-law p d held h r refused gas e same n =
    let q : close_of p d ≡ Ok (close_taken p.figures p.digester d) =
    closed_is p d (fits p d (settled-fits p d h gas e same (settle-passed p gas e n))) in
    absurd (let w : ◌≡◌ {A = Result Closed Refusal} (Err r) (Ok (close_taken p.figures p.digester d)) = sym refused ∙ q in cc)

pub only-law : OnlyLaw
only-law p d h gas e long same n =
    let s = settle-passed p gas e n in
    let t = settled-fits p d h gas e same s in
    let old = p.digester in
    let gone : closing_gas old d ≡ gas.0 = left_over (same-cod e d same) s.cod in
    let sin : closing_sin p.figures old d ≡ (digester e).sin = left_over (same-other p.figures e d same) (s.tkn ∙ other-tkn p.figures e) in
    let is : replaced d (digester e).sin (digester e).co (digester e).cn ≡ e =
    ap (λ (l : List ℕ). replaced l (digester e).sin (digester e).co (digester e).cn) (sym same) ∙ digester-columns e long
    in
    let v : closed_vector p.figures old d ≡ e = (λ i. replaced d (sin i) (s.oxygen i) (s.nitrate i)) ∙ is in
    closed_is p d (fits p d t) ∙ (λ i. Ok (record { gas = milligrams (gone i); vector = v i }))
