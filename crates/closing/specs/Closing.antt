-- Closing a proposal. Settle (document 01) wants COD and TKN to the last count, and a solver in floating point never has that. `close`
-- gives the vector and the gas with which settle accepts, and `gap` tells how far off a proposal is. old is the record's digester, d the
-- proposal.
--
--   replaced                   a digester vector with other sin, co and cn
--   other_tkn                  the TKN of all columns but sin
--   closing_sin, closing_gas   TKN old − that of the other columns, and COD old − COD new
--   gap_between, gap_of        COD too much, nitrogen too much, and how far the sin that closes is above its ceiling
--   close_tests, close_of      the tests of close behind the gap's, in their order, and its outcome
--   SameBut                    two vectors differ in sin, co and cn at most
--   CloseLaw                   where close is accepted, settle accepts what it gives, and only sin, co and cn have changed
--   NoneLaw                    where it is refused with 7, 8, or 3 for the sin that closes, no gas, sin, co and cn would do
--   OnlyLaw                    and where some would do, close gives them: there are no others
--   GapLaw                     close is accepted exactly where the gaps are zero
--
-- proofs/Laws/Closing.antt proves the four laws: close-law, none-law, only-law, gap-law. f is a set of figures, that of
-- the record.
use Rattle.std.specs.Prelude.{true, List, [], ◌∷◌, ◌≡◌, ℕ, ◌-◌, eqb, length, Option, None, Result, Ok, Err}
use Rattle.refusals.specs.declared.Refusal.{Refusal}
use Rattle.refusals.specs.declared.Refusal.TheVariants.{ColumnAbove, CodOpen, TknOpen}
use Rattle.refusals.specs.Tests.{unless, first, decide}
use Rattle.vectors.specs.declared.figures.Figures.{Figures}
use Rattle.vectors.specs.declared.units.Milligrams.{Milligrams}
use Rattle.vectors.specs.Columns.{Digester, digester, digester_columns, digester_ceilings, tick_ceiling, within}
use Rattle.vectors.specs.Totals.{digester_cod, digester_tkn, digester_oxygen, digester_nitrate}
use Rattle.vectors.specs.Units.{milligrams, ticks}
use Rattle.plant.specs.declared.record.Plant.{Plant}
use Rattle.plant.specs.Record.{record_refusal}
use Rattle.plant.specs.Calls.{refusal_for, settling}
use Rattle.closing.specs.declared.Closed.{Closed}
use Rattle.closing.specs.declared.Gaps.{Gaps}

-- ---- vectors

abbrev pub with_closing : Digester → ℕ → ℕ → ℕ → Digester
with_closing v sin co cn =
    record {
      si = v.si;
      ssu = v.ssu;
      saa = v.saa;
      sfa = v.sfa;
      sva = v.sva;
      sbu = v.sbu;
      spro = v.spro;
      sac = v.sac;
      sh2 = v.sh2;
      sch4 = v.sch4;
      xi = v.xi;
      xc = v.xc;
      xch = v.xch;
      xpr = v.xpr;
      xli = v.xli;
      xsu = v.xsu;
      xaa = v.xaa;
      xfa = v.xfa;
      xc4 = v.xc4;
      xpro = v.xpro;
      xac = v.xac;
      xh2 = v.xh2;
      sin = sin;
      sic = v.sic;
      co = co;
      cn = cn;
    }

abbrev pub replaced : List ℕ → ℕ → ℕ → ℕ → List ℕ
replaced d sin co cn = digester_columns (with_closing (digester d) sin co cn)

-- the same once sin, co and cn are struck out of both
abbrev pub SameBut : List ℕ → List ℕ → Type 0
SameBut d e = replaced d 0 0 0 ≡ replaced e 0 0 0

-- ---- what closes

abbrev pub other_tkn : Figures → List ℕ → ℕ
other_tkn f d = digester_tkn f d - (digester d).sin

abbrev pub closing_sin : Figures → List ℕ → List ℕ → ℕ
closing_sin f old d = digester_tkn f old - other_tkn f d

abbrev pub closing_gas : List ℕ → List ℕ → ℕ
closing_gas old d = digester_cod old - digester_cod d

-- co and cn as they are in the record
abbrev pub closed_vector : Figures → List ℕ → List ℕ → List ℕ
closed_vector f old d = replaced d (closing_sin f old d) (digester_oxygen old) (digester_nitrate old)

-- ---- the gap

abbrev pub gaps : ℕ → ℕ → ℕ → Gaps
gaps cod tkn sin = record { cod = milligrams cod; tkn = ticks tkn; sin = ticks sin }

abbrev pub no_gap : Gaps
no_gap = gaps 0 0 0

-- A difference below zero counts as zero.
unfoldable pub gap_between : Figures → List ℕ → List ℕ → Gaps
gap_between f old d =
    gaps (digester_cod d - digester_cod old) (other_tkn f d - digester_tkn f old) (closing_sin f old d - tick_ceiling)

abbrev pub gap_tests : Plant → List ℕ → List (Option Refusal)
gap_tests p d = record_refusal p ∷ unless (within digester_ceilings d) ColumnAbove ∷ []

unfoldable pub gap_of : Plant → List ℕ → Result Gaps Refusal
gap_of p d = decide (first (gap_tests p d)) (gap_between p.figures p.digester d)

-- ---- close

-- behind the gap's tests: 3 where the sin that closes is above its ceiling, 7 where COD new is above COD old, 8 where the other columns
-- hold more nitrogen than there is
abbrev pub close_tests : Gaps → List (Option Refusal)
close_tests g =
    unless (eqb g.sin.0 0) ColumnAbove
    ∷ unless (eqb g.cod.0 0) CodOpen
    ∷ unless (eqb g.tkn.0 0) TknOpen
    ∷ []

abbrev pub close_taken : Figures → List ℕ → List ℕ → Closed
close_taken f old d = record { gas = milligrams (closing_gas old d); vector = closed_vector f old d }

-- by the gap
abbrev pub close_by : Result Gaps Refusal → Closed → Result Closed Refusal
close_by (Ok g) c = decide (first (close_tests g)) c
close_by (Err r) c = Err r

unfoldable pub close_of : Plant → List ℕ → Result Closed Refusal
close_of p d = close_by (gap_of p d) (close_taken p.figures p.digester d)

-- ---- the claims

pub record Closes (p : Plant) (d : List ℕ) (c : Closed) : Type 0 where
  pub settles : refusal_for p (settling c.gas c.vector) ≡ 0
  pub keeps : SameBut c.vector d

abbrev pub CloseLaw : Type 0
CloseLaw = (p : Plant) (d : List ℕ) (c : Closed) → close_of p d ≡ Ok c → Closes p d c

-- nothing sends the record away and the proposed columns are within their ceilings, so that a refusal is 7, 8, or 3 for the sin that closes
abbrev pub NoneLaw : Type 0
NoneLaw =
    (p : Plant) (d : List ℕ)
    → record_refusal p ≡ None
    → within digester_ceilings d ≡ true
    → (r : Refusal)
    → close_of p d ≡ Err r
    → (gas : Milligrams) (e : List ℕ)
    → SameBut e d
    → refusal_for p (settling gas e) ≡ 0
    → ⊥

abbrev pub OnlyLaw : Type 0
OnlyLaw =
    (p : Plant) (d : List ℕ)
    → within digester_ceilings d ≡ true
    → (gas : Milligrams) (e : List ℕ)
    → length e ≡ 26
    → SameBut e d
    → refusal_for p (settling gas e) ≡ 0
    → close_of p d ≡ Ok (record { gas = gas; vector = e })

pub record GapIs (p : Plant) (d : List ℕ) : Type 0 where
  pub none : (c : Closed) → close_of p d ≡ Ok c → gap_of p d ≡ Ok no_gap
  pub closes : gap_of p d ≡ Ok no_gap → close_of p d ≡ Ok (close_taken p.figures p.digester d)

abbrev pub GapLaw : Type 0
GapLaw = (p : Plant) (d : List ℕ) → GapIs p d
