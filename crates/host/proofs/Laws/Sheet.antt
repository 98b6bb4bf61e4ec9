-- A sheet as a host lends it. Assumes nothing.
--
--   no_number                   the value of a kind that is none
--   sheet-length, sheet-column  the entries: how many, and the one at a column
--   sheet-called                from what the call on a sheet promises to what the host is promised
use mathlib.Core.List.{List}
use mathlib.Core.Path.{◌≡◌, refl, sym, ap, ◌∙◌}
use Prim.Native.Nat.{ℕ, zero, suc, ◌+◌, ◌<◌}
use native.Mathlib.Nat.{zero-add, add-zero, add-suc, suc-add}
use native.Mathlib.Omega.{arith}
use lib.Ieee.{Float, nan, of_bits, binary32}
use lib.ListN.{length, get_or}
use Rattle.plant.specs.declared.record.Plant.{Plant}
use Rattle.sheets.specs.declared.finding.Finding.{Finding}
use Rattle.sheets.specs.declared.call.SheetOutcome.{SheetOutcome}
use Rattle.sheets.specs.Sheet.{sheet_step}
use Rattle.host.specs.Record.{plant_at, columns_at}
use Rattle.host.specs.Sheet.{finding_of, sheet_from, sheet_at}
use Rattle.host.specs.Calls.{number_in, unseen_of, SheetCalled}

-- ---- an entry

-- f32::NAN
pub no_number : of_bits binary32 2143289344 ≡ nan
unfolding of_bits
no_number = refl

-- ---- the entries

pub sheet-length : (n i : ℕ) (ks : List ℕ) (xs : List Float) → length (sheet_from n i ks xs) ≡ n
sheet-length zero i ks xs = refl
sheet-length (suc n) i ks xs = ap suc (sheet-length n (suc i) ks xs)

from-column : (n i j : ℕ) (ks : List ℕ) (xs : List Float) (z : Finding Float) → j < n
    → finding_of (get_or ks (i + j) 0) (get_or xs (i + j) nan) ≡ get_or (sheet_from n i ks xs) j z
from-column zero i j ks xs z h = absurd (omega arith)
from-column (suc n) i zero ks xs z h = ap (λ (k : ℕ). finding_of (get_or ks k 0) (get_or xs k nan)) (add-zero i)
from-column (suc n) i (suc j) ks xs z h =
    ap (λ (k : ℕ). finding_of (get_or ks k 0) (get_or xs k nan)) (add-suc i j ∙ sym (suc-add i j))
    ∙ from-column n (suc i) j ks xs z (omega arith)

pub sheet-column : (j : ℕ) (ks : List ℕ) (xs : List Float) (z : Finding Float) → j < 13
    → finding_of (get_or ks j 0) (get_or xs j nan) ≡ get_or (sheet_at ks xs) j z
sheet-column j ks xs z h =
    ap (λ (k : ℕ). finding_of (get_or ks k 0) (get_or xs k nan)) (sym (zero-add j)) ∙ from-column 13 0 j ks xs z h

-- ---- the call

pub sheet-called : {cs es ts : List ℕ} {p : Plant} {s t : List (Finding Float)} {o : SheetOutcome} {n : ℕ}
    → p ≡ plant_at cs → t ≡ s → o ≡ sheet_step p t → es ≡ columns_at o.plant → n ≡ number_in o.told → ts ≡ unseen_of o.told
    → SheetCalled cs s n es ts
sheet-called {cs} {es} {ts} {p} {s} {t} at q e c r u =
    let w = e ∙ ap (λ (x : Plant). sheet_step x t) at ∙ ap (sheet_step (plant_at cs)) q in
    record {
      columns = c ∙ ap (λ (x : SheetOutcome). columns_at x.plant) w;
      refusal = r ∙ ap (λ (x : SheetOutcome). number_in x.told) w;
      told = u ∙ ap (λ (x : SheetOutcome). unseen_of x.told) w;
    }
