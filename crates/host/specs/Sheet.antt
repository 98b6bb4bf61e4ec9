-- A laboratory sheet as a host lends it: thirteen kinds and thirteen values (document 02, E6).
--
--   finding_of   an entry: 0 is a measured value, 1 a result below a limit, 2 not sampled; any other kind stands for no number, which
--                is refused with 13. The value beside kind 2 is nothing to it
--   sheet_at     the thirteen entries
use Rattle.std.specs.Prelude.{cond, List, [], ◌∷◌, ℕ, zero, suc, eqb, Float, get_or}
use Rattle.std.specs.Float.{nan}
use Rattle.sheets.specs.declared.finding.Finding.{Finding}
use Rattle.sheets.specs.declared.finding.Finding.TheVariants.{Measured, BelowLimit, NotSampled}

unfoldable pub finding_of : ℕ → Float → Finding Float
finding_of k x = cond (eqb k 0) (Measured x) (cond (eqb k 1) (BelowLimit x) (cond (eqb k 2) NotSampled (Measured nan)))

-- n entries from the column i on
abbrev pub sheet_from : ℕ → ℕ → List ℕ → List Float → List (Finding Float)
sheet_from zero i ks xs = []
sheet_from (suc n) i ks xs = finding_of (get_or ks i 0) (get_or xs i nan) ∷ sheet_from n (suc i) ks xs

abbrev pub sheet_at : List ℕ → List Float → List (Finding Float)
sheet_at ks xs = sheet_from 13 0 ks xs
