-- Laboratory sheets: document 02, E6.
--
--   scales                 counts to the gram, or to the mole, for each ASM1 column
--   readings               what each entry of a sheet comes to, at its column
--   refusal_in             13 or 14 at the first bad column, or none
--   counts_of, limits_of   the vectors of what the entries count as, and of the counts of their limits
--   not_sampled            how many entries were not sampled
--   unseen_of              what a sheet tells: the limits' totals of milligrams, oxygen among them, of ticks and of millimoles,
--                          and that number
--   sheet_readings         the refusal, or all the readings
--   sheet_received         what receive answered, for a sheet
--   sheet_step             the call: the counts of a sheet that is not turned away go through receive
--   CountsWithinLaw        no count is above its column's ceiling. proofs/Laws/Sheet.antt proves it: counts-within
--   SheetTestsLaw          so that a sheet is refused with 13 or 14, 15, 1 and 10, the first that applies: sheet-tests
--   SheetRefusedLaw        a refusal gives the record back: sheet-refused
--   SheetAddsLaw           an accepted sheet adds its counts to the sludge tank, and tells what lies unseen: sheet-adds
use Rattle.std.specs.Prelude.{true, false, List, [], ◌∷◌, map, zip, count_by, ◌≡◌, ℕ, ◌+◌, Float, Option, None, Some, Result, Ok, Err}
use Rattle.std.specs.Result.{result_err, result_map_both}
use Rattle.refusals.specs.declared.Refusal.{Refusal}
use Rattle.refusals.specs.declared.Refusal.TheVariants.{TankAbove}
use Rattle.refusals.specs.Tests as sent
use Rattle.vectors.specs.Columns.{asm1, asm1_columns, asm1_ceilings, within, added}
use Rattle.vectors.specs.Totals.{asm1_cod, asm1_oxygen}
use Rattle.vectors.specs.Units.{milligrams, ticks, millimoles}
use Rattle.plant.specs.declared.record.Plant.{Plant}
use Rattle.plant.specs.declared.answer.Outcome.{Outcome}
use Rattle.plant.specs.Record.{record_refusal}
use Rattle.plant.specs.Answer.{refused_with}
use Rattle.plant.specs.Calls.{step, receiving}
use Rattle.sheets.specs.declared.finding.Finding.{Finding}
use Rattle.sheets.specs.declared.value.Scale.{Scale}
use Rattle.sheets.specs.declared.call.Unseen.{Unseen}
use Rattle.sheets.specs.declared.call.SheetOutcome.{SheetOutcome}
use Rattle.sheets.specs.Value.{reading_of, count, limit, missing}

-- ---- the columns

-- a gram of COD or oxygen is 1,000 mg and a mole 1,000 mmol; a gram of nitrogen is 10^7 ticks
abbrev pub scales : List ℕ
scales =
    asm1_columns
    (record {
      si = 1_000;
      ss = 1_000;
      xi = 1_000;
      xs = 1_000;
      xbh = 1_000;
      xba = 1_000;
      xp = 1_000;
      so = 1_000;
      sno = 10_000_000;
      snh = 10_000_000;
      snd = 10_000_000;
      xnd = 10_000_000;
      salk = 1_000;
    })

-- the scale and the ceiling of a column, as the code has them
abbrev pub per_unit : Scale → ℕ
per_unit z = z.per_unit

abbrev pub ceiling : Scale → ℕ
ceiling z = z.ceiling

-- ---- readings

abbrev pub Reading : Type 0
Reading = Result (Finding ℕ) Refusal

-- in the order of the columns
unfoldable pub readings : List (Finding Float) → List Reading
readings s = map (λ p. reading_of p.0.0 p.0.1 p.1) (zip (zip scales asm1_ceilings) s)

-- ---- the sheet

abbrev pub refusal_in : List (Finding Float) → Option Refusal
refusal_in s = sent.first (map (λ (r : Reading). result_err r) (readings s))

-- a number of a reading; of one that was refused nobody asks
abbrev pub read_as : {A : Type 0} → (Finding ℕ → A) → A → Reading → A
read_as g d (Ok x) = g x
read_as g d (Err r) = d

abbrev pub counts_of : List (Finding Float) → List ℕ
counts_of s = map (read_as count 0) (readings s)

abbrev pub limits_of : List (Finding Float) → List ℕ
limits_of s = map (read_as limit 0) (readings s)

abbrev pub not_sampled : List (Finding Float) → ℕ
not_sampled s = count_by (read_as missing false) (readings s)

-- ---- what it tells

unfoldable pub unseen_by : List ℕ → ℕ → Unseen
unseen_by limits n =
    let v = asm1 limits in
    record {
      milligrams = milligrams (asm1_cod limits + asm1_oxygen limits);
      ticks = ticks (v.sno + v.snh + v.snd + v.xnd);
      millimoles = millimoles v.salk;
      unsampled = n;
    }

abbrev pub unseen_of : List (Finding Float) → Unseen
unseen_of s = unseen_by (limits_of s) (not_sampled s)

-- ---- the call

-- all of a list, or the first refusal in it
abbrev pub collected : {A : Type 0} → List (Result A Refusal) → Result (List A) Refusal
collected [] = Ok []
collected (Ok x ∷ rs) = result_map_both (λ xs. x ∷ xs) (λ r. r) (collected rs)
collected (Err r ∷ rs) = Err r

abbrev pub sheet_readings : List (Finding Float) → Result (List (Finding ℕ)) Refusal
sheet_readings s = collected (readings s)

abbrev pub sheet_refused : Plant → Refusal → SheetOutcome
sheet_refused p r = record { told = Err r; plant = p }

-- behind receive, whose refusals are 15, 1 and 10; u is what the sheet tells
abbrev pub sheet_received : Unseen → Outcome → SheetOutcome
sheet_received u o = record { told = sent.decide (refused_with o.answer) u; plant = o.plant }

-- by the refusal in the sheet
abbrev pub sheet_by : Option Refusal → Plant → List (Finding Float) → SheetOutcome
sheet_by None p s = sheet_received (unseen_of s) (step p (receiving (counts_of s)))
sheet_by (Some r) p s = sheet_refused p r

unfoldable pub sheet_step : Plant → List (Finding Float) → SheetOutcome
sheet_step p s = sheet_by (refusal_in s) p s

-- ---- the claims

-- no count is above its column's ceiling: 14 has been given where one would be
abbrev pub CountsWithinLaw : Type 0
CountsWithinLaw = (s : List (Finding Float)) → within asm1_ceilings (counts_of s) ≡ true

-- the refusal is the first that applies: that of the first bad column, 15, 1, 10. Receive's 3 is not among them
abbrev pub SheetTestsLaw : Type 0
SheetTestsLaw =
    (p : Plant) (s : List (Finding Float))
    → result_err (sheet_step p s).told
    ≡ sent.first
    (refusal_in s
    ∷ record_refusal p
    ∷ sent.unless (within asm1_ceilings (added p.sludge (counts_of s))) TankAbove
    ∷ [])

-- a refusal gives the record back
abbrev pub SheetRefusedLaw : Type 0
SheetRefusedLaw =
    (p : Plant) (s : List (Finding Float)) (r : Refusal)
    → (sheet_step p s).told ≡ Err r → sheet_step p s ≡ sheet_refused p r

-- where none applies, the counts are added to the sludge tank, nothing else of the record moves, and what lies unseen is told
abbrev pub SheetAddsLaw : Type 0
SheetAddsLaw =
    (p : Plant) (s : List (Finding Float)) (u : Unseen)
    → (sheet_step p s).told ≡ Ok u
    → sheet_step p s
    ≡ record {
      told = Ok (unseen_of s);
      plant = record { sludge = added p.sludge (counts_of s); digester = p.digester; reject = p.reject; figures = p.figures };
    }
