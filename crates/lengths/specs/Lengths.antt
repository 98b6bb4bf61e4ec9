-- How long answers will be: document 02, E11.
--
--   counted, uncounted   the first 1,000 lines of an input, cut as sludgeline cuts it, and those behind them
--   answer_bytes         the bytes that are printed for the counted lines on a record, newlines and the held line included, and how many
--                        lines are not counted
--   lined                lines, each with its newline
--   AloneLaw             it is the length of what is printed for the counted lines alone: proofs/Laws/Cut.antt, alone
--   AllLaw               where all lines count, of what is printed for the input: proofs/Laws/Cut.antt, all
use Rattle.std.specs.Prelude.{List, [], ◌∷◌, ◌++◌, ◌≡◌, ℕ, length, take, drop}
use Rattle.plant.specs.declared.record.Plant.{Plant}
use Rattle.lengths.specs.declared.input.AnswerBytes.{AnswerBytes}
use Rattle.reading.specs.Text.{newline}
use Rattle.lines.specs.Session.{cut_lines, transcript, printed}

abbrev pub counted : List ℕ → List (List ℕ)
counted s = take 1000 (cut_lines s)

abbrev pub uncounted : List ℕ → List (List ℕ)
uncounted s = drop 1000 (cut_lines s)

-- a refused line's answer counts, and a preview's: transcript has an answer for each line
abbrev pub answer_bytes : Plant → List ℕ → AnswerBytes
answer_bytes p s = record { bytes = length (transcript p (counted s)); uncounted = length (uncounted s) }

-- ---- the claims

unfoldable pub lined : List (List ℕ) → List ℕ
lined [] = []
lined (l ∷ ls) = l ++ (newline ∷ lined ls)

abbrev pub AloneLaw : Type 0
AloneLaw = (p : Plant) (s : List ℕ) → (answer_bytes p s).bytes ≡ length (printed p (lined (counted s)))

abbrev pub AllLaw : Type 0
AllLaw = (p : Plant) (s : List ℕ) → (answer_bytes p s).uncounted ≡ 0 → (answer_bytes p s).bytes ≡ length (printed p s)
