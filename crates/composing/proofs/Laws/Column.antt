-- The text of one column. Assumes nothing.
--
--   piece-text   what stands before its closing bracket, and the bracket
use mathlib.Core.List.{List, ◌∷◌, ◌++◌, append_assoc}
use mathlib.Core.Path.{◌≡◌}
use Prim.Native.Nat.{ℕ}
use Rattle.reading.specs.Number.{decimal}
use Rattle.writing.specs.Answer.{column_text}

pub piece-text : (name : List ℕ) (k : ℕ) (s : List ℕ) → (32 ∷ (40 ∷ (name ++ (32 ∷ decimal k)))) ++ (41 ∷ s) ≡ column_text name k ++ s
unfolding column_text
piece-text name k s = simp append_assoc
