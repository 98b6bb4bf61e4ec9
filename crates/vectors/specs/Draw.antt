-- The draw of k thousandths: document 01, "The plant record and its five calls". 004 has no draw.
--
--   part, remainder   k thousandths of one column, rounded down, and what remains of it
--   drawn, rest       the same of every column
use Rattle.std.specs.Prelude.{List, map, ℕ, ◌-◌, ◌*◌, ◌/◌}

abbrev pub part : ℕ → ℕ → ℕ
part k x = x * k / 1000

abbrev pub remainder : ℕ → ℕ → ℕ
remainder k x = x - part k x

abbrev pub drawn : ℕ → List ℕ → List ℕ
drawn k c = map (part k) c

abbrev pub rest : ℕ → List ℕ → List ℕ
rest k c = map (remainder k) c
