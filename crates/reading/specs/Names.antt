-- Column names: document 01, "Units, columns and the house set" (the names) and "Lines in brackets".
--
--   names_of                 the names of a vector's columns, as bytes
--   column_from              the first of the names that is s, counted from k
--   column_of                the column that a name stands for
--   from_column              that column where it is n or behind it
--   unpadded, unpadded_all   the names of a table that has four bytes a name, spaces behind a shorter one
--   padded                   a name of at most four bytes, with those spaces
--   TablesLaw                the code's tables are the names with those spaces. proofs/Laws/Names.antt proves it: tables
--   distinct                 no name stands twice
use Rattle.std.specs.Prelude.{Bool, true, false, cond, ◌&&◌, Option, Some, None, List, [], ◌∷◌, ◌++◌, map, length, replicate}
use Rattle.std.specs.Prelude.{◌≡◌, ℕ, ◌+◌, ◌-◌, leb}
use Rattle.vectors.specs.Columns.{asm1_names, digester_names}
use Rattle.reading.specs.declared.names.TheConstants.{ASM1_NAMES, DIGESTER_NAMES}
use Rattle.reading.specs.declared.names.Vector.{Vector}
use Rattle.reading.specs.declared.names.Vector.TheVariants.{Sludge, Digester}
use Rattle.reading.specs.Text.{ascii, same_bytes, up_to, space}

abbrev pub names_of : Vector → List (List ℕ)
names_of Sludge = map ascii asm1_names
names_of Digester = map ascii digester_names

unfoldable pub column_from : ℕ → List (List ℕ) → List ℕ → Option ℕ
column_from k [] s = None
column_from k (n ∷ ns) s = cond (same_bytes s n) (Some k) (column_from (k + 1) ns s)

abbrev pub column_of : List (List ℕ) → List ℕ → Option ℕ
column_of names s = column_from 0 names s

-- the column where it is n or behind it
abbrev pub from_column : ℕ → Option ℕ → Option ℕ
from_column n (Some c) = cond (leb n c) (Some c) None
from_column n None = None

-- ---- the code's tables

-- a name of four bytes, without the spaces behind it
abbrev pub unpadded : List ℕ → List ℕ
unpadded name = up_to space name

abbrev pub unpadded_all : List (List ℕ) → List (List ℕ)
unpadded_all table = map unpadded table

-- a name, and spaces behind it up to four bytes
abbrev pub padded : List ℕ → List ℕ
padded name = name ++ replicate (4 - length name) space

-- each byte of the tables, those behind a shorter name too
abbrev pub TablesLaw : Type 0
TablesLaw = (ASM1_NAMES ≡ map padded (names_of Sludge)) × (DIGESTER_NAMES ≡ map padded (names_of Digester))

abbrev pub unknown : Option ℕ → Bool
unknown (Some c) = false
unknown None = true

-- no name stands behind itself
unfoldable pub distinct : List (List ℕ) → Bool
distinct [] = true
distinct (n ∷ ns) = unknown (column_of ns n) && distinct ns
