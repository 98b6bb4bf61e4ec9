-- Calls and the lines that are written for them. proofs/Laws/Examples.antt proves the table by computation.
--
--   Row, ◌writes◌, ◌previews◌   a call and its line, and a preview and its line
--   examples                    the table
--   ExamplesHold                the text of each row is its line
use Rattle.std.specs.Prelude.{Bool, true, false, List, [], ◌∷◌, map, ◌≡◌, ℕ}
use Prim.Native.String.{String}
use Rattle.vectors.specs.Units.{milligrams, ticks}
use Rattle.interface.specs.Plants.{Named, ◌is◌, asm1_named, digester_named}
use Rattle.plant.specs.declared.answer.Request.{Request}
use Rattle.plant.specs.Calls.{receiving, feeding, settling, returning, releasing, recycling, drawing, accepting}
use Rattle.reading.specs.Text.{ascii}
use Rattle.composing.specs.Line.{entry_text}

pub record Row : Type 0 where
  pub preview : Bool
  pub request : Request
  pub line : String

infix 55 ◌writes◌
abbrev pub ◌writes◌ : Request → String → Row
r writes s = record { preview = false; request = r; line = s }

infix 55 ◌previews◌
abbrev pub ◌previews◌ : Request → String → Row
r previews s = record { preview = true; request = r; line = s }

abbrev pub receiving_named : List Named → Request
receiving_named ns = receiving (asm1_named ns)

abbrev pub settling_named : ℕ → List Named → Request
settling_named g ns = settling (milligrams g) (digester_named ns)

abbrev pub accepting_named : ℕ → List Named → Request
accepting_named n ns = accepting (asm1_named ns) (ticks n)

abbrev pub examples : List Row
examples =
    (receiving_named ("ss" is 10 ∷ "xs" is 30 ∷ []) writes "(receive (ss 10) (xs 30))")
    -- the order of the columns, whatever the order in which they were named
    ∷ (receiving_named ("salk" is 7 ∷ "si" is 1 ∷ []) writes "(receive (si 1) (salk 7))")
    -- no column, and columns that are zero
    ∷ (receiving_named [] writes "(receive)")
    ∷ (receiving_named ("ss" is 0 ∷ "so" is 5000 ∷ []) writes "(receive (so 5000))")
    -- above every ceiling
    ∷ (receiving_named ("sno" is 18_446_744_073_709_551_615 ∷ []) writes "(receive (sno 18446744073709551615))")
    -- the call's own number is always written
    ∷ (feeding 1000 writes "(feed 1000)")
    ∷ (feeding 0 writes "(feed 0)")
    ∷ (settling_named 0 [] writes "(settle 0)")
    ∷ (settling_named 7 ("si" is 1 ∷ "sch4" is 2 ∷ "cn" is 3 ∷ []) writes "(settle 7 (si 1) (sch4 2) (cn 3))")
    ∷ (returning 20 writes "(return 20)")
    ∷ (releasing 100 writes "(release 100)")
    ∷ (recycling 18_446_744_073_709_551_615 writes "(recycle 18446744073709551615)")
    ∷ (drawing 250 writes "(draw 250)")
    ∷ (accepting_named 0 [] writes "(accept 0)")
    ∷ (accepting_named 9 ("sno" is 5 ∷ "si" is 1 ∷ []) writes "(accept 9 (si 1) (sno 5))")
    -- previews
    ∷ (feeding 1000 previews "(preview (feed 1000))")
    ∷ (receiving_named ("ss" is 10 ∷ []) previews "(preview (receive (ss 10)))")
    ∷ (settling_named 0 ("xc" is 9 ∷ []) previews "(preview (settle 0 (xc 9)))")
    ∷ (accepting_named 7 ("salk" is 2 ∷ []) previews "(preview (accept 7 (salk 2)))")
    ∷ []

-- the texts of the rows are their lines, one by one
abbrev pub ExamplesHold : Type 0
ExamplesHold = map (λ (w : Row). entry_text w.preview w.request) examples ≡ map (λ (w : Row). ascii w.line) examples
