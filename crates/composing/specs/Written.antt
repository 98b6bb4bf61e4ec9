-- A call's line in a lent buffer: document 02, E5.
--
--   line_text      the call's text and a newline
--   written_text   the same, and no bytes where the buffer is under 1,025
--   LineWritten    the promise of the call: how many bytes there are or the refusal, and the whole buffer
use Rattle.std.specs.Prelude.{Result, Ok, Err, Bool, cond, List, [], ◌∷◌, ◌++◌, ◌≡◌, ℕ, ltb, length, drop}
use Rattle.plant.specs.declared.answer.Request.{Request}
use Rattle.reading.specs.Text.{newline}
use Rattle.refusals.specs.declared.Refusal.{Refusal}
use Rattle.refusals.specs.declared.Refusal.TheVariants.{ShortBuffer}
use Rattle.composing.specs.Line.{entry_text}

abbrev pub line_text : Bool → Request → List ℕ
line_text b r = entry_text b r ++ (newline ∷ [])

-- in a buffer of m bytes
unfoldable pub written_text : ℕ → Bool → Request → List ℕ
written_text m b r = cond (ltb m 1025) [] (line_text b r)

-- from the buffer d to the result w and the buffer e; the refusal is 12
pub record LineWritten (d : List ℕ) (b : Bool) (r : Request) (w : Result ℕ Refusal) (e : List ℕ) : Type 0 where
  pub given : w ≡ cond (ltb (length d) 1025) (Err ShortBuffer) (Ok (length (line_text b r)))
  pub buffer : e ≡ written_text (length d) b r ++ drop (length (written_text (length d) b r)) d
