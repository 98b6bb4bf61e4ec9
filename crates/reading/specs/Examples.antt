-- Lines and what they are read as. proofs/Laws/Examples.antt proves the table by computation.
--
--   Row, ◌asks◌, examples   a line, and what it asks; the table
--   AllHold, ExamplesHold   each line of a table is read as that; each of this one is
use Rattle.std.specs.Prelude.{true, false, Option, List, [], ◌∷◌, ◌≡◌, ℕ, replicate}
use Prim.Native.String.{String}
use Rattle.interface.specs.Plants.{Named, ◌is◌, asm1_named, digester_named}
use Rattle.vectors.specs.Units.{milligrams, ticks}
use Rattle.plant.specs.declared.answer.Call.TheVariants as call
use Rattle.reading.specs.declared.form.Asked.{Asked}
use Rattle.reading.specs.Text.{ascii}
use Rattle.reading.specs.Form.{line_of, bare, no_form}
use Rattle.reading.specs.Line.{read_line}

pub record Row : Type 0 where
  pub line : String
  pub read : Option Asked

infix 55 ◌asks◌
abbrev pub ◌asks◌ : String → Option Asked → Row
s asks l = record { line = s; read = l }

abbrev pub receiving : List Named → Option Asked
receiving ns = line_of call.Receive false (asm1_named ns) (replicate 26 0)

abbrev pub settling : ℕ → List Named → Option Asked
settling g ns = line_of (call.Settle (milligrams g)) false (replicate 13 0) (digester_named ns)

abbrev pub accepting : ℕ → List Named → Option Asked
accepting n ns = line_of (call.Accept (ticks n)) false (asm1_named ns) (replicate 26 0)

abbrev pub feeding : ℕ → Option Asked
feeding k = bare (call.Feed k) false

abbrev pub examples : List Row
examples =
    ("(receive (ss 10000) (xs 30000) (so 5000) (sno 100000000))"
    asks receiving ("ss" is 10000 ∷ "xs" is 30000 ∷ "so" is 5000 ∷ "sno" is 100_000_000 ∷ []))
    ∷ ("(feed 1000)" asks feeding 1000)
    ∷ ("(feed 0)" asks feeding 0)
    ∷ ("(return 1000)" asks bare (call.Return 1000) false)
    ∷ ("(release 1000)" asks bare (call.Release 1000) false)
    ∷ ("(recycle 1000)" asks bare (call.Recycle 1000) false)
    ∷ ("(recycle 18446744073709551615)" asks bare (call.Recycle 18_446_744_073_709_551_615) false)
    ∷ ("(recycle)" asks no_form)
    ∷ ("(recycle 01)" asks no_form)
    ∷ ("(recycle 1 (ss 1))" asks no_form)
    ∷ ("(recycled 1)" asks no_form)
    -- draws and accepts
    ∷ ("(draw 1)" asks bare (call.Draw 1) false)
    ∷ ("(draw 1 (ss 1))" asks no_form)
    ∷ ("(accept 0)" asks accepting 0 [])
    ∷ ("(accept 18446744073709551615 (ss 1) (sno 2))"
    asks accepting 18_446_744_073_709_551_615 ("ss" is 1 ∷ "sno" is 2 ∷ []))
    ∷ ("(accept 18446744073709551616)" asks no_form)
    ∷ ("(accept (ss 1))" asks no_form)
    ∷ ("(accept)" asks no_form)
    ∷ ("(accept 1 (sno 2) (ss 1))" asks no_form)
    ∷ ("(accept 1 (sin 1))" asks no_form)
    ∷ ("(accept 1 1)" asks no_form)
    -- no field; fields in the order of the columns; reversed, two neighbours swapped, one doubled
    ∷ ("(receive)" asks receiving [])
    ∷ ("(settle 0)" asks settling 0 [])
    ∷ ("(receive (ss 0) (sno 2) (salk 3))" asks receiving ("sno" is 2 ∷ "salk" is 3 ∷ []))
    ∷ ("(receive (salk 3) (sno 2) (ss 0))" asks no_form)
    ∷ ("(receive (sno 2) (ss 0) (salk 3))" asks no_form)
    ∷ ("(receive (ss 0) (ss 0) (sno 2))" asks no_form)
    ∷ ("(settle 7 (si 1) (xsu 4) (sin 5) (cn 2))" asks settling 7 ("si" is 1 ∷ "xsu" is 4 ∷ "sin" is 5 ∷ "cn" is 2 ∷ []))
    ∷ ("(settle 7 (cn 2) (sin 5) (xsu 4) (si 1))" asks no_form)
    ∷ ("(settle 7 (si 1) (sin 5) (xsu 4) (cn 2))" asks no_form)
    ∷ ("(settle 7 (si 1) (cn 2) (cn 2))" asks no_form)
    -- a column between its two namings; a step back at the end
    ∷ ("(receive (xs 1) (xi 1) (xs 1))" asks no_form)
    ∷ ("(receive (ss 1) (xs 2) (xi 3))" asks no_form)
    -- names that begin alike, and of the other vector
    ∷ ("(settle 0 (si 1) (sic 3))" asks settling 0 ("si" is 1 ∷ "sic" is 3 ∷ []))
    ∷ ("(receive (s 1))" asks no_form)
    ∷ ("(receive (sin 1))" asks no_form)
    ∷ ("(settle 0 (ss 1))" asks no_form)
    ∷ ("(receive (salka 1))" asks no_form)
    -- numbers
    ∷ ("(feed 18446744073709551615)" asks feeding 18_446_744_073_709_551_615)
    ∷ ("(feed 18446744073709551616)" asks no_form)
    ∷ ("(feed 00)" asks no_form)
    ∷ ("(feed 01)" asks no_form)
    ∷ ("(feed +1)" asks no_form)
    ∷ ("(feed )" asks no_form)
    ∷ ("(feed)" asks no_form)
    ∷ ("(receive (ss ))" asks no_form)
    ∷ ("(receive (ss))" asks no_form)
    -- spaces and other bytes
    ∷ ("" asks no_form)
    ∷ ("()" asks no_form)
    ∷ ("(receive )" asks no_form)
    ∷ ("( receive)" asks no_form)
    ∷ (" (receive)" asks no_form)
    ∷ ("(receive) " asks no_form)
    ∷ ("(feed  1)" asks no_form)
    ∷ ("(feed 1 )" asks no_form)
    ∷ ("(receive (ss 1)(xs 2))" asks no_form)
    ∷ ("(receive (ss 1)  (xs 2))" asks no_form)
    ∷ ("(receive (ss 1) )" asks no_form)
    ∷ ("(receive ((ss 1)))" asks no_form)
    ∷ ("(feed\t1)" asks no_form)
    ∷ ("(feed 1)\r" asks no_form)
    ∷ ("(feed 1\0)" asks no_form)
    ∷ ("(feed é)" asks no_form)
    ∷ ("(Feed 1)" asks no_form)
    ∷ ("(feeds 1)" asks no_form)
    ∷ ("(settle (ssu 4))" asks no_form)
    ∷ ("(feed 1" asks no_form)
    ∷ ("feed 1)" asks no_form)
    -- previews
    ∷ ("(preview (feed 1))" asks bare (call.Feed 1) true)
    ∷ ("(preview (return 2))" asks bare (call.Return 2) true)
    ∷ ("(preview (release 3))" asks bare (call.Release 3) true)
    ∷ ("(preview (recycle 4))" asks bare (call.Recycle 4) true)
    ∷ ("(preview (draw 5))" asks bare (call.Draw 5) true)
    ∷ ("(preview (accept 6 (salk 7)))" asks line_of (call.Accept (ticks 6)) true (asm1_named ("salk" is 7 ∷ [])) (replicate 26 0))
    ∷ ("(preview (receive (ss 1) (xs 2)))"
    asks line_of call.Receive true (asm1_named ("ss" is 1 ∷ "xs" is 2 ∷ [])) (replicate 26 0))
    ∷ ("(preview (settle 7 (cn 2)))"
    asks line_of (call.Settle (milligrams 7)) true (replicate 13 0) (digester_named ("cn" is 2 ∷ [])))
    ∷ ("(preview (preview (feed 1)))" asks no_form)
    ∷ ("(preview (receive (xs 2) (ss 1)))" asks no_form)
    ∷ ("(preview feed 1)" asks no_form)
    ∷ ("(preview)" asks no_form)
    ∷ ("(preview )" asks no_form)
    ∷ ("(preview ())" asks no_form)
    ∷ ("(preview  (feed 1))" asks no_form)
    ∷ ("(preview (feed 1) )" asks no_form)
    ∷ ("(preview (feed 1) (feed 1))" asks no_form)
    ∷ ("(preview(feed 1))" asks no_form)
    ∷ ("(preview (feed 1)" asks no_form)
    ∷ ("(previews (feed 1))" asks no_form)
    ∷ []

abbrev pub AllHold : List Row → Type 0
AllHold [] = Unit
AllHold (r ∷ rs) = (read_line (ascii r.line) ≡ r.read) × AllHold rs

abbrev pub ExamplesHold : Type 0
ExamplesHold = AllHold examples
