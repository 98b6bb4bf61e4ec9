-- Whole lines: document 01, "Lines in brackets", and document 02, E2, E3 and E12.
--
--   in_brackets, inner    at most 1,024 bytes with a bracket around them, and what is inside
--   call_by               the form of a call in its brackets
--   preview_line          a preview of a form
--   is_previewed          a form that is one
--   is_preview, form_in   a line is (preview FORM), and its FORM
--   line_by               a whole line: (preview FORM), or the form of a call
--   read_line             a line, its fields in order
--   preview_text          (preview FORM), with any bytes for FORM
--   PreviewFormLaw        it is read as the preview of what those bytes are read as, so that a preview inside a preview is no form.
--                         proofs/Laws/Line.antt proves it: preview-form-law
--   passes                a line's fields, where it has any, pass a test
--   any_line              a line whose fields stand in any order
--   ordered               they are in order
--   OrderLaw              the lines of read_line are those of any_line that are ordered, and read as there: order-law
use Rattle.std.specs.Prelude.{Bool, true, false, cond, ◌&&◌, Option, Some, None, List, [], ◌∷◌, ◌++◌, ◌≡◌, ℕ, ◌-◌, ◌≤◌, leb, eqb}
use Rattle.std.specs.Prelude.{length, take, drop, get_or}
use Rattle.reading.specs.declared.names.Vector.TheVariants.{Sludge, Digester}
use Rattle.reading.specs.declared.form.Asked.{Asked}
use Rattle.reading.specs.Text.{ascii, same_bytes, up_to, behind, space, opening, closing}
use Rattle.reading.specs.Names.{names_of}
use Rattle.reading.specs.Form.{any_fields, in_order, read_fields, no_form, Reader, fields_part, form_by}

-- ---- brackets

unfoldable pub in_brackets : List ℕ → Bool
in_brackets s = leb 2 (length s) && leb (length s) 1024 && eqb (get_or s 0 0) opening && eqb (get_or s (length s - 1) 0) closing

abbrev pub inner : List ℕ → List ℕ
inner s = take (length s - 1 - 1) (drop 1 s)

-- ---- calls and previews

-- the form of a call, its brackets around it
unfoldable pub call_by : Reader → List ℕ → Option Asked
call_by fields s = cond (in_brackets s) (form_by fields (inner s)) no_form

-- a preview of a call: document 02, E3. A preview has none.
abbrev pub preview_line : Option Asked → Option Asked
preview_line (Some a) = cond a.preview no_form (Some (record { request = a.request; preview = true }))
preview_line None = no_form

abbrev pub is_previewed : Option Asked → Bool
is_previewed (Some a) = a.preview
is_previewed None = false

-- (preview FORM), and FORM: nine bytes stand before it, and a bracket behind it
unfoldable pub is_preview : List ℕ → Bool
is_preview s = in_brackets s && same_bytes (take 9 s) (ascii "(preview ")

abbrev pub form_in : List ℕ → List ℕ
form_in s = take (length s - 1 - 9) (drop 9 s)

-- a whole line: a preview, or the form of a call
abbrev pub line_by : Reader → List ℕ → Option Asked
line_by fields s = cond (is_preview s) (preview_line (call_by fields (form_in s))) (call_by fields s)

unfoldable pub read_line : List ℕ → Option Asked
read_line s = line_by read_fields s

-- ---- a preview in the place of a line: document 02, E3

abbrev pub bracketed : List ℕ → List ℕ
bracketed t = opening ∷ (t ++ (closing ∷ []))

abbrev pub preview_text : List ℕ → List ℕ
preview_text u = bracketed (ascii "preview " ++ u)

-- where the whole line has at most 1,024 bytes; a longer one is no form
abbrev pub PreviewFormLaw : Type 0
PreviewFormLaw = (u : List ℕ) → length (preview_text u) ≤ 1024 → read_line (preview_text u) ≡ preview_line (read_line u)

-- ---- a test of a line's fields

-- of names and of the bytes of fields
abbrev pub FieldsTest : Type 0
FieldsTest = List (List ℕ) → List ℕ → Bool

-- the fields inside a call's bracket t pass, where its word w has fields
unfoldable pub form_passes : FieldsTest → List ℕ → List ℕ → Bool
form_passes test w t =
    cond (same_bytes w (ascii "receive")) (test (names_of Sludge) (drop (length w) t))
    (cond (same_bytes w (ascii "settle")) (test (names_of Digester) (fields_part (behind space t)))
    (cond (same_bytes w (ascii "accept")) (test (names_of Sludge) (fields_part (behind space t))) true))

abbrev pub call_passes : FieldsTest → List ℕ → Bool
call_passes test s = form_passes test (up_to space (inner s)) (inner s)

-- of a preview those of the call inside
abbrev pub passes : FieldsTest → List ℕ → Bool
passes test s = cond (is_preview s) (call_passes test (form_in s)) (call_passes test s)

-- ---- what the order took away: document 02, E2

abbrev pub any_line : List ℕ → Option Asked
any_line s = line_by any_fields s

abbrev pub ordered : List ℕ → Bool
ordered s = passes in_order s

-- a line in order is read as where the order is free, and any other is no form
abbrev pub OrderLaw : Type 0
OrderLaw = (s : List ℕ) → read_line s ≡ cond (ordered s) (any_line s) no_form
