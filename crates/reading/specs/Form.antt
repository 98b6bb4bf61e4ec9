-- Fields and forms: document 01, "Lines in brackets", as document 02 amends it.
--
--   read_field     inside a bracket: a name, a space, a number
--   any_fields     none or more fields, each behind a space, each column at most once
--   from_fields    a number of each of them
--   in_order       their columns rise: document 02, E2
--   read_fields    fields in that order
--   field_from     a field where its column is n or behind it
--   numbered_by    a number, then fields
--   number_words   the words of the forms with a number alone: (feed N), (return N), (release N), and (recycle N) and (draw N) of document
--                  02, E1 and E12
--   form_by        the form of a call, inside its bracket: (receive F..), (settle N F..), (accept N F..) of document 02, E12, or one of
--                  these
--
-- The part inside a bracket is read by itself.
use Rattle.std.specs.Prelude.{Bool, true, false, cond, ◌&&◌, Option, Some, None, option_and_then, List, [], ◌∷◌, ℕ, ◌+◌, leb, ltb, eqb}
use Rattle.std.specs.Prelude.{length, drop, get_or, set, replicate}
use Rattle.vectors.specs.Columns.{asm1, asm1_columns}
use Rattle.vectors.specs.Units.{milligrams, ticks}
use Rattle.plant.specs.declared.answer.Call.{Call}
use Rattle.plant.specs.declared.answer.Call.TheVariants as call
use Rattle.reading.specs.declared.names.Vector.TheVariants.{Sludge, Digester}
use Rattle.reading.specs.declared.fields.Field.{Field}
use Rattle.reading.specs.declared.fields.Fields.{Fields}
use Rattle.reading.specs.declared.form.Asked.{Asked}
use Rattle.reading.specs.Text.{ascii, same_bytes, Word, ◌means◌, look_up, up_to, behind, pieces, space, opening, closing}
use Rattle.reading.specs.Number.{read_number}
use Rattle.reading.specs.Names.{names_of, column_of}

-- ---- fields

-- the column c with its number n
abbrev pub field : ℕ → ℕ → Option Field
field c n = Some (record { column = c; number = n })

abbrev pub numbered : ℕ → Option ℕ → Option Field
numbered c (Some n) = field c n
numbered c None = None

abbrev pub field_of : Option ℕ → Option ℕ → Option Field
field_of (Some c) n = numbered c n
field_of None n = None

unfoldable pub read_field : List (List ℕ) → List ℕ → Option Field
read_field names s = field_of (column_of names (up_to space s)) (read_number (behind space s))

-- a space, and a bracket with a field
unfoldable pub read_piece : List (List ℕ) → List ℕ → Option Field
read_piece names [] = None
read_piece names (a ∷ []) = None
read_piece names (a ∷ (b ∷ s)) = cond (eqb a space && eqb b opening) (read_field names s) None

abbrev pub no_fields : Fields
no_fields = record { columns = replicate 26 0; seen = replicate 26 false }

-- a further field; none may be where its column was named before
unfoldable pub add_field : Fields → Option Field → Option Fields
add_field f (Some x) =
    cond (ltb x.column 26)
    (cond (get_or f.seen x.column false) None
    (Some (record { columns = set f.columns x.column x.number; seen = set f.seen x.column true })))
    None
add_field f None = None

-- a field's column, 26 where it is none, and its number
abbrev pub column_in : Option Field → ℕ
column_in (Some x) = x.column
column_in None = 26

abbrev pub number_in : Option Field → ℕ
number_in (Some x) = x.number
number_in None = 0

-- nothing stands behind the last bracket
abbrev pub at_end : Fields → List ℕ → Option Fields
at_end f [] = Some f
at_end f (c ∷ s) = None

unfoldable pub read_pieces : List (List ℕ) → Fields → List (List ℕ) → Option Fields
read_pieces names f [] = None
read_pieces names f (p ∷ []) = at_end f p
read_pieces names f (p ∷ (q ∷ ps)) =
    option_and_then (λ (g : Fields). read_pieces names g (q ∷ ps)) (add_field f (read_piece names p))

-- the fields of document 01, in any order
abbrev pub any_fields : List (List ℕ) → List ℕ → Option Fields
any_fields names s = read_pieces names no_fields (pieces closing s)

-- ---- the order of the fields: document 02, E2

-- a number of each field that stands in pieces, one by one; what stands behind the last bracket is no field
unfoldable pub from_fields : (Option Field → ℕ) → List (List ℕ) → List (List ℕ) → List ℕ
from_fields of names [] = []
from_fields of names (p ∷ []) = []
from_fields of names (p ∷ (q ∷ ps)) = of (read_piece names p) ∷ from_fields of names (q ∷ ps)

-- the columns that they name
abbrev pub named : List (List ℕ) → List (List ℕ) → List ℕ
named names ps = from_fields column_in names ps

-- each is n or above, and above the one before it
unfoldable pub rises : ℕ → List ℕ → Bool
rises n [] = true
rises n (c ∷ cs) = leb n c && rises (c + 1) cs

abbrev pub in_order : List (List ℕ) → List ℕ → Bool
in_order names s = rises 0 (named names (pieces closing s))

abbrev pub read_fields : List (List ℕ) → List ℕ → Option Fields
read_fields names s = cond (in_order names s) (any_fields names s) None

-- a field whose column is n or behind it
abbrev pub field_from : ℕ → Option Field → Option Field
field_from n (Some x) = cond (leb n x.column) (Some x) None
field_from n None = None

-- ---- forms

-- a call with its vectors, or where b holds a preview of it
abbrev pub line_of : Call → Bool → List ℕ → List ℕ → Option Asked
line_of c b v d = Some (record { request = record { call = c; sludge = v; digester = d }; preview = b })

-- the same with no vector
abbrev pub bare : Call → Bool → Option Asked
bare c b = line_of c b (replicate 13 0) (replicate 26 0)

abbrev pub no_form : Option Asked
no_form = None

-- a call that takes an ASM1 vector, with that of the fields
abbrev pub sludge_line : Call → Fields → Option Asked
sludge_line c f = line_of c false (asm1_columns (asm1 f.columns)) (replicate 26 0)

-- (receive F..)
abbrev pub receive_line : Option Fields → Option Asked
receive_line (Some f) = sludge_line call.Receive f
receive_line None = no_form

-- (settle N F..)
abbrev pub settle_line : Option (ℕ × Fields) → Option Asked
settle_line (Some p) = line_of (call.Settle (milligrams p.0)) false (replicate 13 0) p.1.columns
settle_line None = no_form

-- (accept N F..): document 02, E12
abbrev pub accept_line : Option (ℕ × Fields) → Option Asked
accept_line (Some p) = sludge_line (call.Accept (ticks p.0)) p.1
accept_line None = no_form

-- (feed N), (return N), (release N), and (recycle N) and (draw N) of document 02, E1 and E12: the words, and what each asks with its number
abbrev pub number_words : ℕ → List (Word (Option Asked))
number_words k =
    "feed" means bare (call.Feed k) false
    ∷ "return" means bare (call.Return k) false
    ∷ "release" means bare (call.Release k) false
    ∷ "recycle" means bare (call.Recycle k) false
    ∷ "draw" means bare (call.Draw k) false
    ∷ []

abbrev pub call_of : List ℕ → ℕ → Option Asked
call_of w k = look_up no_form (number_words k) w

abbrev pub number_line : List ℕ → Option ℕ → Option Asked
number_line w (Some k) = call_of w k
number_line w None = no_form

-- a reader of fields by their names
abbrev pub Reader : Type 0
Reader = List (List ℕ) → List ℕ → Option Fields

-- behind a word and its space: a number, then fields, which begin at the next space
abbrev pub fields_part : List ℕ → List ℕ
fields_part u = drop (length (up_to space u)) u

abbrev pub paired : Option ℕ → Option Fields → Option (ℕ × Fields)
paired (Some n) (Some f) = Some (n, f)
paired (Some n) None = None
paired None f = None

unfoldable pub numbered_by : Reader → List (List ℕ) → List ℕ → Option (ℕ × Fields)
numbered_by fields names u = paired (read_number (up_to space u)) (fields names (fields_part u))

-- inside the bracket t: the word w up to the first space, and what stands behind it
unfoldable pub form_of : Reader → List ℕ → List ℕ → Option Asked
form_of fields w t =
    cond (same_bytes w (ascii "receive")) (receive_line (fields (names_of Sludge) (drop (length w) t)))
    (cond (same_bytes w (ascii "settle")) (settle_line (numbered_by fields (names_of Digester) (behind space t)))
    (cond (same_bytes w (ascii "accept")) (accept_line (numbered_by fields (names_of Sludge) (behind space t)))
    (number_line w (read_number (behind space t)))))

abbrev pub form_by : Reader → List ℕ → Option Asked
form_by fields t = form_of fields (up_to space t) t
