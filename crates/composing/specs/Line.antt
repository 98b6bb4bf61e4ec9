-- A call as a line: document 02, E5 and E12.
--
--   fields_from, fields_text               the columns of a vector in order, left away where they are zero
--   receive_text, numbered_text            a word and the columns of a vector, and a word, a number and these
--   call_text                              a call in its brackets, with the vector that it takes
--   entry_text                             the same, or a preview of it
--   asked                                  what a line with the call is read as: the vector that it does not take is zero
--   Holds                                  13 and 26 columns, and no number above 2^64 − 1, as the code has them
--   TextReadLaw                            reading the text of a call yields the call. proofs/Laws/Line.antt proves it: entry-read
--   TextGivesLaw                           so the line gives what the call gives, on every record: entry-gives
--   names_no_zero                          no column that a line names is given zero, as a test
--   TextOnlyLaw                            a line that is read as the call and names no zero column is its text. proofs/Laws/Only.antt
--                                          proves it: entry-only
--   TextNoZeroLaw                          the text of a call names none. proofs/Laws/Line.antt proves it: entry-no-zero
--   TextLengthLaw                          it has at most 1,024 bytes: entry-length
--   TextLineLaw                            no newline stands in it: entry-one
use Rattle.std.specs.Prelude.{Bool, true, false, cond, not, ◌&&◌, Option, List, [], ◌∷◌, ◌++◌, ◌≡◌, ℕ, ◌≤◌, eqb, length, get_or, replicate}
use Rattle.plant.specs.declared.record.Plant.{Plant}
use Rattle.plant.specs.declared.answer.Call.{Call}
use Rattle.plant.specs.declared.answer.Call.TheVariants.{Receive, Feed, Settle, Return, Release, Recycle, Draw, Accept}
use Rattle.plant.specs.declared.answer.Request.{Request}
use Rattle.plant.specs.Calls.{outcome_by}
use Rattle.reading.specs.declared.names.Vector.TheVariants.{Sludge, Digester}
use Rattle.reading.specs.declared.form.Asked.{Asked}
use Rattle.reading.specs.Text.{ascii, one_line, pieces, closing}
use Rattle.reading.specs.Number.{largest}
use Rattle.reading.specs.Names.{names_of}
use Rattle.reading.specs.Form.{line_of, bare, from_fields, number_in}
use Rattle.reading.specs.Line.{bracketed, preview_text, passes, read_line}
use Rattle.writing.specs.Answer.{labelled, columns_from}
use Rattle.lines.specs.Asking.{line_outcome}

-- ---- the text

-- the columns of v from c on, which have these names; those that are zero are left away
abbrev pub fields_from : ℕ → List (List ℕ) → List ℕ → List ℕ
fields_from c names v = columns_from false c names v

abbrev pub fields_text : List (List ℕ) → List ℕ → List ℕ
fields_text names v = fields_from 0 names v

abbrev pub receive_text : List ℕ → List ℕ
receive_text v = bracketed (ascii "receive" ++ fields_text (names_of Sludge) v)

abbrev pub numbered_text : List ℕ → ℕ → List (List ℕ) → List ℕ → List ℕ
numbered_text label n names v = bracketed (labelled label n ++ fields_text names v)

-- the call's own number is always written
abbrev pub call_text : Call → List ℕ → List ℕ → List ℕ
call_text Receive v d = receive_text v
call_text (Feed k) v d = bracketed (labelled (ascii "feed ") k)
call_text (Settle g) v d = numbered_text (ascii "settle ") g.0 (names_of Digester) d
call_text (Return k) v d = bracketed (labelled (ascii "return ") k)
call_text (Release k) v d = bracketed (labelled (ascii "release ") k)
call_text (Recycle k) v d = bracketed (labelled (ascii "recycle ") k)
call_text (Draw k) v d = bracketed (labelled (ascii "draw ") k)
call_text (Accept n) v d = numbered_text (ascii "accept ") n.0 (names_of Sludge) v

-- a request, or a preview of it
abbrev pub entry_text : Bool → Request → List ℕ
entry_text b r = let t = call_text r.call r.sludge r.digester in cond b (preview_text t) t

-- ---- reading it

abbrev pub asked_by : Bool → Call → List ℕ → List ℕ → Option Asked
asked_by b Receive v d = line_of Receive b v (replicate 26 0)
asked_by b (Feed k) v d = bare (Feed k) b
asked_by b (Settle g) v d = line_of (Settle g) b (replicate 13 0) d
asked_by b (Return k) v d = bare (Return k) b
asked_by b (Release k) v d = bare (Release k) b
asked_by b (Recycle k) v d = bare (Recycle k) b
asked_by b (Draw k) v d = bare (Draw k) b
asked_by b (Accept n) v d = line_of (Accept n) b v (replicate 26 0)

abbrev pub asked : Bool → Request → Option Asked
asked b r = asked_by b r.call r.sludge r.digester

-- a call's own number, 0 where it has none
abbrev pub own_number : Call → ℕ
own_number Receive = 0
own_number (Feed k) = k
own_number (Settle g) = g.0
own_number (Return k) = k
own_number (Release k) = k
own_number (Recycle k) = k
own_number (Draw k) = k
own_number (Accept n) = n.0

-- n columns, none above 2^64 − 1
abbrev pub Columns : ℕ → List ℕ → Type 0
Columns n v = (length v ≡ n) × ((c : ℕ) → get_or v c 0 ≤ largest)

pub record Holds (r : Request) : Type 0 where
  pub number : own_number r.call ≤ largest
  pub sludge : Columns 13 r.sludge
  pub digester : Columns 26 r.digester

abbrev pub TextReadLaw : Type 0
TextReadLaw = (b : Bool) (r : Request) → Holds r → read_line (entry_text b r) ≡ asked b r

-- on any record p, whatever its figures, in any buffer of m bytes that an answer fits in
abbrev pub TextGivesLaw : Type 0
TextGivesLaw =
    (m : ℕ) (p : Plant) (b : Bool) (r : Request) → Holds r → 512 ≤ m
    → line_outcome m p (entry_text b r) ≡ outcome_by p b r

-- ---- the only such line

unfoldable pub none_zero : List ℕ → Bool
none_zero [] = true
none_zero (n ∷ ns) = not (eqb n 0) && none_zero ns

-- the numbers of the fields s
abbrev pub fields_no_zero : List (List ℕ) → List ℕ → Bool
fields_no_zero names s = none_zero (from_fields number_in names (pieces closing s))

abbrev pub names_no_zero : List ℕ → Bool
names_no_zero s = passes fields_no_zero s

abbrev pub TextOnlyLaw : Type 0
TextOnlyLaw = (b : Bool) (r : Request) (s : List ℕ) → read_line s ≡ asked b r → names_no_zero s ≡ true → s ≡ entry_text b r

abbrev pub TextNoZeroLaw : Type 0
TextNoZeroLaw = (b : Bool) (r : Request) → Holds r → names_no_zero (entry_text b r) ≡ true

-- ---- its bytes

abbrev pub TextLengthLaw : Type 0
TextLengthLaw = (b : Bool) (r : Request) → length (entry_text b r) ≤ 1024

abbrev pub TextLineLaw : Type 0
TextLineLaw = (b : Bool) (r : Request) → one_line (entry_text b r) ≡ true
