-- Answers as text: document 01, "Lines in brackets", and document 02, E1 and E12.
--
--   column_text, columns_text    (name N), and the columns of a vector, with or without those that are zero, each behind a space
--   told_text                    numbers behind their labels
--   handed_text                  a vector that is handed out, behind the beginning of its answer: a release's, or a draw's
--   answer_text                  an answer's bytes, with that vector
--   held_text                    the held line's bytes
--   fitting                      no bytes where the buffer is under 512
--   AnswerLineLaw, HeldLineLaw   neither holds a newline
use Rattle.std.specs.Prelude.{Bool, true, cond, not, ◌&&◌, List, [], ◌∷◌, ◌++◌, ◌≡◌, ℕ, ◌+◌, ltb, eqb, get_or, Result, Ok, Err}
use Rattle.refusals.specs.declared.Refusal.{Refusal}
use Rattle.refusals.specs.Refusal.{number}
use Rattle.plant.specs.declared.answer.Answer.{Answer}
use Rattle.plant.specs.declared.answer.Answer.TheVariants.{Refused, Received, Fed, Settled, Returned, Released, Recycled, Drawn, Accepted}
use Rattle.holding.specs.declared.holding.HeldTotals.{HeldTotals}
use Rattle.reading.specs.declared.names.Vector.TheVariants.{Sludge}
use Rattle.reading.specs.Text.{ascii, one_line}
use Rattle.reading.specs.Number.{decimal}
use Rattle.reading.specs.Names.{names_of}

-- a label and a number
abbrev pub labelled : List ℕ → ℕ → List ℕ
labelled label n = label ++ decimal n

unfoldable pub column_text : List ℕ → ℕ → List ℕ
column_text name n = ascii " (" ++ (name ++ (labelled (ascii " ") n ++ ascii ")"))

-- a column, and none where its number is zero and zeros are left away
unfoldable pub column_or_none : Bool → List ℕ → ℕ → List ℕ
column_or_none zeros name n = cond (not zeros && eqb n 0) [] (column_text name n)

-- the columns of v from c on, which have these names
unfoldable pub columns_from : Bool → ℕ → List (List ℕ) → List ℕ → List ℕ
columns_from zeros c [] v = []
columns_from zeros c (name ∷ names) v = column_or_none zeros name (get_or v c 0) ++ columns_from zeros (c + 1) names v

abbrev pub columns_text : Bool → List (List ℕ) → List ℕ → List ℕ
columns_text zeros names v = columns_from zeros 0 names v

-- numbers, each behind its label, and a bracket
unfoldable pub told_text : List (List ℕ × ℕ) → List ℕ
told_text [] = ascii ")"
told_text (p ∷ ps) = labelled p.0 p.1 ++ told_text ps

abbrev pub fed_text : ℕ → ℕ → ℕ → ℕ → List ℕ
fed_text burnt oxygen nitrate warn =
    told_text ((ascii "(ok feed burnt ", burnt) ∷ (ascii " oxygen ", oxygen) ∷ (ascii " nitrate ", nitrate) ∷ (ascii " warn ", warn) ∷ [])

abbrev pub returned_text : ℕ → List ℕ
returned_text stripped = told_text ((ascii "(ok return stripped ", stripped) ∷ [])

unfoldable pub handed_text : List ℕ → List ℕ → List ℕ
handed_text head v = head ++ (columns_text true (names_of Sludge) v ++ ascii ")")

abbrev pub accepted_text : ℕ → List ℕ
accepted_text n2 = told_text ((ascii "(ok accept n2 ", n2) ∷ [])

abbrev pub refused_text : ℕ → List ℕ
refused_text n = told_text ((ascii "(no ", n) ∷ [])

abbrev pub answer_text : Answer → List ℕ → List ℕ
answer_text (Refused r) v = refused_text (number r)
answer_text Received v = ascii "(ok receive)"
answer_text (Fed b o n w) v = fed_text b.0 o.0 n.0 w
answer_text Settled v = ascii "(ok settle)"
answer_text (Returned s) v = returned_text s.0
answer_text Released v = handed_text (ascii "(ok release") v
answer_text Recycled v = ascii "(ok recycle)"
answer_text Drawn v = handed_text (ascii "(ok draw") v
answer_text (Accepted m) v = accepted_text m.0

abbrev pub totals_text : ℕ → ℕ → ℕ → ℕ → List ℕ
totals_text cod tkn oxygen nitrate =
    told_text ((ascii "(held cod ", cod) ∷ (ascii " tkn ", tkn) ∷ (ascii " oxygen ", oxygen) ∷ (ascii " nitrate ", nitrate) ∷ [])

-- a record that is itself refused has that refusal
abbrev pub held_text : Result HeldTotals Refusal → List ℕ
held_text (Ok h) = totals_text h.cod.0 h.tkn.0 h.oxygen.0 h.nitrate.0
held_text (Err r) = refused_text (number r)

abbrev pub fitting : ℕ → List ℕ → List ℕ
fitting n s = cond (ltb n 512) [] s

-- no answer and no held line holds a newline. proofs/Laws/OneLine.antt proves it: one-answer, one-held
abbrev pub AnswerLineLaw : Type 0
AnswerLineLaw = (a : Answer) (v : List ℕ) → one_line (answer_text a v) ≡ true

abbrev pub HeldLineLaw : Type 0
HeldLineLaw = (h : Result HeldTotals Refusal) → one_line (held_text h) ≡ true
