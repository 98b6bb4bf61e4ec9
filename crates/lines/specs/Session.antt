-- A session: document 01, "Lines in brackets", and what the program sludgeline prints.
--
--   cut, cut_lines                    an input cut into lines
--   OneLineLaw                        an input that begins with a text without a newline, and a newline, is cut there:
--                                     proofs/Laws/Session.antt, one-cut
--   given_by, answer_of, after_line   what a line gives on a record: its outcome, its answer with a newline, the record
--   answers, after_lines              the same for a list of lines, each on the record that the one before left
--   held_line_text                    the held line with its newline
--   transcript, printed               all that is printed for a list of lines, and for an input, on a record
--   entries                           the calls and previews that a list of lines asks
--   State, run                        the same byte by byte, with at most 1,025 bytes of the line that is not ended
--   end_text                          behind the last byte: the answer to a line that lacks its newline, then the held line
--   joined, run_blocks                an input that falls into blocks, and its blocks one behind the other
--   PrintedLaw                        however an input falls into blocks, the answers on the way and then the end are what is printed for
--                                     it. proofs/Laws/Session.antt proves it: printed-whole
--   written, WrittenLaw               the same where the answers are written behind each block: proofs/Laws/Carry.antt, written-whole
--   PreviewGiven, PreviewLaw          (preview FORM) prints what FORM would, and leaves the record: proofs/Laws/Preview.antt, preview-given
--   FileLaw                           for any input on a fresh record of any permitted set, its accepted lines' sums balance against its
--                                     held line: proofs/Laws/File.antt, file
--
-- Everything goes by the record's own figures; in FileLaw f is the set that the record was made with.
use Rattle.std.specs.Prelude.{true, false, cond, Option, Some, None, List, [], ◌∷◌, ◌++◌, ◌≡◌, ℕ, ◌+◌, ◌≤◌, eqb, length, take}
use Rattle.vectors.specs.declared.figures.Figures.{Figures}
use Rattle.vectors.specs.Figures.{Permitted}
use Rattle.vectors.specs.Totals.{asm1_cod, asm1_tkn, asm1_oxygen, asm1_nitrate}
use Rattle.plant.specs.declared.record.Plant.{Plant}
use Rattle.plant.specs.declared.answer.Outcome.{Outcome}
use Rattle.plant.specs.Record.{fresh_plant}
use Rattle.plant.specs.Answer.{refused}
use Rattle.refusals.specs.declared.Refusal.{Refusal}
use Rattle.refusals.specs.declared.Refusal.TheVariants.{NoForm}
use Rattle.std.specs.Prelude.{Result, Ok}
use Rattle.holding.specs.declared.holding.HeldTotals.{HeldTotals}
use Rattle.holding.specs.Held.{held_of}
use Rattle.balances.specs.Balance.{Entry, entry, received, received_nitrate, released, burnt, gas, stripped, oxygen_reduced}
use Rattle.balances.specs.Balance.{nitrate_reduced, n2}
use Rattle.reading.specs.declared.form.Asked.{Asked}
use Rattle.reading.specs.Text.{newline, one_line}
use Rattle.reading.specs.Line.{is_previewed, read_line, preview_text}
use Rattle.writing.specs.Answer.{held_text}
use Rattle.lines.specs.Asking.{form_outcome, outcome_text}

-- ---- lines

-- a line that lacks its newline is a line, and nothing after a final newline is none
abbrev pub last_line : List ℕ → List (List ℕ)
last_line [] = []
last_line (b ∷ h) = (b ∷ h) ∷ []

-- h is what the line has so far
unfoldable pub cut : List ℕ → List ℕ → List (List ℕ)
cut h [] = last_line h
cut h (b ∷ s) = cond (eqb b newline) (h ∷ cut [] s) (cut (h ++ (b ∷ [])) s)

abbrev pub cut_lines : List ℕ → List (List ℕ)
cut_lines s = cut [] s

-- ---- what is printed

unfoldable pub given_by : Plant → List ℕ → Outcome
given_by p l = form_outcome p (read_line l)

abbrev pub answer_of : Plant → List ℕ → List ℕ
answer_of p l = outcome_text (given_by p l) ++ (newline ∷ [])

abbrev pub after_line : Plant → List ℕ → Plant
after_line p l = (given_by p l).plant

unfoldable pub answers : Plant → List (List ℕ) → List ℕ
answers p [] = []
answers p (l ∷ ls) = answer_of p l ++ answers (after_line p l) ls

unfoldable pub after_lines : Plant → List (List ℕ) → Plant
after_lines p [] = p
after_lines p (l ∷ ls) = after_lines (after_line p l) ls

abbrev pub held_line_text : Plant → List ℕ
held_line_text p = held_text (held_of p) ++ (newline ∷ [])

-- for the lines ls on the record p
abbrev pub transcript : Plant → List (List ℕ) → List ℕ
transcript p ls = answers p ls ++ held_line_text (after_lines p ls)

-- for an input s; sludgeline begins with a fresh record of the house set, or of the one that it was started with
abbrev pub printed : Plant → List ℕ → List ℕ
printed p s = transcript p (cut_lines s)

-- ---- the calls and previews that lines ask

abbrev pub entry_of : Option Asked → List Entry → List Entry
entry_of (Some a) es = entry a.preview a.request ∷ es
entry_of None es = es

unfoldable pub entries : List (List ℕ) → List Entry
entries [] = []
entries (l ∷ ls) = entry_of (read_line l) (entries ls)

-- ---- byte by byte

pub record State : Type 0 where
  pub held : List ℕ
  pub plant : Plant
  pub printed : List ℕ

abbrev pub start : Plant → State
start p = record { held = []; plant = p; printed = [] }

-- a state without what is printed
abbrev pub core : State → State
core st = record { held = st.held; plant = st.plant; printed = [] }

-- one byte over the limit is all that a refusal needs
abbrev pub keep : List ℕ → List ℕ → List ℕ
keep h s = take 1025 (h ++ s)

abbrev pub ended : State → State
ended st = record { held = []; plant = after_line st.plant st.held; printed = st.printed ++ answer_of st.plant st.held }

abbrev pub kept : State → List ℕ → State
kept st s = record { held = keep st.held s; plant = st.plant; printed = st.printed }

unfoldable pub run : State → List ℕ → State
run st [] = st
run st (b ∷ s) = run (cond (eqb b newline) (ended st) (kept st (b ∷ []))) s

-- however the input falls into blocks
unfoldable pub joined : List (List ℕ) → List ℕ
joined [] = []
joined (b ∷ bs) = b ++ joined bs

unfoldable pub run_blocks : State → List (List ℕ) → State
run_blocks st [] = st
run_blocks st (b ∷ bs) = run_blocks (run st b) bs

-- ---- behind the last byte

-- held is the line that lacks its newline; where it is empty there is none
abbrev pub end_text : Plant → List ℕ → List ℕ
end_text p held = transcript p (last_line held)

-- ---- the claims

-- what a session has printed on the way, and what it prints at its end
abbrev pub said : State → List ℕ
said st = st.printed ++ end_text st.plant st.held

-- what is written where a session writes what it has printed behind each block, and goes on with the line that is not ended and the record
unfoldable pub written : State → List (List ℕ) → List ℕ
written st [] = said st
written st (b ∷ bs) = (run st b).printed ++ written (core (run st b)) bs

-- so an answer, a held line and the line of a call, which hold none, are one line each
abbrev pub OneLineLaw : Type 0
OneLineLaw = (l s : List ℕ) → one_line l ≡ true → cut_lines (l ++ (newline ∷ s)) ≡ l ∷ cut_lines s

abbrev pub PrintedLaw : Type 0
PrintedLaw = (p : Plant) (bs : List (List ℕ)) → said (run_blocks (start p) bs) ≡ printed p (joined bs)

abbrev pub WrittenLaw : Type 0
WrittenLaw = (p : Plant) (bs : List (List ℕ)) → written (start p) bs ≡ printed p (joined bs)

-- document 02, E3: a preview of what stands in the line u, for any bytes u
pub record PreviewGiven (p : Plant) (u : List ℕ) : Type 0 where
  pub plant : after_line p (preview_text u) ≡ p
  pub answer : length (preview_text u) ≤ 1024 → is_previewed (read_line u) ≡ false → answer_of p (preview_text u) ≡ answer_of p u
  pub nested : is_previewed (read_line u) ≡ true → given_by p (preview_text u) ≡ refused p NoForm

abbrev pub PreviewLaw : Type 0
PreviewLaw = (p : Plant) (u : List ℕ) → PreviewGiven p u

-- the sums over an input's lines, accepted calls alone, against its held line, which is never a refusal
pub record FileBalanced (f : Figures) (es : List Entry) (line : Result HeldTotals Refusal) : Type 0 where
  pub held : HeldTotals
  pub told : line ≡ Ok held
  pub cod : received f es asm1_cod ≡ held.cod.0 + released f es asm1_cod + burnt f es + gas f es + stripped f es
  pub tkn : received f es (asm1_tkn f) ≡ held.tkn.0 + released f es (asm1_tkn f)
  pub oxygen : received f es asm1_oxygen ≡ held.oxygen.0 + released f es asm1_oxygen + oxygen_reduced f es
  pub nitrate : received_nitrate f es ≡ held.nitrate.0 + released f es asm1_nitrate + nitrate_reduced f es + n2 f es

abbrev pub FileLaw : Type 0
FileLaw = (f : Figures) → Permitted f → (s : List ℕ)
    → FileBalanced f (entries (cut_lines s)) (held_of (after_lines (fresh_plant f) (cut_lines s)))
