-- A session by blocks: how the program goes through what it has read.
--
--   Desk, desk           a place with its two lent buffers: the line that is not ended, and the answers that are not written
--   fits, ready          the buffers have room for a line and its answer, and the block has bytes left
--   gathered             the line's bytes of the block join those that are held
--   answered_desk        the held line is answered
--   step_of              through one newline, or to the block's end
--   steps_of, block_of   step by step, until the block is used or there is no room for an answer
--   end_of               behind the last byte of the input
--   state_of             the state of the session that a desk stands for
--   DeskLaw              the functions of the code, as the session byte by byte. proofs/Laws/Run.antt proves it: desks
--   carried              what goes from block to block: the line that is not ended and the record
--
-- Each is defined for any place, any buffers and any block; what does not fit stays as it is.
use Rattle.std.specs.Prelude.{Bool, true, cond, ◌&&◌, List, [], ◌≡◌, ℕ, zero, suc, ◌+◌, ◌-◌, ltb, leb, eqb, length, take, drop}
use Rattle.plant.specs.declared.record.Plant.{Plant}
use Rattle.lines.specs.declared.blocks.Place.{Place}
use Rattle.reading.specs.Text.{newline, up_to}
use Rattle.writing.specs.Buffer.{put_at}
use Rattle.lines.specs.Session.{State, run, last_line, answer_of, after_line, after_lines, end_text, said}

pub record Desk : Type 0 where
  pub place : Place
  pub line : List ℕ
  pub out : List ℕ

abbrev pub desk : Place → List ℕ → List ℕ → Desk
desk p line out = record { place = p; line = line; out = out }

abbrev pub place_at : ℕ → ℕ → ℕ → Plant → Place
place_at used held at p = record { used = used; held = held; at = at; plant = p }

-- by the buffers' lengths, with n bytes of answers
unfoldable pub fits : ℕ → ℕ → ℕ → ℕ → ℕ → Bool
fits n held at line out = leb held 1025 && eqb line 1025 && leb (at + n) out

abbrev pub room_for : ℕ → Desk → Bool
room_for n k = fits n k.place.held k.place.at (length k.line) (length k.out)

-- an answer has at most 512 bytes, and its newline is one more
abbrev pub desk_fits : Desk → Bool
desk_fits k = room_for 513 k

abbrev pub ready : List ℕ → Desk → Bool
ready block k = ltb k.place.used (length block) && desk_fits k

-- as many bytes as there is room for in the line's buffer
abbrev pub room : ℕ → List ℕ → List ℕ
room held s = take (1025 - held) s

-- the line's bytes s join those that are held, and the block is used up to e
abbrev pub gathered : Place → List ℕ → List ℕ → List ℕ → ℕ → Desk
gathered p line out s e =
    desk (place_at e (p.held + length (room p.held s)) p.at p.plant) (put_at line p.held (room p.held s)) out

-- the line l is answered, and the block is used up to e
abbrev pub answered_desk : Place → List ℕ → List ℕ → List ℕ → ℕ → Desk
answered_desk p line out l e =
    desk (place_at e 0 (p.at + length (answer_of p.plant l)) (after_line p.plant l)) line (put_at out p.at (answer_of p.plant l))

abbrev pub ended : Desk → Desk
ended k = answered_desk k.place k.line k.out (take k.place.held k.line) (k.place.used + 1)

-- s is what the block has of the line, up to its place e
abbrev pub through : List ℕ → Desk → List ℕ → ℕ → Desk
through block k s e =
    cond (ltb e (length block)) (ended (gathered k.place k.line k.out s e)) (gathered k.place k.line k.out s e)

abbrev pub line_in : List ℕ → ℕ → List ℕ
line_in block used = up_to newline (drop used block)

unfoldable pub step_of : List ℕ → Desk → Desk
step_of block k =
    cond (ready block k) (through block k (line_in block k.place.used) (k.place.used + length (line_in block k.place.used))) k

-- steps; as many as the block has bytes go as far as can be
unfoldable pub steps_of : List ℕ → ℕ → Desk → Desk
steps_of block zero k = k
steps_of block (suc n) k = steps_of block n (step_of block k)

abbrev pub block_of : List ℕ → Desk → Desk
block_of block k = steps_of block (length block) k

-- a line that lacks its newline is answered, and the held line stands behind its answer: the text e, and the record q
abbrev pub ended_desk : Desk → List ℕ → Plant → Desk
ended_desk k e q = desk (place_at k.place.used 0 (k.place.at + length e) q) k.line (put_at k.out k.place.at e)

unfoldable pub end_of : Desk → Desk
end_of k =
    let l = take k.place.held k.line in
    cond (room_for 1026 k) (ended_desk k (end_text k.place.plant l) (after_lines k.place.plant (last_line l))) k

abbrev pub state_of : Desk → State
state_of k = record { held = take k.place.held k.line; plant = k.place.plant; printed = take k.place.at k.out }

-- what a place with its buffers stands for, in the session byte by byte: a block's steps run through the bytes that they used, and behind
-- the last byte the bytes that are not written are those of the run and its end. Where the bytes of each run are written before the next,
-- WrittenLaw says that all of them together are what is printed for the input.
pub record DeskRuns (k : Desk) : Type 0 where
  pub block : (block : List ℕ)
      → state_of (block_of block k) ≡ run (state_of k) (take ((block_of block k).place.used - k.place.used) (drop k.place.used block))
  pub end : room_for 1026 k ≡ true → take (end_of k).place.at (end_of k).out ≡ said (state_of k)

abbrev pub DeskLaw : Type 0
DeskLaw = (k : Desk) → DeskRuns k

abbrev pub carried : Place → List ℕ → State
carried p line = record { held = take p.held line; plant = p.plant; printed = [] }
