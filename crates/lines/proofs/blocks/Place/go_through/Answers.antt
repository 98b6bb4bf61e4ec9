-- `lines::blocks::Place::go_through` meets its contract. Assumes nothing.
use mathlib.Core.Path.{ap}
use native.Mathlib.Omega.{arith}
use Rattle.lines.specs.Blocks.{room, line_in}
use Rattle.writing.proofs.Laws.Buffer.{put_same}
use Rattle.lines.proofs.Laws.Blocks.{part-line, through-newline, through-end}
use Rattle.lines.proofs.blocks.Place.go_through.Goals as goal

pub returns-then-e-block-clause-desk_after : goal.returns-then-e-block-clause-desk_after
returns-then-e-block-clause-desk_after c =
    let a = c.args in
    let t = c.find_byte-e.ensures.first_place in
    let k = put_same (ap (room a.self.now.held) (part-line a.block.now a.self.now.used c.find_byte-e.result t)) c.keep_bytes-held.ensures in
    through-newline a.block.now a.line.now a.out.now (line_in a.block.now a.self.now.used) a.self.now t k
    c.if-e-block.true c.answer.ensures.line_ended c.answer.ensures.answer_gathered

pub returns-clause-desk_after : goal.returns-clause-desk_after
returns-clause-desk_after c =
    let a = c.args in
    let t = c.find_byte-e.ensures.first_place in
    let k = put_same (ap (room a.self.now.held) (part-line a.block.now a.self.now.used c.find_byte-e.result t)) c.keep_bytes-held.ensures in
    through-end a.block.now a.line.now a.out.now (line_in a.block.now a.self.now.used) a.self.now t k (omega arith)
