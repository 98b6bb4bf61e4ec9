-- `lines::blocks::Place::answer` meets its contract. Assumes nothing.
use mathlib.Core.Path.{refl}
use native.Mathlib.Omega.{arith}
use Rattle.writing.proofs.Laws.Buffer.{put-room}
use Rattle.lines.proofs.Laws.Blocks.{answer-gathered}
use Rattle.lines.proofs.blocks.Place.answer.Goals as goal

pub returns : goal.returns
returns c =
    let a = c.args in
    let g = answer-gathered a.out.now a.self.now.at c.requires c.answer_line-a.ensures
    (put-room _ _ (omega arith) c.put_fitting-self.ensures) in
    record { answer_gathered = g.0; at_bound = g.1; line_ended = refl }
