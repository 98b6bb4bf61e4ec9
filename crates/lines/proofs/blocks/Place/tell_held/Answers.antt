-- `lines::blocks::Place::tell_held` meets its contract. Assumes nothing.
use mathlib.Core.Path.{refl}
use native.Mathlib.Omega.{arith}
use Rattle.writing.proofs.Laws.Buffer.{put-room}
use Rattle.lines.proofs.Laws.Blocks.{held-gathered}
use Rattle.lines.proofs.blocks.Place.tell_held.Goals as goal

pub returns : goal.returns
returns c =
    let g = held-gathered c.args.out.now c.args.self.now.at c.requires c.held_line-h.ensures
    (put-room _ _ (omega arith) c.put_fitting-self.ensures) in
    record { held_line_put = g.0; at_bound = g.1; same_record = refl }
