-- `lines::blocks::end_session` meets its contract. Assumes nothing.
use mathlib.Core.Path.{sym, ◌∙◌}
use Prim.Native.Nat.{◌≤◌}
use native.Mathlib.Omega.{arith}
use lib.ListN.{length}
use Rattle.lines.specs.Blocks.{desk}
use Rattle.lines.proofs.Laws.Blocks.{room-true, end-unfit, end-ready}
use Rattle.lines.proofs.blocks.end_session.Goals as goal

pub answer_last-requires : goal.answer_last-requires
answer_last-requires c =
    let t = room-true _ (desk c.args.p c.args.line.now c.args.out.now) (sym c.has_room.ensures ∙ c.if-has_room.true) in
    (omega (arith, t.0, t.1), omega (arith, t.2))

pub tell_held-requires : goal.tell_held-requires
tell_held-requires c =
    let t = room-true _ (desk c.args.p c.args.line.now c.args.out.now) (sym c.has_room.ensures ∙ c.if-has_room.true) in
    omega (arith, t.2, c.answer_last.ensures.at_bound, c.answer_last.auto)

pub returns-then-has_room : goal.returns-then-has_room
returns-then-has_room c =
    let a = c.args in
    let fit = sym c.has_room.ensures ∙ c.if-has_room.true in
    let t = room-true _ (desk a.p a.line.now a.out.now) fit in
    let g = c.answer_last in
    let h = c.tell_held in
    let room : h.new.self.at ≤ length a.out.now = omega (arith, t.2, g.ensures.at_bound, h.ensures.at_bound) in
    record {
      desk_after = end-ready a.p a.line.now a.out.now fit h.ensures.same_record g.ensures.line_ended g.ensures.answer_gathered
          h.ensures.held_line_put room;
      at_in_bounds = λ b. room;
    }

pub returns-else-has_room-clause-desk_after : goal.returns-else-has_room-clause-desk_after
returns-else-has_room-clause-desk_after c = end-unfit c.args.p c.args.line.now c.args.out.now (sym c.has_room.ensures ∙ c.if-has_room.false)
