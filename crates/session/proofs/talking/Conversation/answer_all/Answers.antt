-- `session::talking::Conversation::answer_all` meets its contract, by the laws of crates/lines. Assumes nothing.
use Rattle.std.proofs.Common.{rules, arith, length, take, ◌≡◌, ◌<◌, ap, sym, subst, ◌∙◌}
use Rattle.std.specs.Io.KnownBytes.{Appends}
use Rattle.std.proofs.KnownBytes.{Appends-nil, Appends-trans}
use Rattle.lines.specs.declared.blocks.Place.{Place}
use Rattle.lines.specs.Session.{run}
use Rattle.lines.specs.Blocks.{Desk, desk, state_of, carried}
use Rattle.lines.proofs.Laws.Blocks.{ready_of}
use Rattle.lines.proofs.Laws.Run.{block_more, block_held}
use Rattle.lines.proofs.Laws.Carry.{block-carried, carried_none, carried-written}
use Rattle.session.proofs.Whole.{none_printed, block_printed}
use Rattle.session.proofs.talking.Conversation.answer_all.Goals as goal

pub loop-self-init : goal.loop-self-init
loop-self-init g c =
    let s = c.args.self.now in
    let block = c.args.block.now in
    let (used, held, at) = c.requires in
    let st = state_of (desk s.place s.line s.out) in
    let nothing = none_printed block st s.place.used used in
    (held, at, carried_none block st s.place.used used, subst (Appends _ _) (sym nothing) (Appends-nil _))

pub loop-self-smaller : goal.loop-self-smaller
loop-self-smaller g c =
    let l = c.loop-self.self in
    let (held, at, _, _) = c.loop-self.invariant in
    let line : length l.line ≡ 1025 = search rules in
    let out : length l.out ≡ 65536 = search rules in
    let k = desk l.place l.line l.out in
    let block = c.args.block.now in
    let below : l.place.used < length block = search rules in
    let more = block_more block k (ready_of block k below held line (omega (arith, at, out))) in
    let used = ap (λ (x : Desk). x.place.used) c.answer_block-self.ensures.desk_after in
    omega (arith, more, used, ap (λ (x : Place). x.used) c.in_ok-write_answers.ensures.place, below)

pub loop-self-preserved : goal.loop-self-preserved
loop-self-preserved g c =
    let l = c.loop-self.self in
    let (held, at, run_so_far, written) = c.loop-self.invariant in
    let block = c.args.block.now in
    let k = desk l.place l.line l.out in
    let b = c.answer_block-self in
    let w = c.in_ok-write_answers.ensures in
    let q = c.write_answers.new.self.place in
    let st = carried c.args.self.now.place c.args.self.now.line in
    let m = desk b.result b.new.line b.new.out in
    let kept = block_held block k held in
    let same = ap (λ (x : Desk). x.place.held) b.ensures.desk_after in
    let run_on = block-carried block st k m b.ensures.desk_after run_so_far in
    let behind = carried-written block st b.new.line b.result q w.place run_on in
    let used = ap (λ (x : Place). (run st (take x.used block)).printed) w.place in
    let more = used ∙ block_printed block st k m b.ensures.desk_after at run_so_far in
    let appended = subst (Appends _ _) (sym more) (Appends-trans _ _ _ _ _ written w.written) in (
      omega (arith, kept, same, ap (λ (x : Place). x.held) w.place),
      ap (λ (x : Place). x.at) w.place,
      ap (λ x. carried q x) w.line_kept ∙ behind,
      appended,
    )
