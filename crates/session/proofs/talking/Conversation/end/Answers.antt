-- `session::talking::Conversation::end` meets its contract. Assumes nothing.
use Rattle.std.proofs.Common.{rules, ap, ◌∙◌, ◌≡◌, subst, take, length}
use Rattle.std.proofs.lemmas.Result.{on_ok_weaker}
use Rattle.std.specs.Io.KnownBytes.{Appends}
use Rattle.lines.specs.Session.{said}
use Rattle.lines.specs.Blocks.{Desk, desk}
use Rattle.lines.proofs.Laws.Run.{end-said}
use Rattle.session.proofs.Whole.{desk_carried, end_fits}
use Rattle.session.proofs.talking.Conversation.end.Goals as goal

pub returns : goal.returns
returns g c =
    let s = c.args.self.now in
    let line : length s.line ≡ 1025 = search rules in
    let out : length s.out ≡ 65536 = search rules in
    on_ok_weaker c.write_answers.result
    (λ written held.
    let left = ap (λ (x : Desk). take x.place.at x.out) c.end_session-self.ensures.desk_after
    ∙ end-said (desk s.place s.line s.out) (end_fits s.place s.line s.out held line c.requires out)
    ∙ ap said (desk_carried s.place s.line s.out c.requires) in
    subst (Appends _ _) left written)
    c.write_answers.ensures.written
