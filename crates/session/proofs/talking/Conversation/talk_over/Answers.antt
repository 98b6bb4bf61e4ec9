-- `session::talking::Conversation::talk_over` meets its contract: block by block, and at the end of the input. Assumes nothing.
use Rattle.std.proofs.Common.{arith, List, [], ◌++◌, ℕ, take, refl, ap, ◌∙◌, sym, subst, append-nil}
use Rattle.std.proofs.lemmas.Result.{on_ok_weaker}
use Rattle.std.specs.Io.KnownBytes.{Appends}
use Rattle.std.proofs.KnownBytes.{Appends-nil, Appends-trans, Consumes-nil, Consumes-trans, Consumes-whole}
use Rattle.lines.specs.declared.blocks.Place.{Place}
use Rattle.lines.specs.Session.{start, printed}
use Rattle.lines.specs.Blocks.{carried}
use Rattle.session.proofs.Whole.{begun_printed, begun_carried, all_printed, run_after, printed_after}
use Rattle.session.proofs.talking.Conversation.talk_over.Goals as goal

pub loop-init : goal.loop-init
loop-init g c =
    let line = c.args.self.now.line in
    let plant = c.args.self.now.place.plant in
    let nothing = subst (Appends _ _) (sym (begun_printed plant)) (Appends-nil _) in
    let begun = ap (λ (p : Place). carried p line) c.requires ∙ begun_carried plant plant line refl in
    let held = ap (λ (p : Place). p.held) c.requires in
    (omega (arith, held), ap (λ (p : Place). p.at) c.requires, refl, ([], Consumes-nil _, nothing, begun))

pub returns-then-n-eq0 : goal.returns-then-n-eq0
returns-then-n-eq0 g c = record {
  all_printed =
      let s = c.loop.self in
      let (held, at, input, (xs, consumed, written, so_far)) = c.loop.invariant in
      let (read, end) = c.in_ok-n.ensures.bytes in
      let last = take c.in_ok-n.n c.read_some.new.input in
      let nothing = ap (λ (n : ℕ). xs ++ take n c.read_some.new.input) c.if-n-eq0.true ∙ append-nil xs in
      let Said = λ (ys : List ℕ). Appends (g.O.Write.contents c.args.self.now.to) (g.O.Write.contents c.end.new.self.to)
      (printed c.args.self.now.place.plant ys) in
      on_ok_weaker c.end.result
      (λ said some.
      let in_all = Appends-trans _ _ _ _ _ written (said held) in
      let whole = subst (Appends _ _) (all_printed c.args.self.now.place.plant (carried s.place s.line) xs so_far) in_all in
      Consumes-whole _ _ (xs ++ last) Said
      (Consumes-trans _ _ _ _ _ consumed read)
      (end c.if-n-eq0.true (omega (arith, some, input, c.read_some.auto.input)))
      (subst Said (sym nothing) whole))
      c.end.ensures;
}

pub loop-preserved : goal.loop-preserved
loop-preserved g c =
    let line = c.loop.self.line in
    let (held, at, input, (xs, consumed, written, so_far)) = c.loop.invariant in
    let a = c.in_ok-answer_all.ensures in
    let st = start c.args.self.now.place.plant in
    let block = take c.in_ok-n.n c.read_some.new.input in
    let now = carried c.next_block-self.result line in
    let same = ap (λ (p : Place). carried p line) c.next_block-self.ensures ∙ so_far in
    let more = Appends-trans _ _ _ _ _ written a.written in (
      a.place_ready.0,
      a.place_ready.1,
      omega (arith, input, c.read_some.auto.input),
      (
        xs ++ block,
        Consumes-trans _ _ _ _ _ consumed c.in_ok-n.ensures.bytes.0,
        subst (Appends _ _) (printed_after st now xs block same) more,
        a.carries_run ∙ run_after st now xs block same,
      ),
    )
