-- `reading::fields::fields_in` meets its contract. Assumes nothing.
use mathlib.Core.Bool.{false}
use mathlib.Core.Path.{sym, ◌∙◌}
use native.Mathlib.Omega.{arith}
use Rattle.std.proofs.Common.{Some, None}
use Rattle.reading.specs.Names.{unpadded_all}
use Rattle.reading.proofs.Laws.Text.{places-first, places-end}
use Rattle.reading.proofs.Laws.Form.{add_none, add-again, add-first, left-unclosed, left-next, left_end}
use Rattle.reading.proofs.fields.fields_in.Goals as goal

pub slice_bounds-read_piece-count : goal.slice_bounds-read_piece-count
slice_bounds-read_piece-count c =
    let l = c.loop-e in
    let at = places-first 41 c.args.s.now _ l.i c.in-Some.e _ (omega arith) (sym l.invariant.1 ∙ c.in-Some.ensures.steps) in
    omega (arith, at.0, at.1)

pub slice_bounds-read_piece-start : goal.slice_bounds-read_piece-start
slice_bounds-read_piece-start c =
    let l = c.loop-e in
    let at = places-first 41 c.args.s.now _ l.i c.in-Some.e _ (omega arith) (sym l.invariant.1 ∙ c.in-Some.ensures.steps) in
    omega (arith, at.0, at.1)

pub slice_bounds-read_piece-end : goal.slice_bounds-read_piece-end
slice_bounds-read_piece-end c =
    let l = c.loop-e in
    let at = places-first 41 c.args.s.now _ l.i c.in-Some.e _ (omega arith) (sym l.invariant.1 ∙ c.in-Some.ensures.steps) in
    omega (arith, at.0, at.1)

pub returns-in_err-x : goal.returns-in_err-x
returns-in_err-x c =
    let l = c.loop-e in
    let at = places-first 41 c.args.s.now _ l.i c.in-Some.e _ (omega arith) (sym l.invariant.1 ∙ c.in-Some.ensures.steps) in
    c.from_residual.ensures
    ∙ sym (left-next (unpadded_all c.args.names.table.now) l.next l.f c.args.s.now l.i c.in-Some.e at.0 at.1
    None (sym c.in_err-x.was ∙ c.read_piece.ensures) None (sym (add_none l.f None (omega arith))))
    ∙ l.invariant.2

pub returns-in_err-get : goal.returns-in_err-get
returns-in_err-get c =
    let x = c.in_ok-x.x in
    let l = c.loop-e in
    let at = places-first 41 c.args.s.now _ l.i c.in-Some.e _ (omega arith) (sym l.invariant.1 ∙ c.in-Some.ensures.steps) in
    c.from_residual-in_err-get.ensures
    ∙ sym (left-next (unpadded_all c.args.names.table.now) l.next l.f c.args.s.now l.i c.in-Some.e at.0 at.1
    (Some x) (sym c.in_ok-x.was ∙ c.read_piece.ensures) None (sym (add_none l.f (Some x) (omega (arith, c.in_err-get.ensures.lookup)))))
    ∙ l.invariant.2

pub returns-then-branch : goal.returns-then-branch
returns-then-branch c =
    let x = c.in_ok-x.x in
    let seen = c.in_ok-get.ensures.lookup.3 in
    let l = c.loop-e in
    let at = places-first 41 c.args.s.now _ l.i c.in-Some.e _ (omega arith) (sym l.invariant.1 ∙ c.in-Some.ensures.steps) in
    sym (left-next (unpadded_all c.args.names.table.now) l.next l.f c.args.s.now l.i c.in-Some.e at.0 at.1
    (Some x) (sym c.in_ok-x.was ∙ c.read_piece.ensures) None (sym (add-again l.f (Some x) (sym (seen.1 false) ∙ c.if-branch.true))))
    ∙ l.invariant.2

pub loop-e-preserved : goal.loop-e-preserved
loop-e-preserved c =
    let l = c.loop-e in
    let x = c.in_ok-x.x in
    let seen = c.in_ok-get.ensures.lookup.3 in
    let at = places-first 41 c.args.s.now _ l.i c.in-Some.e _ (omega arith) (sym l.invariant.1 ∙ c.in-Some.ensures.steps) in (
      omega (arith, at.1),
      at.2,
      sym (left-next (unpadded_all c.args.names.table.now) l.next l.f c.args.s.now l.i c.in-Some.e at.0 at.1
          (Some x) (sym c.in_ok-x.was ∙ c.read_piece.ensures) _ (sym (add-first l.f (Some x) (omega (arith, seen.0))
          (sym (seen.1 false) ∙ c.if-branch.false))))
          ∙ l.invariant.2,
    )

pub returns-then-i-s : goal.returns-then-i-s
returns-then-i-s c =
    let l = c.loop-e in
    let end = places-end 41 c.args.s.now _ l.i (omega arith) (sym l.invariant.1 ∙ c.in-None.ensures.steps.0) in
    sym (left-unclosed (unpadded_all c.args.names.table.now) l.next l.f c.args.s.now l.i (omega arith) end) ∙ l.invariant.2

pub returns : goal.returns
returns c =
    let l = c.loop-e in
    sym (left_end (unpadded_all c.args.names.table.now) l.next l.f c.args.s.now l.i (omega arith)) ∙ l.invariant.2
