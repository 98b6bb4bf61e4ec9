-- `reading::line::read_line` meets its contract. Assumes nothing.
use mathlib.Core.Bool.{Bool, cond, false≢true}
use mathlib.Core.List.{List}
use mathlib.Core.Path.{◌≡◌, sym, ap, ◌∙◌}
use Prim.Native.Nat.{ℕ}
use native.Mathlib.Omega.{arith}
use Rattle.std.proofs.Common.{Bor}
use Rattle.reading.specs.Form.{read_fields}
use Rattle.reading.specs.Line.{call_by, preview_line, form_in}
use Rattle.reading.proofs.Laws.Line.{preview-ten, line-preview, line-call, line-none}
use Rattle.reading.proofs.line.read_line.Goals as goal
use Rattle.reading.proofs.line.read_line.Goals.{then-preview, else-preview}

pub overflow_sub-call : goal.overflow_sub-call
overflow_sub-call c = omega (arith, preview-ten _ (sym c.is_preview-preview.ensures ∙ c.if-preview.true))

pub slice_bounds-call-count : goal.slice_bounds-call-count
slice_bounds-call-count c = omega (arith, preview-ten _ (sym c.is_preview-preview.ensures ∙ c.if-preview.true))

pub slice_bounds-call-start : goal.slice_bounds-call-start
slice_bounds-call-start c = omega (arith, preview-ten _ (sym c.is_preview-preview.ensures ∙ c.if-preview.true))

pub returns-in_err-asked : goal.returns-in_err-asked
returns-in_err-asked c =
    let s = c.args.s.now in
    let part : c.if-preview.call.now ≡ cond c.is_preview-preview.result (form_in s) s = elim c.if-preview.branch [
      | then-preview w ↦ ap (λ (r : Bor (List ℕ)). r.now) w.call-is ∙ ap (λ (b : Bool). cond b (form_in s) s) (sym w.if-preview.true)
      | else-preview w ↦ ap (λ (r : Bor (List ℕ)). r.now) w.call-is ∙ ap (λ (b : Bool). cond b (form_in s) s) (sym w.if-preview.false)
    ] in
    c.from_residual.ensures
    ∙ line-none s _ (sym c.is_preview-preview.ensures) (sym c.in_err-asked.was ∙ c.read_call.ensures ∙ ap (call_by read_fields) part)

pub returns-then-preview-2 : goal.returns-then-preview-2
returns-then-preview-2 c =
    let s = c.args.s.now in
    let part : c.if-preview.call.now ≡ form_in s = elim c.if-preview.branch [
      | then-preview w ↦ ap (λ (r : Bor (List ℕ)). r.now) w.call-is
      | else-preview w ↦ absurd (false≢true (sym w.if-preview.false ∙ c.if-preview-2.true))
    ] in
    c.preview_line.ensures
    ∙ ap preview_line (sym c.in_ok-asked.was ∙ c.read_call.ensures ∙ ap (call_by read_fields) part)
    ∙ line-preview s (sym c.is_preview-preview.ensures ∙ c.if-preview-2.true)

pub returns : goal.returns
returns c =
    let s = c.args.s.now in
    let part : c.if-preview.call.now ≡ s = elim c.if-preview.branch [
      | then-preview w ↦ absurd (false≢true (sym c.if-preview-2.false ∙ w.if-preview.true))
      | else-preview w ↦ ap (λ (r : Bor (List ℕ)). r.now) w.call-is
    ] in
    sym c.in_ok-asked.was
    ∙ c.read_call.ensures
    ∙ ap (call_by read_fields) part
    ∙ line-call s (sym c.is_preview-preview.ensures ∙ c.if-preview-2.false)
