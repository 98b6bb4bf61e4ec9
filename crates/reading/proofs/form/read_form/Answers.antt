-- `reading::form::read_form` meets its contract. Assumes nothing.
use mathlib.Core.Path.{sym, ap, ◌∙◌}
use Rattle.std.proofs.lemmas.List.{take_rest}
use Rattle.reading.specs.Form.{receive_line}
use Rattle.reading.proofs.Laws.Text.{same-is, behind-strip}
use Rattle.reading.proofs.Laws.Form.{form-receive, form-settle, form-accept, form-number}
use Rattle.reading.proofs.form.read_form.Goals as goal

pub returns-in_err-f : goal.returns-in_err-f
returns-in_err-f c =
    let t = c.args.t.now in
    c.from_residual.ensures
    ∙ ap receive_line (sym c.in_err-f.was ∙ c.read_fields.ensures)
    ∙ form-receive t c.place-k.result c.place-k.ensures.0 (same-is _ c.as_slice.ensures c.eq.ensures c.if-eq.true)

pub returns-then-eq : goal.returns-then-eq
returns-then-eq c =
    let t = c.args.t.now in
    c.sludge_line.ensures
    ∙ ap receive_line (sym c.in_ok-f.was ∙ c.read_fields.ensures)
    ∙ form-receive t c.place-k.result c.place-k.ensures.0 (same-is _ c.as_slice.ensures c.eq.ensures c.if-eq.true)

pub returns-in_err-gas : goal.returns-in_err-gas
returns-in_err-gas c =
    let t = c.args.t.now in
    let u = behind-strip 32 t _ _ _ _ c.place-k.ensures.0 c.unwrap_or-u.ensures (take_rest t _) c.strip_prefix.ensures.cases in
    c.from_residual-in_err-gas.ensures
    ∙ form-settle t c.place-k.result c.place-k.ensures.0 u (sym c.in_err-gas.was ∙ c.read_numbered.ensures)
    (same-is _ c.as_slice.ensures c.eq.ensures c.if-eq.false)
    (same-is _ c.as_slice-2.ensures c.eq-2.ensures c.if-eq-2.true)

pub returns-then-eq-2 : goal.returns-then-eq-2
returns-then-eq-2 c =
    let t = c.args.t.now in
    let u = behind-strip 32 t _ _ _ _ c.place-k.ensures.0 c.unwrap_or-u.ensures (take_rest t _) c.strip_prefix.ensures.cases in
    c.call_line.ensures
    ∙ form-settle t c.place-k.result c.place-k.ensures.0 u (sym c.in_ok-gas.was ∙ c.read_numbered.ensures)
    (same-is _ c.as_slice.ensures c.eq.ensures c.if-eq.false)
    (same-is _ c.as_slice-2.ensures c.eq-2.ensures c.if-eq-2.true)

pub returns-in_err-nitrite : goal.returns-in_err-nitrite
returns-in_err-nitrite c =
    let t = c.args.t.now in
    let u = behind-strip 32 t _ _ _ _ c.place-k.ensures.0 c.unwrap_or-u.ensures (take_rest t _) c.strip_prefix.ensures.cases in
    c.from_residual-in_err-nitrite.ensures
    ∙ form-accept t c.place-k.result c.place-k.ensures.0 u (sym c.in_err-nitrite.was ∙ c.read_numbered-then-eq-3.ensures)
    (same-is _ c.as_slice.ensures c.eq.ensures c.if-eq.false)
    (same-is _ c.as_slice-2.ensures c.eq-2.ensures c.if-eq-2.false)
    (same-is _ c.as_slice-3.ensures c.eq-3.ensures c.if-eq-3.true)

pub returns-then-eq-3 : goal.returns-then-eq-3
returns-then-eq-3 c =
    let t = c.args.t.now in
    let u = behind-strip 32 t _ _ _ _ c.place-k.ensures.0 c.unwrap_or-u.ensures (take_rest t _) c.strip_prefix.ensures.cases in
    c.sludge_line-then-eq-3.ensures
    ∙ form-accept t c.place-k.result c.place-k.ensures.0 u (sym c.in_ok-nitrite.was ∙ c.read_numbered-then-eq-3.ensures)
    (same-is _ c.as_slice.ensures c.eq.ensures c.if-eq.false)
    (same-is _ c.as_slice-2.ensures c.eq-2.ensures c.if-eq-2.false)
    (same-is _ c.as_slice-3.ensures c.eq-3.ensures c.if-eq-3.true)

pub returns-in_err-n : goal.returns-in_err-n
returns-in_err-n c =
    let t = c.args.t.now in
    let u = behind-strip 32 t _ _ _ _ c.place-k.ensures.0 c.unwrap_or-u.ensures (take_rest t _) c.strip_prefix.ensures.cases in
    c.from_residual-in_err-n.ensures
    ∙ form-number t c.place-k.result c.place-k.ensures.0 u (sym c.in_err-n.was ∙ c.read_number.ensures)
    (same-is _ c.as_slice.ensures c.eq.ensures c.if-eq.false)
    (same-is _ c.as_slice-2.ensures c.eq-2.ensures c.if-eq-2.false)
    (same-is _ c.as_slice-3.ensures c.eq-3.ensures c.if-eq-3.false)

pub returns : goal.returns
returns c =
    let t = c.args.t.now in
    let u = behind-strip 32 t _ _ _ _ c.place-k.ensures.0 c.unwrap_or-u.ensures (take_rest t _) c.strip_prefix.ensures.cases in
    c.call_of.ensures
    ∙ form-number t c.place-k.result c.place-k.ensures.0 u (sym c.in_ok-n.was ∙ c.read_number.ensures)
    (same-is _ c.as_slice.ensures c.eq.ensures c.if-eq.false)
    (same-is _ c.as_slice-2.ensures c.eq-2.ensures c.if-eq-2.false)
    (same-is _ c.as_slice-3.ensures c.eq-3.ensures c.if-eq-3.false)
