-- `reading::line::read_call` meets its contract. Assumes nothing.
use mathlib.Core.Path.{sym, ◌∙◌}
use Rattle.reading.proofs.Laws.Line.{brackets-short, call_none, call-form}
use Rattle.reading.proofs.line.read_call.Goals as goal

pub returns-in-len2-up : goal.returns-in-len2-up
returns-in-len2-up c =
    c.read_form.ensures ∙ call-form _ (sym c.is_bracketed.ensures ∙ c.if-is_bracketed.true)

pub returns-in_default : goal.returns-in_default
returns-in_default c =
    call_none _ (sym (brackets-short _ c.in_default.len_below))

pub returns-in_default-2 : goal.returns-in_default-2
returns-in_default-2 c =
    call_none _ (sym c.is_bracketed.ensures ∙ c.if-is_bracketed.false)
