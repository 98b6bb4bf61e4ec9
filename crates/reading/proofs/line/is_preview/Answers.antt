-- `reading::line::is_preview` meets its contract. Assumes nothing.
use mathlib.Core.Path.{sym, ◌∙◌}
use Rattle.reading.proofs.Laws.Text.{same-swapped}
use Rattle.reading.proofs.Laws.Line.{preview-word, preview-brackets}
use Rattle.reading.proofs.line.is_preview.Goals as goal

pub returns-then-starts_with : goal.returns-then-starts_with
returns-then-starts_with c =
    c.is_bracketed.ensures ∙ preview-brackets _ (sym (same-swapped _ _) ∙ sym c.starts_with.ensures.value ∙ c.if-starts_with.true)

pub returns-else-starts_with : goal.returns-else-starts_with
returns-else-starts_with c =
    c.if-starts_with.false ∙ preview-word _ (sym (same-swapped _ _) ∙ sym c.starts_with.ensures.value ∙ c.if-starts_with.false)
