-- `sheets::value::shifted_down` meets its contract. Assumes nothing.
use mathlib.Core.Path.{◌∙◌}
use borrow.Author.Rules.{rules}
use Rattle.sheets.proofs.Laws.Value.{shr-or}
use Rattle.sheets.proofs.value.shifted_down.Goals as goal

pub returns : goal.returns
returns c = c.unwrap_or.ensures ∙ shr-or _ _ _ c.checked_shr.ensures (search rules)
