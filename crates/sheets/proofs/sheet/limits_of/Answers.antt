-- `sheets::sheet::limits_of` meets its contract. Assumes nothing.
use borrow.Author.Rules.{rules}
use Rattle.sheets.specs.declared.finding.Finding.TheVariants.{NotSampled}
use Rattle.sheets.specs.Value.{limit}
use Rattle.sheets.proofs.Laws.Mapped.{mapped}
use Rattle.sheets.proofs.sheet.limits_of.Goals as goal

pub returns : goal.returns
returns c = mapped _ limit NotSampled (λ p x y q k. search rules) c.map.ensures.items (search rules)
