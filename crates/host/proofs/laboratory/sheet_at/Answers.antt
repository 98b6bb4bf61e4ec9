-- `host::laboratory::sheet_at` meets its contract. Assumes nothing.
use mathlib.Core.Path.{◌∙◌}
use Rattle.vectors.proofs.Laws.Columns.{filled_none, filled_more, filled-all}
use Rattle.sheets.specs.declared.finding.Finding.TheVariants.{NotSampled}
use Rattle.host.proofs.Laws.Sheet.{sheet-length, sheet-column}
use borrow.Author.Rules.{rules}
use Rattle.host.proofs.laboratory.sheet_at.Goals as goal

pub loop-i-init : goal.loop-i-init
loop-i-init c = filled_none _ _ (sheet-length 13 0 c.args.kinds.now c.args.values.now)

pub loop-i-preserved : goal.loop-i-preserved
loop-i-preserved c =
    let l = c.loop-i in
    let a = c.args in
    let here = sheet-column l.i a.kinds.now a.values.now NotSampled (search rules) in
    filled_more NotSampled _ l.invariant (search rules) (c.finding_of.ensures ∙ here)

pub returns : goal.returns
returns c = filled-all c.loop-i.invariant (search rules)
