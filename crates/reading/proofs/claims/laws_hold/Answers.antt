-- `reading::claims::laws_hold` meets its contract. Assumes nothing.
use Rattle.reading.proofs.Laws.Names.{tables}
use Rattle.reading.proofs.Laws.Line.{order-law, preview-form-law}
use Rattle.reading.proofs.Laws.Examples.{examples-hold}
use Rattle.reading.proofs.claims.laws_hold.Goals as goal

pub returns-clause-tables : goal.returns-clause-tables
returns-clause-tables c = tables

pub returns-clause-order : goal.returns-clause-order
returns-clause-order c = order-law

pub returns-clause-previews : goal.returns-clause-previews
returns-clause-previews c = preview-form-law

pub returns-clause-examples : goal.returns-clause-examples
returns-clause-examples c = examples-hold
