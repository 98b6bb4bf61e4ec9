-- `sheets::claims::laws_hold` meets its contract. Assumes nothing.
use Rattle.sheets.proofs.Laws.Sheet.{counts-within, sheet-tests, sheet-refused, sheet-adds}
use Rattle.sheets.proofs.Laws.Examples.{examples-hold}
use Rattle.sheets.proofs.claims.laws_hold.Goals as goal

pub returns-clause-within : goal.returns-clause-within
returns-clause-within c = counts-within

pub returns-clause-tests : goal.returns-clause-tests
returns-clause-tests c = sheet-tests

pub returns-clause-refused : goal.returns-clause-refused
returns-clause-refused c = sheet-refused

pub returns-clause-adds : goal.returns-clause-adds
returns-clause-adds c = sheet-adds

pub returns-clause-examples : goal.returns-clause-examples
returns-clause-examples c = examples-hold
