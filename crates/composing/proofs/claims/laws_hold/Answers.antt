-- `composing::claims::laws_hold` meets its contract. Assumes nothing.
use Rattle.composing.proofs.Laws.Line.{entry-read, entry-gives, entry-no-zero, entry-length, entry-one}
use Rattle.composing.proofs.Laws.Only.{entry-only}
use Rattle.composing.proofs.Laws.Examples.{examples-hold}
use Rattle.composing.proofs.claims.laws_hold.Goals as goal

pub returns-clause-read : goal.returns-clause-read
returns-clause-read c = entry-read

pub returns-clause-gives : goal.returns-clause-gives
returns-clause-gives c = entry-gives

pub returns-clause-only : goal.returns-clause-only
returns-clause-only c = entry-only

pub returns-clause-no_zero : goal.returns-clause-no_zero
returns-clause-no_zero c = entry-no-zero

pub returns-clause-length : goal.returns-clause-length
returns-clause-length c = entry-length

pub returns-clause-one_line : goal.returns-clause-one_line
returns-clause-one_line c = entry-one

pub returns-clause-examples : goal.returns-clause-examples
returns-clause-examples c = examples-hold
