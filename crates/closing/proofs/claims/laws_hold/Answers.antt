-- `closing::claims::laws_hold` meets its contract. Assumes nothing.
use Rattle.closing.proofs.Laws.Closing.{close-law, none-law, only-law, gap-law}
use Rattle.closing.proofs.claims.laws_hold.Goals as goal

pub returns-clause-close : goal.returns-clause-close
returns-clause-close c = close-law

pub returns-clause-none : goal.returns-clause-none
returns-clause-none c = none-law

pub returns-clause-only : goal.returns-clause-only
returns-clause-only c = only-law

pub returns-clause-gap : goal.returns-clause-gap
returns-clause-gap c = gap-law
