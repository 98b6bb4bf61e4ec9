-- `balances::claims::laws_hold` meets its contract. Assumes nothing.
use Rattle.balances.proofs.Laws.Balance.{balance, figures-stay, recycle-holds, recycle-moves, previews-skipped}
use Rattle.balances.proofs.Laws.Balance.{sheets-as-calls, blends-as-calls}
use Rattle.balances.proofs.claims.laws_hold.Goals as goal

pub returns-clause-balances : goal.returns-clause-balances
returns-clause-balances c = balance

pub returns-clause-figures : goal.returns-clause-figures
returns-clause-figures c = figures-stay

pub returns-clause-recycles : goal.returns-clause-recycles
returns-clause-recycles c = recycle-holds

pub returns-clause-previews : goal.returns-clause-previews
returns-clause-previews c = previews-skipped

pub returns-clause-sheets : goal.returns-clause-sheets
returns-clause-sheets c = sheets-as-calls

pub returns-clause-moves : goal.returns-clause-moves
returns-clause-moves c = recycle-moves

pub returns-clause-blends : goal.returns-clause-blends
returns-clause-blends c = blends-as-calls
