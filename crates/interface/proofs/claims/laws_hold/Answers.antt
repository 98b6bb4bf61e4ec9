-- `interface::claims::laws_hold` meets its contract. Assumes nothing.
use Rattle.interface.proofs.Laws.Feed.{burnt-law, covered-law, short-law, feed-keeps, inerts-decide, as-before}
use Rattle.interface.proofs.Laws.Return.{return-keeps}
use Rattle.interface.proofs.Laws.Plants.{plants-hold}
use Rattle.interface.proofs.claims.laws_hold.Goals as goal

pub returns-clause-burnt : goal.returns-clause-burnt
returns-clause-burnt c = burnt-law

pub returns-clause-covered : goal.returns-clause-covered
returns-clause-covered c = covered-law

pub returns-clause-short : goal.returns-clause-short
returns-clause-short c = short-law

pub returns-clause-inerts : goal.returns-clause-inerts
returns-clause-inerts c = inerts-decide

pub returns-clause-before : goal.returns-clause-before
returns-clause-before c = as-before

pub returns-clause-feed : goal.returns-clause-feed
returns-clause-feed c = feed-keeps

pub returns-clause-back : goal.returns-clause-back
returns-clause-back c = return-keeps

pub returns-clause-plants : goal.returns-clause-plants
returns-clause-plants c = plants-hold
