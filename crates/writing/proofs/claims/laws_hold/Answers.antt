-- `writing::claims::laws_hold` meets its contract. Assumes nothing.
use Rattle.writing.proofs.Laws.OneLine.{one-answer, one-held}
use Rattle.writing.proofs.Laws.Named.{named}
use Rattle.writing.proofs.Laws.ReadBack.{answer-read, columns-read, answer-same}
use Rattle.writing.proofs.claims.laws_hold.Goals as goal

pub returns-clause-answer_line : goal.returns-clause-answer_line
returns-clause-answer_line c = one-answer

pub returns-clause-held_line : goal.returns-clause-held_line
returns-clause-held_line c = one-held

pub returns-clause-named : goal.returns-clause-named
returns-clause-named c = named

pub returns-clause-read_back : goal.returns-clause-read_back
returns-clause-read_back c = answer-read

pub returns-clause-columns : goal.returns-clause-columns
returns-clause-columns c = columns-read

pub returns-clause-same_text : goal.returns-clause-same_text
returns-clause-same_text c = answer-same
