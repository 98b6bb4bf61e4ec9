-- `lines::claims::laws_hold` meets its contract. Assumes nothing.
use Rattle.lines.proofs.Laws.Session.{one-cut, printed-whole}
use Rattle.lines.proofs.Laws.Carry.{written-whole}
use Rattle.lines.proofs.Laws.Run.{desks}
use Rattle.lines.proofs.Laws.Preview.{preview-given}
use Rattle.lines.proofs.Laws.File.{file}
use Rattle.lines.proofs.claims.laws_hold.Goals as goal

pub returns-clause-one_line : goal.returns-clause-one_line
returns-clause-one_line c = one-cut

pub returns-clause-printed : goal.returns-clause-printed
returns-clause-printed c = printed-whole

pub returns-clause-written : goal.returns-clause-written
returns-clause-written c = written-whole

pub returns-clause-desk : goal.returns-clause-desk
returns-clause-desk c = desks

pub returns-clause-previews : goal.returns-clause-previews
returns-clause-previews c = preview-given

pub returns-clause-file : goal.returns-clause-file
returns-clause-file c = file
