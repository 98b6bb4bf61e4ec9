-- `lines::blocks::Place::answer_last` meets its contract. Assumes nothing.
use native.Mathlib.Omega.{arith}
use Rattle.lines.proofs.Laws.Blocks.{last_none, last_some}
use Rattle.lines.proofs.blocks.Place.answer_last.Goals as goal

pub returns-then-self-eq0-clause-answer_gathered : goal.returns-then-self-eq0-clause-answer_gathered
returns-then-self-eq0-clause-answer_gathered c =
    let a = c.args in
    last_none a.self.now.plant a.line.now a.out.now a.self.now.at a.self.now.held (omega arith)

pub returns-clause-answer_gathered : goal.returns-clause-answer_gathered
returns-clause-answer_gathered c =
    let a = c.args in
    let g = c.answer in
    last_some a.self.now.plant a.line.now a.out.now a.self.now.at a.self.now.held g.new.self.plant (λ z. omega arith) c.requires.0
    g.ensures.answer_gathered
