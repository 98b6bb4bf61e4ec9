-- `lines::asking::answer_line` meets its contract. Assumes nothing.
use native.Mathlib.Omega.{arith}
use Rattle.lines.proofs.Laws.Asking.{line-short, line-full}
use Rattle.lines.proofs.asking.answer_line.Goals as goal

pub returns-then-buf-lt512 : goal.returns-then-buf-lt512
returns-then-buf-lt512 c = line-short (omega arith) c.refusal.ensures

pub returns : goal.returns
returns c = line-full (omega arith) c.read_line.ensures c.form_outcome-outcome.ensures c.write_answer-length.ensures
