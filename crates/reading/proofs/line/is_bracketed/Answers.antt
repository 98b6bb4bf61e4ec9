-- `reading::line::is_bracketed` meets its contract. Assumes nothing.
use mathlib.Core.Path.{◌∙◌}
use native.Mathlib.Omega.{arith}
use borrow.Author.Tests.{lt-leb}
use Rattle.reading.proofs.Laws.Line.{brackets-short, brackets-long, brackets-open, brackets-close, brackets-both}
use Rattle.reading.proofs.line.is_bracketed.Goals as goal

pub returns-in-40 : goal.returns-in-40
returns-in-40 c = brackets-both _ c.in-40.len_at_least (omega arith) (omega arith) (omega arith)

pub returns-in_default : goal.returns-in_default
returns-in_default c = brackets-short _ c.in_default.len_below

pub returns-in_default-2 : goal.returns-in_default-2
returns-in_default-2 c = brackets-close _ (omega arith)

pub returns-in_default-3 : goal.returns-in_default-3
returns-in_default-3 c = brackets-open _ (omega arith)

pub returns-else-s-le1024 : goal.returns-else-s-le1024
returns-else-s-le1024 c = lt-leb _ 1024 (omega arith) ∙ brackets-long _ (omega arith)
