-- `writing::page::Page::labelled` meets its contract. Assumes nothing.
use native.Mathlib.Omega.{arith}
use Rattle.writing.proofs.Laws.Page.{wrote_then}
use Rattle.writing.proofs.page.Page.labelled.Goals as goal

pub returns : goal.returns
returns c = (wrote_then c.put.ensures c.number.ensures.0 (omega arith), omega arith)
