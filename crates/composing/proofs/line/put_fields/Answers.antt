-- `composing::line::put_fields` meets its contract. Assumes nothing.
use native.Mathlib.Omega.{arith}
use Rattle.writing.proofs.Laws.Page.{wrote_then}
use Rattle.composing.proofs.line.put_fields.Goals as goal

pub returns : goal.returns
returns g c = record { text = wrote_then c.columns.ensures.0 c.put.ensures (omega arith); bound = omega arith }
