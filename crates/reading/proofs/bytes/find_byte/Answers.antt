-- `reading::bytes::find_byte` meets its contract. Assumes nothing.
use native.Mathlib.Omega.{arith}
use Rattle.reading.proofs.Laws.Text.{up-end}
use Rattle.reading.proofs.bytes.find_byte.Goals as goal

pub returns-then-s-from-clause-first_place : goal.returns-then-s-from-clause-first_place
returns-then-s-from-clause-first_place c =
    let a = c.args in omega (arith, up-end a.b a.s.now a.from (omega (arith, c.if-s-from.true)))
