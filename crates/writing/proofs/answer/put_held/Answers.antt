-- `writing::answer::put_held` meets its contract. Assumes nothing.
use native.Mathlib.Omega.{arith}
use Rattle.writing.proofs.answer.put_held.Goals as goal

pub returns-in-Ok : goal.returns-in-Ok
returns-in-Ok c = rw c.in-Ok.is (c.told.ensures.0, omega arith)
