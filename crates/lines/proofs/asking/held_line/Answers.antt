-- `lines::asking::held_line` meets its contract. Assumes nothing.
use mathlib.Core.Path.{◌≡◌}
use native.Mathlib.Omega.{arith}
use Rattle.std.proofs.Common.{rules}
use Rattle.std.specs.Result.{result_err}
use Rattle.lines.proofs.Laws.Asking.{held-short, held-full}
use Rattle.lines.proofs.asking.held_line.Goals as goal

pub returns-then-buf-ge512 : goal.returns-then-buf-ge512
returns-then-buf-ge512 c =
    let e : c.err.result ≡ result_err c.held-totals.result = search rules in
    rw e (held-full (omega arith) c.held-totals.ensures c.write_held-length.ensures)

pub returns : goal.returns
returns c = held-short (omega arith) c.held-totals.ensures c.write_held-length.ensures
