-- `reading::bytes::place` meets its contract. Assumes nothing.
use mathlib.Core.Path.{◌∙◌}
use native.Mathlib.Omega.{arith}
use Rattle.reading.proofs.Laws.Text.{up-first, up_to-length}
use Rattle.reading.proofs.bytes.place.Goals as goal

pub returns : goal.returns
returns c =
    let a = c.args in
    let e = c.unwrap_or.ensures ∙ up-first a.b a.s.now c.memchr.result c.memchr.ensures in
    (e, omega (arith, e, up_to-length a.b a.s.now))
