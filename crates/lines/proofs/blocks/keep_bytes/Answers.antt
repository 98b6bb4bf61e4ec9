-- `lines::blocks::keep_bytes` meets its contract. Assumes nothing.
use mathlib.Core.Path.{ap, ◌∙◌}
use Prim.Native.Nat.{ℕ, ◌-◌}
use native.Mathlib.Omega.{arith}
use lib.ListN.{length-take, take}
use Rattle.std.proofs.lemmas.List.{take_min}
use Rattle.writing.proofs.Laws.Buffer.{put_same, put-room}
use Rattle.lines.proofs.blocks.keep_bytes.Goals as goal

pub returns : goal.returns
returns c =
    let a = c.args in
    put_same (ap (λ (n : ℕ). take n a.s.now) c.min-n.ensures ∙ take_min (1025 - a.held) a.s.now)
    (put-room _ _ (omega (arith, length-take c.min-n.result a.s.now)) c.put_fitting.ensures)
