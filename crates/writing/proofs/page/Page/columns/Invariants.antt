-- Loops of `page::Page::columns`.
use Prim.Native.Nat.{◌+◌, ◌*◌, ◌≤◌}
use lib.ListN.{take}
use Rattle.writing.specs.Answer.{columns_text}
use Rattle.reading.specs.Names.{unpadded_all}
use Rattle.writing.specs.Page.{Wrote}
use Rattle.writing.proofs.page.Page.columns.Given as goal

abbrev pub invariant-loop-c : goal.invariant-loop-c
invariant-loop-c g l =
    (l.self.at ≤ l.initial.self.at + 28 * l.c) × Wrote l.initial.self (columns_text l.zeros (take l.c (unpadded_all l.names)) l.v) l.self
