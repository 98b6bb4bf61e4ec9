-- Loops of `page::Page::told`.
use Prim.Native.Nat.{◌+◌, ◌*◌, ◌≤◌}
use lib.ListN.{take}
use Rattle.writing.specs.Page.{Wrote, parts_of}
use Rattle.writing.proofs.Laws.Page.{labels}
use Rattle.writing.proofs.page.Page.told.Given as goal

abbrev pub invariant-loop-part : goal.invariant-loop-part
invariant-loop-part l =
    (l.self.at ≤ l.initial.self.at + 40 * l.part-index) × Wrote l.initial.self (labels (take l.part-index (parts_of l.parts))) l.self
