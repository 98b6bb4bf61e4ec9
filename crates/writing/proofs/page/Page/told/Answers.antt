-- `writing::page::Page::told` meets its contract. Assumes nothing.
use native.Mathlib.Omega.{arith}
use Rattle.writing.proofs.Laws.Page.{wrote-nothing, told-room, told-then, told-all}
use Rattle.writing.proofs.page.Page.told.Goals as goal

pub loop-part-init : goal.loop-part-init
loop-part-init c = (omega arith, wrote-nothing c.args.self.now)

pub labelled-requires : goal.labelled-requires
labelled-requires c = told-room c.loop-part.part-index c.args.parts.now _ c.loop-part.self c.requires.1 (omega arith) (omega arith)

pub loop-part-preserved : goal.loop-part-preserved
loop-part-preserved c =
    told-then c.loop-part.part-index c.args.parts.now _ c.requires.1 (omega arith) (omega arith) c.loop-part.invariant c.labelled.ensures

pub returns : goal.returns
returns c =
    let l = c.loop-part in
    (told-all l.part-index c.args.parts.now (omega arith) l.invariant.1 c.put.ensures (omega arith), omega arith)
