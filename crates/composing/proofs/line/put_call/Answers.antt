-- `composing::line::put_call` meets its contract. Assumes nothing.
use native.Mathlib.Omega.{arith}
use Rattle.reading.specs.declared.names.Vector.TheVariants.{Sludge, Digester}
use Rattle.reading.specs.Names.{names_of}
use Rattle.reading.specs.Text.{ascii, up_to}
use Rattle.writing.specs.Answer.{told_text}
use Rattle.writing.proofs.Laws.Page.{wrote_then, wrote_same}
use Rattle.composing.proofs.Laws.Buffer.{numbered-parts, call-as}
use Rattle.composing.proofs.line.put_call.Goals as goal

pub returns-in-Receive : goal.returns-in-Receive
unfolding up_to
returns-in-Receive c = call-as _ _ c.in-Receive.is (wrote_then c.put.ensures c.put_fields.ensures.text (omega arith), omega arith)

pub returns-in-Settle : goal.returns-in-Settle
unfolding up_to
returns-in-Settle c =
    let w = wrote_then c.labelled.ensures.0 c.put_fields-in-Settle.ensures.text (omega arith) in
    let text = numbered-parts (ascii "settle ") c.in-Settle.g.0 (names_of Digester) c.args.r.now.digester in
    call-as _ _ c.in-Settle.is (wrote_same text w, omega arith)

pub returns-in-Accept : goal.returns-in-Accept
unfolding up_to
returns-in-Accept c =
    let w = wrote_then c.labelled-in-Accept.ensures.0 c.put_fields-in-Accept.ensures.text (omega arith) in
    let text = numbered-parts (ascii "accept ") c.in-Accept.n.0 (names_of Sludge) c.args.r.now.sludge in
    call-as _ _ c.in-Accept.is (wrote_same text w, omega arith)

pub returns-in-Feed : goal.returns-in-Feed
unfolding told_text
returns-in-Feed c = call-as _ _ c.in-Feed.is (c.told.ensures.0, omega arith)

pub returns-in-Return : goal.returns-in-Return
unfolding told_text
returns-in-Return c = call-as _ _ c.in-Return.is (c.told-in-Return.ensures.0, omega arith)

pub returns-in-Release : goal.returns-in-Release
unfolding told_text
returns-in-Release c = call-as _ _ c.in-Release.is (c.told-in-Release.ensures.0, omega arith)

pub returns-in-Recycle : goal.returns-in-Recycle
unfolding told_text
returns-in-Recycle c = call-as _ _ c.in-Recycle.is (c.told-in-Recycle.ensures.0, omega arith)

pub returns-in-Draw : goal.returns-in-Draw
unfolding told_text
returns-in-Draw c = call-as _ _ c.in-Draw.is (c.told-in-Draw.ensures.0, omega arith)
