-- `interface::returning::Digested::convert` meets its contract. Assumes nothing.
use mathlib.Core.Path.{◌≡◌, ap, ◌∙◌}
use lib.Dec.{ltb}
use borrow.Author.Rules.{rules}
use Rattle.std.specs.Prelude.{Ok}
use Rattle.interface.proofs.Laws.Return.{short-is, return-short, return-taken}
use Rattle.interface.proofs.returning.Digested.convert.Goals as goal

pub returns-then-lt : goal.returns-then-lt
returns-then-lt c =
    let two = c.plus.ensures.0 in
    let under : c.lt.result ≡ ltb c.plus-2.result.0 c.nitrogen-q.result.0 = search rules in
    let short = short-is _ _ two c.plus-2.ensures.0 under c.if-lt.true in
    return-short _ _ c.nitrogen_held-n.ensures.0 c.nitrogen-q.ensures.0 short

pub returns : goal.returns
returns c =
    let two = c.plus.ensures.0 in
    let under : c.lt.result ≡ ltb c.plus-2.result.0 c.nitrogen-q.result.0 = search rules in
    let covered = short-is _ _ two c.plus-2.ensures.0 under c.if-lt.false in
    ap Ok c.told.ensures ∙ return-taken _ _ c.nitrogen_held-n.ensures.0 c.nitrogen-q.ensures.0 covered
