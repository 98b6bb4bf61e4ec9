-- `interface::feed::Drawn::remains` meets its contract. Assumes nothing.
use Rattle.columns.specs.Counts.{asm1_counts}
use Rattle.interface.proofs.Laws.Feed.{stage5-is}
use Rattle.interface.proofs.feed.Drawn.remains.Goals as goal

pub returns : goal.returns
returns c =
    let left = c.requires.0 in
    let inerts = c.requires.1 in
    let p =
    stage5-is c.args.self.figures (asm1_counts c.args.self.vector) _ _ left.xs left.xbh left.xba inerts.xi inerts.P' inerts.H'
    c.plus.ensures.0 c.plus-2.ensures.0 c.plus-3.ensures.0 c.plus-particulate.ensures.0
    c.less-all.ensures.0 c.afforded-xc.ensures.0 c.less-rest.ensures.0 c.share-xch.ensures.0
    c.less.ensures.0 c.plus-4.ensures.0 c.nitrogen.ensures.0 c.less-2.ensures.0 in
    record { xc = p.0; xch = p.1; xli = p.2; sin = p.3 }
