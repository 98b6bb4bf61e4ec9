-- `interface::feed::Drawn::pool` meets its contract. Assumes nothing.
use Rattle.columns.specs.Counts.{asm1_counts}
use Rattle.interface.proofs.Laws.Feed.{stage3-is}
use native.Mathlib.Omega.{arith}
use Rattle.interface.proofs.feed.Drawn.pool.Goals as goal

pub returns : goal.returns
returns c =
    let two = c.plus-3.ensures.0 in
    let three = c.plus-4.ensures.0 in
    let all = c.plus-5.ensures.0 in (
      stage3-is c.args.self.figures (asm1_counts c.args.self.vector) _ c.requires.saa
          c.nitrogen.ensures.0 c.less-soluble.ensures.0
          c.plus.ensures.0 c.nitrogen-biomass.ensures.0
          c.plus-2.ensures.0 c.nitrogen-inert.ensures.0 two three all,
      omega arith,
    )
