-- `interface::feed::Drawn::convert` meets its contract. Assumes nothing.
use mathlib.Core.Path.{ap, ◌∙◌}
use Rattle.std.specs.Prelude.{Ok}
use Rattle.interface.proofs.Laws.Feed.{feed-short, feed-taken}
use Rattle.interface.proofs.Laws.Whole.{err-is}
use Rattle.interface.proofs.feed.Drawn.convert.Goals as goal

pub returns-in_err-inerts : goal.returns-in_err-inerts
returns-in_err-inerts c =
    let s = c.in_err-inerts.ensures in
    err-is c.from_residual.result c.from_residual.ensures.1 s.1 ∙ feed-short _ _ s.0

pub returns : goal.returns
returns c = ap Ok c.told.ensures ∙ feed-taken _ _ c.in_ok-inerts.ensures.0
