-- `reading::names::is_name` meets its contract. Assumes nothing.
use mathlib.Core.Path.{ap, ◌∙◌}
use Rattle.reading.specs.Text.{same_bytes}
use Rattle.reading.proofs.Laws.Text.{same-pointwise, up_to-place}
use Rattle.reading.proofs.Laws.Names.{unpadded-other}
use Rattle.reading.proofs.names.is_name.Goals as goal

pub returns-then-name-s : goal.returns-then-name-s
returns-then-name-s c = unpadded-other _ _ c.if-s-gt1.true c.if-name-s.true

pub returns : goal.returns
returns c =
    c.eq.ensures ∙ same-pointwise _ _ ∙ ap (same_bytes c.args.s.now) (up_to-place 32 _ c.place-k.result c.place-k.ensures.0)
