-- `interface::returning::Nitrogen::without` meets its contract. Assumes nothing.
use mathlib.Core.Path.{refl}
use Rattle.interface.specs.Return.{taken}
use Rattle.vectors.proofs.Laws.Units.{minus}
use Rattle.interface.proofs.returning.Nitrogen.without.Goals as goal

pub returns : goal.returns
unfolding taken
returns c =
    let behind = c.less-behind_xnd.ensures.0 in
    let snd = minus c.less-2.ensures.0 refl behind in
    let snh = minus c.less-4.ensures.0 refl (minus c.less-3.ensures.0 behind refl) in
    λ i. record { xnd = c.less.ensures.0 i; snd = snd i; snh = snh i }
