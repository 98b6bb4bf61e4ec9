-- The hand-worked plants: each row of specs/Plants.antt holds by computation. Assumes nothing.
use mathlib.Core.Path.{refl}
use Rattle.interface.specs.Feed.{stage1, stage2, stage3, stage4, stage5, feed_asm1}
use Rattle.interface.specs.Return.{taken, return_short, return_digester}
use Rattle.interface.specs.Plants.{PlantsHold}

pub plants-hold : PlantsHold
unfolding stage1 stage2 stage3 stage4 stage5 feed_asm1 taken return_short return_digester
plants-hold = (refl, (refl, (refl, (refl, (refl, (refl, (refl, (refl, (refl, (refl, (refl, (refl, (refl, (refl, (refl, (refl, (refl, tt)))))))))))))))))
