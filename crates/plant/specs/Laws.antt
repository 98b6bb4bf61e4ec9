-- The law of the code's ==, which a host may use: proofs/Laws proves it.
--
--   SameLaw   records that == holds of are the same, in every column and figure
use Rattle.std.specs.Prelude.{true, ◌≡◌}
use Rattle.plant.specs.declared.record.Plant.{Plant}
use Rattle.plant.specs.contracts.record.PlantPartialEq.TheImpl as plant_eq

abbrev pub SameLaw : Type 0
SameLaw = (p q : Plant) → plant_eq.ghosts.eq p q ≡ true → p ≡ q
