-- The laws of refusals, which a host may use: proofs/Laws proves them.
--
--   SameLaw     refusals that == holds of are the same
--   NumberLaw   the number of a refusal of the table determines it
use Rattle.std.specs.Prelude.{true, ◌≡◌}
use Rattle.refusals.specs.declared.Refusal.{Refusal}
use Rattle.refusals.specs.Refusal.{number, of_number, in_table}
use Rattle.refusals.specs.contracts.RefusalPartialEq.TheImpl as refusal_eq

abbrev pub SameLaw : Type 0
SameLaw = (r s : Refusal) → refusal_eq.ghosts.eq r s ≡ true → r ≡ s

abbrev pub NumberLaw : Type 0
NumberLaw = (r : Refusal) → in_table r ≡ true → of_number (number r) ≡ r
