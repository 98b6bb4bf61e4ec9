-- `vectors::units::Rate::ticks_for` meets its contract. Assumes nothing.
use native.Mathlib.Nat.{mul-le-mul_right}
use native.Mathlib.Omega.{arith}
use Rattle.vectors.proofs.units.Rate.ticks_for.Goals as goal

pub overflow_mul-result : goal.overflow_mul-result
overflow_mul-result c = omega (arith, mul-le-mul_right c.args.x.0 c.args.self.ticks_low)
