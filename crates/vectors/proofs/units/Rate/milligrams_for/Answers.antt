-- `vectors::units::Rate::milligrams_for` meets its contract. Assumes nothing.
use native.Mathlib.Nat.{mul-le-mul_right}
use native.Mathlib.Omega.{arith}
use Rattle.vectors.proofs.units.Rate.milligrams_for.Goals as goal

pub overflow_mul-result : goal.overflow_mul-result
overflow_mul-result c = omega (arith, mul-le-mul_right c.args.n.0 c.requires.1.0)

pub overflow_add-result : goal.overflow_add-result
overflow_add-result c = omega (arith, mul-le-mul_right c.args.n.0 c.requires.1.0)
