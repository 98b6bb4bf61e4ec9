-- `vectors::units::nitrogen` meets its contract. Assumes nothing.
use mathlib.Core.Path.{refl}
use native.Mathlib.Nat.{mul-le-mul_right}
use native.Mathlib.Omega.{arith}
use Rattle.vectors.proofs.units.nitrogen.Goals as goal

pub overflow_mul-result : goal.overflow_mul-result
overflow_mul-result c = omega (arith, mul-le-mul_right c.args.x.0 c.requires.0)

pub returns : goal.returns
returns c = (refl, mul-le-mul_right c.args.x.0 c.requires.0)
