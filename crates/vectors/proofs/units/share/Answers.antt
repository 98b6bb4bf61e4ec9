-- `vectors::units::share` meets its contract. Assumes nothing.
use mathlib.Core.Path.{refl}
use native.Mathlib.Nat.{mul-le-mul_right}
use native.Mathlib.Omega.{arith}
use Rattle.vectors.proofs.Laws.Units.{share-le}
use Rattle.vectors.proofs.units.share.Goals as goal

pub overflow_mul-result : goal.overflow_mul-result
overflow_mul-result c = omega (arith, mul-le-mul_right c.args.x.0 c.requires.1.0)

pub returns : goal.returns
returns c = (refl, share-le c.args.a c.args.b c.args.x.0 c.requires.0.1)
