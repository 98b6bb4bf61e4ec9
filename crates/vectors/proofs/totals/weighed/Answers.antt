-- `vectors::totals::weighed` meets its contract. Assumes nothing.
use native.Mathlib.Omega.{arith}
use borrow.Author.Rules.{rules}
use Rattle.vectors.proofs.Laws.Totals.{weigh-step, weigh-end}
use Rattle.vectors.proofs.totals.weighed.Goals as goal

pub overflow_mul-sum : goal.overflow_mul-sum
overflow_mul-sum g c = omega (arith, weigh-step c.args.weights c.args.v c.loop-i.i (search rules))

pub overflow_add-sum : goal.overflow_add-sum
overflow_add-sum g c = omega (arith, weigh-step c.args.weights c.args.v c.loop-i.i (search rules))

pub loop-i-preserved : goal.loop-i-preserved
loop-i-preserved g c = omega (arith, weigh-step c.args.weights c.args.v c.loop-i.i (search rules))

pub returns : goal.returns
returns g c = omega (arith, weigh-end c.args.weights c.args.v c.loop-i.i c.loop-i.i (search rules))
