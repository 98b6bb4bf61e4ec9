-- `lengths::answer::digits` meets its contract. Assumes nothing.
use Rattle.lengths.proofs.Laws.Digits.{digits-one, digits-more}
use Rattle.lengths.proofs.answer.digits.Goals as goal

pub returns-in-Some-clause-exact : goal.returns-in-Some-clause-exact
returns-in-Some-clause-exact c =
    let k = c.in-Some in
    digits-more c.args.n k.k c.ranges.n.fits k.ensures.power_le k.ensures.next_power_gt

pub returns-in-None-clause-exact : goal.returns-in-None-clause-exact
returns-in-None-clause-exact c = digits-one c.args.n c.in-None.ensures.none
