-- `lengths::answer::columns_length` meets its contract. Assumes nothing.
use mathlib.Core.List.{[]}
use mathlib.Core.Path.{◌≡◌, ◌∙◌}
use native.Mathlib.Nat.{zero-add}
use native.Mathlib.Omega.{arith}
use lib.ListN.{length, get_or}
use Rattle.reading.specs.declared.names.Vector.TheVariants.{Sludge}
use Rattle.reading.specs.Names.{names_of}
use Rattle.lengths.proofs.Laws.Answer.{name-length, columns-next, columns-end}
use Rattle.lengths.proofs.answer.columns_length.Goals as goal

pub loop-c-init : goal.loop-c-init
loop-c-init c = record { low = omega arith; so_far = omega arith }

pub loop-c-preserved : goal.loop-c-preserved
loop-c-preserved c =
    let l = c.loop-c in
    let name : c.find_byte.result ≡ length (get_or (names_of Sludge) l.c [])
    = c.find_byte.ensures.first_place ∙ zero-add _ ∙ name-length l.c c.loop-c-test.true in
    let next = columns-next (names_of Sludge) c.args.v l.c c.loop-c-test.true in
    record {
      low = omega (arith, l.invariant.low, c.find_byte.ensures.in_bounds, c.digits.ensures.at_most);
      so_far = omega (arith, l.invariant.so_far, next, name, c.digits.ensures.exact);
    }

pub returns-clause-exact : goal.returns-clause-exact
returns-clause-exact c =
    let l = c.loop-c in
    omega (arith, l.invariant.so_far, columns-end (names_of Sludge) c.args.v l.c c.loop-c-test.false)
