-- `closing::Proposal::gaps` meets its contract. Assumes nothing.
use mathlib.Core.Path.{◌≡◌}
use Prim.Native.Nat.{◌-◌}
use native.Mathlib.Omega.{arith}
use Rattle.vectors.specs.Columns.{tick_ceiling}
use Rattle.vectors.specs.Totals.{digester_cod, digester_tkn}
use Rattle.closing.specs.Closing.{gaps, gap_between, other_tkn, closing_sin}
use Rattle.closing.proofs.Proposal.gaps.Goals as goal

pub returns : goal.returns
unfolding gap_between
returns c =
    let a = c.args.self in
    let cod : c.less.result.0 ≡ digester_cod a.new - digester_cod a.old = omega arith in
    let tkn : c.less-2.result.0 ≡ other_tkn a.figures a.new - digester_tkn a.figures a.old = omega arith in
    let sin : c.less-4.result.0 ≡ closing_sin a.figures a.old a.new - tick_ceiling = omega arith in
    (λ i. gaps (cod i) (tkn i) (sin i))
