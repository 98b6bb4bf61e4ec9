-- `interface::feed::Drawn::demand` meets its contract. Assumes nothing.
use Rattle.columns.specs.Counts.{asm1_counts}
use Rattle.interface.specs.Feed.{nitrate_rule}
use Rattle.interface.proofs.Laws.Feed.{stage1-is, stage1-covered-is, stage1-short-is}
use mathlib.Core.Path.{◌≡◌}
use Prim.Native.Nat.{min}
use native.Mathlib.Omega.{arith}
use borrow.Author.Rules.{rules}
use Rattle.interface.proofs.feed.Drawn.demand.Goals as goal

pub returns-then-is_covered : goal.returns-then-is_covered
returns-then-is_covered c =
    let v = asm1_counts c.args.self.vector in
    let o : c.min-o.result.0 ≡ min c.args.self.vector.so.0 c.plus-a.result.0 = search rules in
    let p =
    stage1-is nitrate_rule v c.plus.ensures.0 c.plus-2.ensures.0 c.plus-a.ensures.0
    o c.less-x.ensures.0 in
    let q =
    stage1-covered-is nitrate_rule v (omega arith) p.1 p.2 c.is_covered.ensures c.if-is_covered.true
    c.nitrate_cod.ensures.0 c.plus-then-is_covered.ensures.0 in
    record { o = p.1; r = q.0; D = q.1 }

pub returns : goal.returns
returns c =
    let v = asm1_counts c.args.self.vector in
    let o : c.min-o.result.0 ≡ min c.args.self.vector.so.0 c.plus-a.result.0 = search rules in
    let p =
    stage1-is nitrate_rule v c.plus.ensures.0 c.plus-2.ensures.0 c.plus-a.ensures.0
    o c.less-x.ensures.0 in
    let q =
    stage1-short-is nitrate_rule v (omega arith) (omega arith) p.0 p.2 c.is_covered.ensures
    c.if-is_covered.false c.reducible-r.ensures in
    let e = c.short_demand.ensures in
    rw (e.0, e.1.0, e.1.1) (record { o = p.1; r = q.0; D = q.1 })
