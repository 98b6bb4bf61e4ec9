-- `interface::feed::Drawn::inerts` meets its contract. Assumes nothing.
use Rattle.columns.specs.Counts.{asm1_counts}
use Rattle.interface.proofs.Laws.Feed.{stage4-is, stage4-short-is, stage4-left-is, pool-low, ceil-none}
use mathlib.Core.Path.{◌≡◌, refl, sym, ap, ◌∙◌}
use Prim.Native.Nat.{ℕ, ◌*◌, ◌≤◌}
use lib.Dec.{ltb}
use borrow.Author.Tests.{ltb-false}
use native.Mathlib.Omega.{arith}
use borrow.Author.Rules.{rules}
use Rattle.interface.proofs.feed.Drawn.inerts.Goals as goal

pub returns-then-lt : goal.returns-then-lt
returns-then-lt c =
    let v = asm1_counts c.args.self.vector in
    let f = c.args.self.figures in
    let under : c.lt.result ≡ ltb c.args.acids.saa.0 c.giving-g.result.0 = search rules in
    let p =
    stage4-is f v _ _ c.requires.pool.0 c.plus.ensures.0 c.share-xi.ensures.0 c.plus-2.ensures.0 c.nitrogen-q.ensures.0
    c.plus-3.ensures.0 c.less-m.ensures.0 c.giving-g.ensures in
    (stage4-short-is f v _ _ c.requires.acids.saa p.3 under c.if-lt.true, refl)

pub returns : goal.returns
returns c =
    let v = asm1_counts c.args.self.vector in
    let f = c.args.self.figures in
    let acids = c.requires.acids in
    let pool = c.requires.pool in
    let under : c.lt.result ≡ ltb c.args.acids.saa.0 c.giving-g.result.0 = search rules in
    let p =
    stage4-is f v _ _ pool.0 c.plus.ensures.0 c.share-xi.ensures.0 c.plus-2.ensures.0 c.nitrogen-q.ensures.0
    c.plus-3.ensures.0 c.less-m.ensures.0 c.giving-g.ensures in
    let l =
    stage4-left-is f v _ _ acids.saa acids.ssu pool.0 p.1 p.2 p.3 c.less.ensures.0 c.plus-4.ensures.0 c.nitrogen.ensures.0
    c.less-over.ensures.0 c.less-2.ensures.0 c.plus-5.ensures.0 c.less-3.ensures.0 c.less-4.ensures.0 in
    let held : c.giving-g.result.0 ≤ c.args.acids.saa.0
    = ltb-false c.args.acids.saa.0 c.giving-g.result.0 (sym under ∙ c.if-lt.false) in
    let nothing : c.less-m.result.0 ≡ 0 → c.nitrogen.result.0 ≡ 0
    = λ e. c.nitrogen.ensures.0 ∙ ap (λ (g : ℕ). f.naa * g) c.giving-g.ensures ∙ ceil-none c.less-m.result.0 f.naa e in
    let low =
    pool-low c.args.pool.0 v.snh c.nitrogen-q.result.0 c.nitrogen.result.0 pool.1
    (omega (arith, held, acids.saa_le, c.nitrogen.ensures.1))
    (λ e. nothing (omega (arith, e, c.less-m.ensures.0, c.plus-3.ensures.0))) in (
      stage4-short-is f v _ _ acids.saa p.3 under c.if-lt.false,
      record {
        xi = p.0;
        saa = l.0;
        ssu = l.1;
        P' = l.2;
        H' = l.3;
        xi_le = omega (arith, c.share-xi.ensures.1, c.plus.ensures.0);
        P'-le = omega (arith, low, c.less-2.ensures.0, c.less-over.ensures.0, c.plus-5.ensures.0, c.less-m.ensures.0, c.plus-3.ensures.0);
        H'-le = omega (arith, c.args.self.low, c.less-4.ensures.1);
      },
    )
