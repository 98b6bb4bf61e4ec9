-- `interface::feed::Drawn::left` meets its contract. Assumes nothing.
use mathlib.Core.Path.{refl}
use Rattle.vectors.proofs.Laws.Units.{minus}
use Rattle.interface.proofs.Laws.Feed.{warn-is}
use native.Mathlib.Omega.{arith}
use Rattle.interface.specs.Feed.{stage1}
use Rattle.interface.proofs.feed.Drawn.left.Goals as goal

pub returns : goal.returns
unfolding stage1
returns c =
    let held = c.requires in
    let behind-ss = minus c.less-behind_ss.ensures.0 held.D refl in
    let behind-xs = minus c.less-behind_xs.ensures.0 behind-ss refl in
    let co = minus c.less-co.ensures.0 refl held.o in
    let cn = minus c.less-cn.ensures.0 refl held.r in
    record {
      ss = minus c.less.ensures.0 refl held.D;
      xs = minus c.less-2.ensures.0 refl behind-ss;
      xbh = minus c.less-3.ensures.0 refl behind-xs;
      xba = minus c.less-4.ensures.0 refl (minus c.less-behind_xbh.ensures.0 behind-xs refl);
      co = co;
      cn = cn;
      warn = warn-is c.warn_of.ensures co cn;
      ss_le = omega (arith, c.less.ensures.1);
      xs_le = omega (arith, c.less-2.ensures.1);
      xbh_le = omega (arith, c.less-3.ensures.1);
      xba_le = omega (arith, c.less-4.ensures.1);
    }
