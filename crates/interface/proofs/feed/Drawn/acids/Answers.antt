-- `interface::feed::Drawn::acids` meets its contract. Assumes nothing.
use Rattle.columns.specs.Counts.{asm1_counts}
use Rattle.interface.proofs.Laws.Feed.{stage2-is}
use native.Mathlib.Omega.{arith}
use Rattle.interface.proofs.feed.Drawn.acids.Goals as goal

pub returns : goal.returns
returns c =
    let held = c.requires in
    let p = stage2-is c.args.self.figures (asm1_counts c.args.self.vector) _ held.ss c.afforded-saa.ensures.0 c.less.ensures.0 in
    record {
      saa = p.0;
      ssu = p.1;
      saa_le = omega (arith, held.ss_le, c.afforded-saa.ensures.1.0);
      ssu_le = omega (arith, held.ss_le, c.less.ensures.1);
    }
