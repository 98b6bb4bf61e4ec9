-- `sheets::sheet::read_sheet` meets its contract. Assumes nothing.
use mathlib.Core.Path.{◌≡◌, sym, ◌∙◌}
use Prim.Native.Nat.{◌<◌}
use native.Mathlib.Omega.{arith}
use borrow.Author.Rules.{rules}
use lib.ListN.{length, length-set}
use Rattle.std.proofs.lemmas.Result.{err_from_is_err_and}
use Rattle.sheets.specs.Sheet.{readings}
use Rattle.sheets.proofs.Laws.Sheet.{scale-at, readings-length, read-at, read-more, read-stop, read-end}
use Rattle.sheets.proofs.sheet.read_sheet.Goals as goal

pub loop-i-preserved : goal.loop-i-preserved
loop-i-preserved c =
    let s = c.args.sheet in
    let l = c.loop-i in
    let n : length s ≡ 13 = search rules in
    let h : l.i < 13 = search rules in
    let k : l.i < length (readings s) = omega (arith, readings-length s n) in
    let zs = c.scales-scales.ensures in
    let at = scale-at _ l.i _ h zs.counts zs.ceilings in
    record {
      long = simp length-set l.invariant.long;
      so_far = read-more (readings s) l.readings l.i l.invariant.so_far k c.read.result c.in_ok-readings.field-0 (omega arith)
          (read-at s n l.i c.read.result _ h at c.read.ensures ∙ c.in_ok-readings.was);
    }

pub returns-in_err-readings : goal.returns-in_err-readings
returns-in_err-readings c =
    let s = c.args.sheet in
    let l = c.loop-i in
    let n : length s ≡ 13 = search rules in
    let h : l.i < 13 = search rules in
    let k : l.i < length (readings s) = omega (arith, readings-length s n) in
    let zs = c.scales-scales.ensures in
    let at = scale-at _ l.i _ h zs.counts zs.ceilings in
    let p = err_from_is_err_and c.from_residual.result c.from_residual.ensures.1 in
    rw (p.1, p.2)
    (sym (read-stop (readings s) l.readings l.i l.invariant.so_far k c.read.result _
    (read-at s n l.i c.read.result _ h at c.read.ensures ∙ c.in_err-readings.was)))

pub returns : goal.returns
returns c =
    let i = c.loop-i.invariant in
    read-end (readings c.args.sheet) _ _ i.so_far (omega (arith, readings-length c.args.sheet (search rules))) (omega arith)
