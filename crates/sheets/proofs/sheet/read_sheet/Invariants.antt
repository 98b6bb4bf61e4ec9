-- Loops of `sheet::read_sheet`.
use mathlib.Core.List.{map}
use mathlib.Core.Path.{◌≡◌}
use lib.ListN.{length, take}
use Rattle.std.specs.Prelude.{Ok}
use Rattle.sheets.specs.Sheet.{readings}
use Rattle.sheets.proofs.sheet.read_sheet.Given as goal

abbrev pub invariant-loop-i : goal.invariant-loop-i
invariant-loop-i l = record { long : length l.readings ≡ 13; so_far : take l.i (readings l.sheet) ≡ map Ok (take l.i l.readings) }
