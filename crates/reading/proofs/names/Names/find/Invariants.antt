-- Loops of `names::Names::find`.
use mathlib.Core.Path.{◌≡◌}
use lib.ListN.{drop}
use Rattle.reading.specs.Names.{column_from, column_of, from_column, unpadded_all}
use Rattle.reading.proofs.names.Names.find.Given as goal

abbrev pub invariant-loop-c : goal.invariant-loop-c
invariant-loop-c l =
    column_from l.c (drop l.c (unpadded_all l.self.table.now)) l.s ≡ from_column l.from (column_of (unpadded_all l.self.table.now) l.s)
