-- Loops of `fields::fields_in`.
use mathlib.Core.Path.{◌≡◌}
use Prim.Native.Nat.{◌≤◌}
use lib.ListN.{length, drop}
use Rattle.memchr.specs.Find.{is_byte, places_between}
use Rattle.reading.specs.Text.{pieces}
use Rattle.reading.specs.Names.{unpadded_all}
use Rattle.reading.specs.Form.{read_fields}
use Rattle.reading.proofs.Laws.Form.{left}
use Rattle.reading.proofs.fields.fields_in.Given as goal

abbrev pub invariant-loop-e : goal.invariant-loop-e
invariant-loop-e l =
    let names = unpadded_all l.names.table.now in
    (l.i ≤ length l.s)
    × (l.e-iterator ≡ places_between (is_byte 41) l.s l.i (length l.s))
    × (left names l.next l.f (pieces 41 (drop l.i l.s)) ≡ read_fields names l.s)
