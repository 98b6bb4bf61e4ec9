-- Loop of `answer::columns_length`: n is the length of what is written without the columns from c on.
use mathlib.Core.Bool.{true}
use mathlib.Core.Path.{◌≡◌}
use Prim.Native.Nat.{◌+◌, ◌*◌, ◌≤◌}
use lib.ListN.{length, drop}
use Rattle.reading.specs.Names.{names_of}
use Rattle.reading.specs.declared.names.Vector.TheVariants.{Sludge}
use Rattle.writing.specs.Answer.{columns_from, columns_text}
use Rattle.lengths.proofs.answer.columns_length.Given as goal

abbrev pub invariant-loop-c : goal.invariant-loop-c
invariant-loop-c l = record {
  low : l.n ≤ 28 * l.c;
  so_far : l.n + length (columns_from true l.c (drop l.c (names_of Sludge)) l.v) ≡ length (columns_text true (names_of Sludge) l.v);
}
