-- `lengths::input::answer_bytes` meets its contract. Assumes nothing.
use mathlib.Core.List.{List, []}
use mathlib.Core.Logic.{inl, inr}
use mathlib.Core.Path.{◌≡◌, sym, ap, ap₂, ◌∙◌}
use Prim.Native.Nat.{ℕ, suc, ◌+◌, ◌-◌}
use native.Mathlib.Omega.{arith}
use lib.ListN.{length, take, drop}
use Rattle.std.specs.Prelude.{Result, ◌⊎◌}
use Rattle.refusals.specs.declared.Refusal.{Refusal}
use Rattle.holding.specs.declared.holding.HeldTotals.{HeldTotals}
use Rattle.holding.specs.Held.{held_of}
use Rattle.writing.specs.Answer.{held_text}
use Rattle.lines.specs.Asking.{form_outcome}
use Rattle.lines.specs.Session.{cut_lines, given_by, answers, after_lines, transcript}
use Rattle.lengths.specs.Lengths.{counted}
use Rattle.lengths.proofs.Laws.Cut.{cut-here, cut-end, others-next, plant-next, bytes-next, none-left, all-left, transcript-length}
use Rattle.lengths.proofs.input.answer_bytes.Goals.{then-loop-counted-test+else-from-input, else-loop-counted-test}
use Rattle.lengths.proofs.input.answer_bytes.Goals as goal

pub loop-counted-preserved : goal.loop-counted-preserved
unfolding given_by
loop-counted-preserved c =
    let l = c.loop-counted in
    let i = l.invariant in
    let s = c.args.input.now in
    let e = c.find_byte-end.result in
    let line = take (e - l.from) (drop l.from s) in
    let o : c.form_outcome-o.result ≡ given_by l.p line = c.form_outcome-o.ensures ∙ ap (form_outcome l.p) c.read_line.ensures in
    let first = cut-here s l.from e c.if-from-input.true c.find_byte-end.ensures.first_place in
    let one : 1000 - l.counted ≡ suc (1000 - (l.counted + 1)) = omega (arith, c.loop-counted-test.true) in
    record {
      few = omega (arith, c.loop-counted-test.true);
      low = omega (arith, i.low, c.answer_length.ensures.at_most);
      bytes = omega (arith, i.bytes, bytes-next l.p line o one first, c.answer_length.ensures.exact);
      plant = plant-next l.p line o one first ∙ i.plant;
      others = others-next l.p line o one first ∙ i.others;
    }

pub returns : goal.returns
unfolding answers after_lines
returns c =
    let l = c.loop-counted in
    let i = l.invariant in
    let s = c.args.input.now in
    let n = 1000 - l.counted in
    let end : (cut_lines (drop l.from s) ≡ []) ⊎ (n ≡ 0) =
    elim c.loop-counted-test.branch [
      | then-loop-counted-test+else-from-input w ↦ inl (cut-end s l.from w.if-from-input.false)
      | else-loop-counted-test w ↦ inr (omega (arith, w.loop-counted-test.false))
    ] in
    let none = none-left n end in
    let after : l.p ≡ after_lines c.args.plant (counted s) = sym (ap (after_lines l.p) none) ∙ i.plant in
    let held : c.held.result ≡ held_of (after_lines c.args.plant (counted s)) = c.held.ensures ∙ ap held_of after in
    let bytes : l.bytes + c.held_length.result + 1 ≡ length (transcript c.args.plant (counted s)) =
    omega (
      arith,
      i.bytes,
      ap (λ (ls : List (List ℕ)). length (answers l.p ls)) none,
      c.held_length.ensures.exact,
      ap (λ (h : Result HeldTotals Refusal). length (held_text h)) held,
      transcript-length c.args.plant (counted s),
    ) in
    let others = c.lines_from.ensures ∙ ap (λ (ls : List (List ℕ)). length ls) (sym (all-left n end) ∙ i.others) in
    ap₂ (λ (b u : ℕ). record { bytes = b; uncounted = u }) bytes others
