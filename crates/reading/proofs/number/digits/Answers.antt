-- `reading::number::digits` meets its contract. Assumes nothing.
use mathlib.Core.Path.{◌≡◌, sym, ◌∙◌}
use Prim.Native.Nat.{◌+◌, ◌-◌, ◌*◌}
use native.Mathlib.Omega.{arith}
use lib.ListN.{get_or}
use Rattle.reading.proofs.Laws.Number.{other-at, large-at, digit_at, digits-end}
use Rattle.reading.proofs.number.digits.Goals as goal

pub returns-then-not-is_ascii_digit : goal.returns-then-not-is_ascii_digit
returns-then-not-is_ascii_digit c =
    let l = c.loop-b in
    let e = sym c.is_ascii_digit.ensures.value ∙ c.if-not-is_ascii_digit.true in
    sym (other-at c.args.s.now l.n l.b-index c.loop-b-test.true e) ∙ l.invariant.1

pub returns-in_err-checked_mul : goal.returns-in_err-checked_mul
returns-in_err-checked_mul c =
    let l = c.loop-b in
    c.from_residual.ensures
    ∙ sym (large-at c.args.s.now l.n l.b-index c.loop-b-test.true (omega (arith, c.in_err-checked_mul.ensures)))
    ∙ l.invariant.1

pub returns-in_err-n : goal.returns-in_err-n
returns-in_err-n c =
    let l = c.loop-b in
    c.from_residual-in_err-n.ensures
    ∙ sym
    (large-at c.args.s.now l.n l.b-index c.loop-b-test.true (omega (arith, c.in_ok-checked_mul.ensures, c.in_err-n.ensures)))
    ∙ l.invariant.1

pub loop-b-preserved : goal.loop-b-preserved
loop-b-preserved c =
    let l = c.loop-b in
    let e = sym c.is_ascii_digit.ensures.value ∙ c.if-not-is_ascii_digit.false in
    let d = get_or c.args.s.now l.b-index 0 - 48 in
    let n : c.in_ok-n.n ≡ l.n * 10 + d = omega (arith, c.in_ok-checked_mul.ensures, c.in_ok-n.ensures) in
    (omega (arith, c.in_ok-n.ensures, n), sym (digit_at c.args.s.now l.n l.b-index c.loop-b-test.true c.in_ok-n.n n e) ∙ l.invariant.1)

pub returns : goal.returns
returns c = let l = c.loop-b in sym (digits-end c.args.s.now l.n l.b-index (omega arith) l.invariant.0) ∙ l.invariant.1
