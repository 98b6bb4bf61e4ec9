-- `plant::settling::closes` meets its contract. Assumes nothing.
use mathlib.Core.Path.{◌≡◌, ◌∙◌}
use lib.Dec.{eqb}
use Prim.Native.Nat.{◌+◌}
use Rattle.plant.proofs.Laws.Decision.{stop-first, pass-first, last-is}
use borrow.Author.Rules.{rules}
use Rattle.plant.proofs.settling.closes.Goals as goal

pub returns-in_err-unless : goal.returns-in_err-unless
returns-in_err-unless c =
    let cod = c.cod_closes.ensures ∙ (λ i. eqb (c.cod-cod.ensures.0 i) (c.cod.ensures.0 i + c.args.gas.0)) in
    stop-first _ _ _ _ cod c.in_err-unless.ensures.sent c.from_residual.ensures.1

pub returns-in_err-unless-2 : goal.returns-in_err-unless-2
returns-in_err-unless-2 c =
    let cod = c.cod_closes.ensures ∙ (λ i. eqb (c.cod-cod.ensures.0 i) (c.cod.ensures.0 i + c.args.gas.0)) in
    let equal : c.eq.result ≡ eqb c.tkn-tkn.result.0 c.tkn-proposed.result.0 = search rules in
    let tkn = equal ∙ (λ i. eqb (c.tkn-tkn.ensures.0 i) (c.tkn-proposed.ensures.0 i)) in
    pass-first _ _ _ _ cod c.in_ok-unless.ensures.passed
    (stop-first _ _ _ _ tkn c.in_err-unless-2.ensures.sent c.from_residual-in_err-unless-2.ensures.1)

pub returns : goal.returns
returns c =
    let cod = c.cod_closes.ensures ∙ (λ i. eqb (c.cod-cod.ensures.0 i) (c.cod.ensures.0 i + c.args.gas.0)) in
    let equal : c.eq.result ≡ eqb c.tkn-tkn.result.0 c.tkn-proposed.result.0 = search rules in
    let tkn = equal ∙ (λ i. eqb (c.tkn-tkn.ensures.0 i) (c.tkn-proposed.ensures.0 i)) in
    let carried = c.unless-3.ensures in
    pass-first _ _ _ _ cod c.in_ok-unless.ensures.passed
    (pass-first _ _ _ _ tkn c.in_ok-unless-2.ensures.passed
    (last-is _ _ _ c.carried_same.ensures carried.passed carried.sent))
