-- `closing::close` meets its contract. Assumes nothing.
use mathlib.Core.Path.{◌≡◌, sym, ap, ◌∙◌}
use lib.Dec.{eqb}
use Rattle.std.specs.Prelude.{Ok, Err}
use Rattle.std.proofs.lemmas.Result.{err_from_is_err_and}
use Rattle.vectors.specs.Columns.{digester_ceilings}
use Rattle.vectors.proofs.Laws.Columns.{within-below}
use Rattle.plant.proofs.Laws.Decision.{stop, pass}
use Rattle.plant.proofs.Laws.Record.{usable-permitted, usable-within, digester-within}
use Rattle.closing.proofs.Laws.Closing.{gap-passed, close_as}
use borrow.Author.Rules.{rules}
use Rattle.closing.proofs.close.Goals as goal

pub returns-in_err-gaps : goal.returns-in_err-gaps
returns-in_err-gaps c =
    let p = err_from_is_err_and c.from_residual.result c.from_residual.ensures.1 in
    rw (p.1, p.2) (close_as c.args.plant c.args.d (Err _) c.in_err-gaps.ensures)

pub returns-in_err-unless : goal.returns-in_err-unless
returns-in_err-unless c =
    let no_sin : c.eq.result ≡ eqb c.in_ok-gaps.gaps.sin.0 0 = search rules in
    stop _ _ _ _ no_sin c.in_err-unless.ensures.sent c.from_residual-in_err-unless.ensures.1
    ∙ close_as c.args.plant c.args.d (Ok c.in_ok-gaps.gaps) c.in_ok-gaps.ensures

pub returns-in_err-unless-2 : goal.returns-in_err-unless-2
returns-in_err-unless-2 c =
    let no_sin : c.eq.result ≡ eqb c.in_ok-gaps.gaps.sin.0 0 = search rules in
    let no_cod : c.eq-2.result ≡ eqb c.in_ok-gaps.gaps.cod.0 0 = search rules in
    pass _ _ _ _ no_sin c.in_ok-unless.ensures.passed
    (stop _ _ _ _ no_cod c.in_err-unless-2.ensures.sent c.from_residual-in_err-unless-2.ensures.1)
    ∙ close_as c.args.plant c.args.d (Ok c.in_ok-gaps.gaps) c.in_ok-gaps.ensures

pub returns-in_err-unless-3 : goal.returns-in_err-unless-3
returns-in_err-unless-3 c =
    let no_sin : c.eq.result ≡ eqb c.in_ok-gaps.gaps.sin.0 0 = search rules in
    let no_cod : c.eq-2.result ≡ eqb c.in_ok-gaps.gaps.cod.0 0 = search rules in
    let no_tkn : c.eq-3.result ≡ eqb c.in_ok-gaps.gaps.tkn.0 0 = search rules in
    pass _ _ _ _ no_sin c.in_ok-unless.ensures.passed
    (pass _ _ _ _ no_cod c.in_ok-unless-2.ensures.passed
    (stop _ _ _ _ no_tkn c.in_err-unless-3.ensures.sent c.from_residual-in_err-unless-3.ensures.1))
    ∙ close_as c.args.plant c.args.d (Ok c.in_ok-gaps.gaps) c.in_ok-gaps.ensures

pub invariant_of-proposal : goal.invariant_of-proposal
invariant_of-proposal c =
    let passed = gap-passed c.args.plant c.args.d _ (sym c.in_ok-gaps.ensures) in
    record {
      permitted = usable-permitted _ passed.0;
      old_low = within-below digester_ceilings _ (digester-within _ (usable-within _ passed.0));
      new_low = within-below digester_ceilings _ passed.1;
    }

pub returns : goal.returns
returns c =
    let no_sin : c.eq.result ≡ eqb c.in_ok-gaps.gaps.sin.0 0 = search rules in
    let no_cod : c.eq-2.result ≡ eqb c.in_ok-gaps.gaps.cod.0 0 = search rules in
    let no_tkn : c.eq-3.result ≡ eqb c.in_ok-gaps.gaps.tkn.0 0 = search rules in
    pass _ _ _ _ no_sin c.in_ok-unless.ensures.passed
    (pass _ _ _ _ no_cod c.in_ok-unless-2.ensures.passed
    (pass _ _ _ _ no_tkn c.in_ok-unless-3.ensures.passed
    (ap (λ x. Ok x) c.closing.ensures)))
    ∙ close_as c.args.plant c.args.d (Ok c.in_ok-gaps.gaps) c.in_ok-gaps.ensures
