-- `session::channel::write_all` meets its contract: what is written grows by what the last write took. Assumes nothing.
use Rattle.std.proofs.Common.{◌≡◌, ℕ, ◌-◌, List, ◌++◌, length, take, drop, sym, ap, ◌∙◌, append_assoc, take-append-drop, Bor}
use Rattle.std.proofs.lemmas.List.{take_rest}
use Rattle.std.proofs.KnownBytes.{Appends-trans, Appends-kept}
use Rattle.session.proofs.channel.write_all.Goals as goal
use Rattle.session.proofs.channel.write_all.Goals.{in-Ok, in-Err}

moves_on : (s done rest more : List ℕ) (n : ℕ) → s ≡ done ++ rest → more ≡ take (length rest - n) (drop n rest)
    → s ≡ (done ++ take n rest) ++ more
moves_on s done rest more n e r =
    e ∙ ap (λ l. done ++ l) (sym (take-append-drop n rest) ∙ ap (λ l. take n rest ++ l) (sym (r ∙ take_rest rest n)))
    ∙ sym (append_assoc done (take n rest) more)

pub loop-preserved : goal.loop-preserved
loop-preserved g c =
    let (done, split, written) = c.loop.invariant in
    let rest = c.loop.rest.now in
    elim c.match-write.branch [
      | in-Ok w ↦ (
        done ++ take w.in-Ok.n rest,
        moves_on _ done rest _ w.in-Ok.n split (ap (λ (r : Bor (List ℕ)). r.now) w.rest-is),
        Appends-trans _ _ _ _ _ written w.in-Ok.ensures.bytes,
      )
      | in-Err w ↦ (
        done,
        split ∙ ap (λ (r : Bor (List ℕ)). done ++ r.now) (sym w.rest-is),
        Appends-kept _ _ _ _ written w.in-Err.ensures.bytes,
      )
    ]
