-- The record stays within its ceilings over any list of calls, previews, sheets and blends. Assumes nothing.
--
--   receive-within   what is a receive or nothing, as a sheet and a blend are, leaves a record within its ceilings
--   after-within     every list of them does
--   held_after       what is held after any list on a fresh record of a permitted set is told, never refused
use mathlib.Core.Bool.{Bool, true, false, cond}
use mathlib.Core.List.{List, [], ◌∷◌}
use Prim.Native.Nat.{ℕ}
use mathlib.Core.Path.{◌≡◌, refl, sym, subst}
use Rattle.std.specs.Prelude.{is_none, Ok}
use Rattle.refusals.specs.Tests.{first}
use Rattle.vectors.specs.declared.figures.Figures.{Figures}
use Rattle.vectors.specs.Figures.{Permitted}
use Rattle.plant.specs.declared.record.Plant.{Plant}
use Rattle.plant.specs.Record.{fresh_plant, record_within}
use Rattle.plant.specs.Calls.{step, preview_of, receiving}
use Rattle.plant.specs.Tanks.{cod_in, tkn_in, oxygen_in, nitrate_in}
use Rattle.plant.proofs.Laws.Within.{step-within, fresh-within}
use Rattle.holding.specs.Held.{held_totals, held_of}
use Rattle.holding.proofs.Laws.Held.{held-usable}
use Rattle.sheets.specs.Sheet.{refusal_in, counts_of, sheet_step}
use Rattle.sheets.proofs.Laws.Sheet.{sheet-plant}
use Rattle.blends.specs.Blend.{loads_of, draws, blend_tests, blend_step}
use Rattle.blends.proofs.Laws.Draws.{blend-plant}
use Rattle.plant.proofs.Laws.Record.{usable-is}
use Rattle.balances.specs.Balance.{Entry, calls, previews, sheets, blends, after}
use Rattle.balances.proofs.Laws.Balance.{figures-stay}

pub receive-within : (p : Plant) (b : Bool) (v : List ℕ) {r : Plant} → r ≡ cond b (step p (receiving v)).plant p
    → record_within p ≡ true → record_within r ≡ true
receive-within p true v e h = rw e (step-within p (receiving v) h)
receive-within p false v e h = rw e h

pub after-within : (p : Plant) (es : List Entry) → record_within p ≡ true → record_within (after p es) ≡ true
unfolding preview_of
after-within p [] h = h
after-within p (calls r ∷ es) h = after-within (step p r).plant es (step-within p r h)
after-within p (previews r ∷ es) h = after-within p es h
after-within p (sheets s ∷ es) h =
    after-within (sheet_step p s).plant es (receive-within p (is_none (refusal_in s)) (counts_of s) (sheet-plant p s) h)
after-within p (blends c ks ∷ es) h =
    let within = receive-within p (is_none (first (blend_tests p c ks))) (draws (loads_of c ks)) (blend-plant p c ks) h in
    after-within (blend_step p c ks) es within

pub held_after : (f : Figures) → Permitted f → (es : List Entry)
    → let p = after (fresh_plant f) es in held_of p ≡ Ok (held_totals (cod_in p) (tkn_in p) (oxygen_in p) (nitrate_in p))
held_after f h es =
    let p = after (fresh_plant f) es in
    let bounds = subst Permitted (sym (figures-stay (fresh_plant f) es)) h in
    sym (held-usable p (sym (usable-is p bounds (after-within (fresh_plant f) es (fresh-within f)))) refl)
