-- `reading::form::call_of` meets its contract. Each word is looked for where the words before it in the table were not found.
use mathlib.Core.List.{List, []}
use mathlib.Core.Path.{◌≡◌, refl, ◌∙◌}
use Prim.Native.Nat.{ℕ}
use Rattle.std.proofs.Common.{None}
use Rattle.reading.specs.Form.{no_form}
use Rattle.reading.specs.Text.{look_up}
use Rattle.reading.proofs.Laws.Text.{same-is, look-found, look-further}
use Rattle.reading.proofs.form.call_of.Goals as goal

pub returns-then-eq : goal.returns-then-eq
returns-then-eq c = c.bare.ensures ∙ look-found _ _ _ _ (same-is _ c.as_slice.ensures c.eq.ensures c.if-eq.true)

pub returns-then-eq-2 : goal.returns-then-eq-2
returns-then-eq-2 c =
    c.bare-then-eq-2.ensures ∙ look-further _ _ _ _ (same-is _ c.as_slice.ensures c.eq.ensures c.if-eq.false)
    (look-found _ _ _ _ (same-is _ c.as_slice-2.ensures c.eq-2.ensures c.if-eq-2.true))

pub returns-then-eq-3 : goal.returns-then-eq-3
returns-then-eq-3 c =
    c.bare-then-eq-3.ensures ∙ look-further _ _ _ _ (same-is _ c.as_slice.ensures c.eq.ensures c.if-eq.false)
    (look-further _ _ _ _ (same-is _ c.as_slice-2.ensures c.eq-2.ensures c.if-eq-2.false)
    (look-found _ _ _ _ (same-is _ c.as_slice-3.ensures c.eq-3.ensures c.if-eq-3.true)))

pub returns-then-eq-4 : goal.returns-then-eq-4
returns-then-eq-4 c =
    c.bare-then-eq-4.ensures ∙ look-further _ _ _ _ (same-is _ c.as_slice.ensures c.eq.ensures c.if-eq.false)
    (look-further _ _ _ _ (same-is _ c.as_slice-2.ensures c.eq-2.ensures c.if-eq-2.false)
    (look-further _ _ _ _ (same-is _ c.as_slice-3.ensures c.eq-3.ensures c.if-eq-3.false)
    (look-found _ _ _ _ (same-is _ c.as_slice-4.ensures c.eq-4.ensures c.if-eq-4.true))))

pub returns-then-eq-5 : goal.returns-then-eq-5
returns-then-eq-5 c =
    c.bare-then-eq-5.ensures ∙ look-further _ _ _ _ (same-is _ c.as_slice.ensures c.eq.ensures c.if-eq.false)
    (look-further _ _ _ _ (same-is _ c.as_slice-2.ensures c.eq-2.ensures c.if-eq-2.false)
    (look-further _ _ _ _ (same-is _ c.as_slice-3.ensures c.eq-3.ensures c.if-eq-3.false)
    (look-further _ _ _ _ (same-is _ c.as_slice-4.ensures c.eq-4.ensures c.if-eq-4.false)
    (look-found _ _ _ _ (same-is _ c.as_slice-5.ensures c.eq-5.ensures c.if-eq-5.true)))))

none_found : (w : List ℕ) → None ≡ look_up no_form [] w
unfolding look_up
none_found w = refl

pub returns : goal.returns
returns c =
    look-further _ _ _ _ (same-is _ c.as_slice.ensures c.eq.ensures c.if-eq.false)
    (look-further _ _ _ _ (same-is _ c.as_slice-2.ensures c.eq-2.ensures c.if-eq-2.false)
    (look-further _ _ _ _ (same-is _ c.as_slice-3.ensures c.eq-3.ensures c.if-eq-3.false)
    (look-further _ _ _ _ (same-is _ c.as_slice-4.ensures c.eq-4.ensures c.if-eq-4.false)
    (look-further _ _ _ _ (same-is _ c.as_slice-5.ensures c.eq-5.ensures c.if-eq-5.false) (none_found _)))))
