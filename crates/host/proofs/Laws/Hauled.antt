-- A blend as a host asks for it. Assumes nothing.
--
--   blend-refused   from what a refused blend promises to what the host is promised
use mathlib.Core.List.{List}
use mathlib.Core.Path.{◌≡◌, sym, ap, ◌∙◌}
use Prim.Native.Nat.{ℕ}
use lib.ListN.{length}
use Rattle.std.specs.Prelude.{Result, Err}
use Rattle.refusals.specs.declared.Refusal.{Refusal}
use Rattle.refusals.specs.Refusal.{number}
use Rattle.plant.specs.declared.record.Plant.{Plant}
use Rattle.blends.specs.Blend.{blend, plant_by, loads_left}
use Rattle.host.specs.Record.{plant_at, columns_at}
use Rattle.host.specs.Calls.{number_in, BlendCalled}
use Rattle.host.proofs.Laws.Record.{plant-columns}

pub blend-refused : {cs c ks l : List ℕ} {p : Plant} {x : Result Plant Refusal} {e : Refusal} {r : ℕ} → length cs ≡ 61 → p ≡ plant_at cs
    → x ≡ blend p c ks → x ≡ Err e → l ≡ loads_left p c ks → r ≡ number e → BlendCalled cs c ks r cs l
blend-refused {cs} {c} {ks} {l} {p} {x} {e} {r} long is out sent left num =
    let err : blend (plant_at cs) c ks ≡ Err e = ap (λ (q : Plant). blend q c ks) (sym is) ∙ sym out ∙ sent in
    record {
      columns = sym (plant-columns cs long) ∙ ap columns_at (ap (plant_by (plant_at cs)) (sym err));
      refusal = num ∙ ap number_in (sym err);
      loads = left ∙ ap (λ (q : Plant). loads_left q c ks) is;
    }
