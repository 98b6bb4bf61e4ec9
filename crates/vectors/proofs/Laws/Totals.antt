-- Laws of the totals: each is a weighing, and a weighing is linear. Assumes nothing.
--
--   weigh-added, weigh-split, weigh-none   a weighing is linear
--   weigh-step, weigh-end                  one turn of a loop that weighs, and its end
--   total-laws                             TotalLaws
use mathlib.Core.List.{List, [], ◌∷◌}
use mathlib.Core.Path.{◌≡◌, refl, ap}
use Prim.Native.Nat.{ℕ, suc, ◌+◌, ◌*◌, ◌≤◌, ◌<◌}
use native.Mathlib.Nat.{mul-add, mul-zero}
use native.Mathlib.Numerals.{add-one}
use native.Mathlib.Omega.{arith}
use lib.ListN.{length, get_or, drop, replicate}
use lib.Seq.{drop-cons, drop-length}
use Rattle.vectors.specs.Columns.{added}
use Rattle.vectors.specs.Draw.{drawn, rest}
use Rattle.vectors.specs.Totals.{asm1_cod, asm1_tkn, digester_cod, digester_tkn, weigh, weigh_from}
use Rattle.vectors.specs.Totals.{asm1_cod_weights, asm1_fractions, digester_cod_weights, digester_fractions}
use Rattle.vectors.specs.Weighed.{asm1_cod-weigh, asm1_tkn-weigh, digester_cod-weigh, digester_tkn-weigh}
use Rattle.vectors.specs.Laws.{Linear, TotalLaws}
use Rattle.vectors.proofs.Laws.Columns.{same_at, added-column}
use Rattle.vectors.proofs.Laws.Draw.{column-splits}

-- ---- a weighing is linear

pub weigh-added : (ws : List ℕ) (i : ℕ) (a b : List ℕ) → weigh_from i ws (added a b) ≡ weigh_from i ws a + weigh_from i ws b
unfolding weigh_from
weigh-added [] i a b = refl
weigh-added (w ∷ ws) i a b =
    omega (arith, ap (λ (n : ℕ). w * n) (added-column a b i), mul-add w (get_or a i 0) (get_or b i 0), weigh-added ws (suc i) a b)

pub weigh-split : (ws : List ℕ) (i k : ℕ) → k ≤ 1000 → (c : List ℕ)
    → weigh_from i ws (drawn k c) + weigh_from i ws (rest k c) ≡ weigh_from i ws c
unfolding weigh_from
weigh-split [] i k h c = refl
weigh-split (w ∷ ws) i k h c =
    omega (
      arith,
      ap (λ (n : ℕ). w * n) (column-splits k h c i),
      mul-add w (get_or (drawn k c) i 0) (get_or (rest k c) i 0),
      weigh-split ws (suc i) k h c,
    )

pub weigh-none : (ws : List ℕ) (i n : ℕ) → weigh_from i ws (replicate n 0) ≡ 0
unfolding weigh_from
weigh-none [] i n = refl
weigh-none (w ∷ ws) i n = omega (arith, ap (λ (m : ℕ). w * m) (same_at n i 0), mul-zero w, weigh-none ws (suc i) n)

-- a total that is a weighing is linear
weighing : (total : List ℕ → ℕ) (ws : List ℕ) → ((c : List ℕ) → total c ≡ weigh ws c) → Linear total
weighing total ws is =
    record {
      adds = λ a b. omega (arith, is (added a b), is a, is b, weigh-added ws 0 a b);
      splits = λ k h c. omega (arith, is (drawn k c), is (rest k c), is c, weigh-split ws 0 k h c);
      none = λ n. omega (arith, is (replicate n 0), weigh-none ws 0 n);
    }

-- ---- a loop that weighs

pub weigh-step : (ws c : List ℕ) (i : ℕ) → i < length ws
    → weigh_from i (drop i ws) c ≡ get_or ws i 0 * get_or c i 0 + weigh_from (i + 1) (drop (i + 1) ws) c
unfolding weigh_from
weigh-step ws c i h = rw (add-one, drop-cons ws i 0)

pub weigh-end : (ws c : List ℕ) (i j : ℕ) → i ≡ length ws → weigh_from j (drop i ws) c ≡ 0
unfolding weigh_from
weigh-end ws c i j e = rw (e, drop-length ws)

-- ---- the laws

column-linear : (n : ℕ) → Linear (λ c. get_or c n 0)
column-linear n =
    record {
      adds = λ a b. added-column a b n;
      splits = λ k h c. column-splits k h c n;
      none = λ m. same_at m n 0;
    }

pub total-laws : TotalLaws
total-laws =
    record {
      asm1_cod = weighing asm1_cod asm1_cod_weights asm1_cod-weigh;
      asm1_tkn = λ f. weighing (asm1_tkn f) (asm1_fractions f) (asm1_tkn-weigh f);
      asm1_oxygen = column-linear 7;
      asm1_nitrate = column-linear 8;
      digester_cod = weighing digester_cod digester_cod_weights digester_cod-weigh;
      digester_tkn = λ f. weighing (digester_tkn f) (digester_fractions f) (digester_tkn-weigh f);
      digester_oxygen = column-linear 24;
      digester_nitrate = column-linear 25;
    }
