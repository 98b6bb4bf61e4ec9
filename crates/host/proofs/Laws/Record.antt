-- Laws of a record of 61 numbers. Assumes nothing.
--
--   plant-columns   the columns of the record that 61 numbers stand for are those columns
use mathlib.Core.List.{List, ◌++◌}
use mathlib.Core.Path.{◌≡◌, sym, ap, ◌∙◌}
use Prim.Native.Nat.{ℕ}
use native.Mathlib.Omega.{arith}
use lib.ListN.{length, take, drop, take-append-drop, length-drop}
use lib.Seq.{take_all, drop-drop}
use Rattle.vectors.specs.Figures.{figures_of, figures_list}
use Rattle.vectors.proofs.Laws.Figures.{figures-columns}
use Rattle.host.specs.Record.{ColumnsLaw}

pub plant-columns : ColumnsLaw
plant-columns cs h =
    let a : drop 39 cs ≡ drop 26 (drop 13 cs) = sym (drop-drop 26 13 cs) in
    let b : drop 52 cs ≡ drop 13 (drop 39 cs) = sym (drop-drop 13 39 cs) in
    let n : take 9 (drop 52 cs) ≡ drop 52 cs = take_all 9 (drop 52 cs) (omega (arith, length-drop 52 cs)) in
    let f : figures_list (figures_of (take 9 (drop 52 cs))) ≡ drop 52 cs =
    figures-columns (take 9 (drop 52 cs)) (ap length n ∙ omega (arith, length-drop 52 cs)) ∙ n in
    ap (λ (x : List ℕ). take 13 cs ++ (take 26 (drop 13 cs) ++ (take 13 (drop 39 cs) ++ x))) (f ∙ b)
    ∙ ap (λ (x : List ℕ). take 13 cs ++ (take 26 (drop 13 cs) ++ x)) (take-append-drop 13 (drop 39 cs) ∙ a)
    ∙ ap (λ (x : List ℕ). take 13 cs ++ x) (take-append-drop 26 (drop 13 cs))
    ∙ take-append-drop 13 cs
