-- Laws of sets of figures. Assumes nothing.
--
--   some-sum         a sum is at least 1 where one of its two parts is
--   permitted-law    PermittedLaw
--   house-permitted  the house set is permitted
--   figures-columns  nine numbers are those of the set that they are
--   constant-laws    ConstantLaws
--   same-laws        SameLaws
use mathlib.Core.Bool.{true, ◌||◌}
use mathlib.Core.Path.{◌≡◌, refl}
use Prim.Native.Nat.{ℕ, zero, suc, ◌+◌}
use native.Mathlib.Nat.{zero-add}
use native.Mathlib.Omega.{arith}
use lib.Dec.{leb}
use mathlib.Core.List.{List}
use lib.ListN.{length, replicate}
use borrow.Author.Tests.{leb-true, le-leb}
use borrow.Author.Rules.{rules}
use Rattle.std.proofs.lemmas.Bool.{and_parts}
use Rattle.vectors.specs.declared.figures.Figures.{Figures}
use Rattle.vectors.specs.Columns.{within}
use Rattle.vectors.specs.Figures.{house, figures_of, figures_list, permitted, Permitted}
use Rattle.vectors.specs.Laws.{PermittedLaw, ConstantLaws, SameLaws}
use Rattle.vectors.proofs.Laws.Columns.{within-below, below-within, columns-from}

pub some-sum : (a b : ℕ) → (leb 1 a || leb 1 b) ≡ leb 1 (a + b)
some-sum zero b = rw (zero-add b) refl
some-sum (suc a) b = rw (le-leb 1 (suc a) (omega arith), le-leb 1 (suc a + b) (omega arith)) refl

bounded : (f : Figures) → permitted f ≡ true → Permitted f
unfolding permitted
bounded f e =
    let low = and_parts (within (replicate 9 10000) (figures_list f)) _ e in
    let nxc = and_parts (leb 1 f.nxc) _ low.1 in
    let naa = and_parts (leb 1 f.naa) _ nxc.1 in
    let sum = leb-true 1 (f.fch + f.fli) naa.1 in
    omega (arith, within-below (replicate 9 10000) (figures_list f) low.0, leb-true 1 f.nxc nxc.0, leb-true 1 f.naa naa.0, sum)

passes : (f : Figures) → Permitted f → permitted f ≡ true
unfolding permitted
passes f h =
    let low = below-within (replicate 9 10000) (figures_list f) (omega arith) (omega (arith, h)) in
    rw (low, le-leb 1 f.nxc h.nxc_some, le-leb 1 f.naa h.naa_some, le-leb 1 (f.fch + f.fli) h.fch_fli_some) refl

pub permitted-law : PermittedLaw
permitted-law f = record { bounded = bounded f; passes = passes f }

pub house-permitted : Permitted house
house-permitted = omega arith

pub figures-columns : (n : List ℕ) → length n ≡ 9 → figures_list (figures_of n) ≡ n
figures-columns n e = columns-from 9 0 n (omega arith)

pub constant-laws : ConstantLaws
constant-laws = record { house = refl; cod_ceiling = refl; tick_ceiling = refl }

pub same-laws : SameLaws
same-laws = record {
  figures = λ f g e. search rules;
  milligrams = λ x y e. search rules;
  ticks = λ x y e. search rules;
  millimoles = λ x y e. search rules;
}
