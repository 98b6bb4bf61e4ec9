-- Laws of the return, and that an accepted return keeps COD, TKN, oxygen and nitrate. Assumes nothing.
--
--   taken-nitrogen      what is left and what was taken are what there was, where there was enough
--   short-is            the test of a shortage, step by step
--   return-short, ..    the two outcomes of the conversion
--   return-accepted     what an accepted conversion is
--   return-keeps        ReturnLaw
use mathlib.Core.Bool.{Bool, true, false, cond}
use mathlib.Core.List.{List}
use mathlib.Core.Path.{◌≡◌, refl}
use Prim.Native.Nat.{ℕ, ◌+◌, ◌*◌}
use native.Mathlib.Omega.{arith}
use lib.Dec.{ltb}
use borrow.Author.Tests.{ltb-false}
use Rattle.std.specs.Prelude.{Ok, Err}
use Rattle.refusals.specs.declared.Refusal.TheVariants.{ReturnShort}
use Rattle.vectors.specs.declared.figures.Figures.{Figures}
use Rattle.interface.specs.declared.returning.Returned.{Returned}
use Rattle.vectors.specs.Columns.{Digester, digester}
use Rattle.interface.specs.Return.{Nitrogen, nitrogen_of, taken, return_short, return_taken, return_digester, return_of}
use Rattle.interface.specs.Laws.{ReturnLaw}

pub taken-nitrogen : (q : ℕ) (n : Nitrogen) → return_short q n ≡ false
    → (taken q n).xnd + (taken q n).snd + (taken q n).snh + q ≡ n.xnd + n.snd + n.snh
unfolding taken return_short
taken-nitrogen q n e = omega (arith, ltb-false (n.xnd + n.snd + n.snh) q e)

pub short-is : (q : ℕ) (n : Nitrogen) {a b : ℕ} {short v : Bool} → a ≡ n.xnd + n.snd → b ≡ a + n.snh → short ≡ ltb b q → short ≡ v
    → return_short q n ≡ v
unfolding return_short
short-is q n a b short v = cc

-- the two outcomes, by the nitrogen n of d and the need q
module _ (f : Figures) (d : Digester) {n : Nitrogen} {q : ℕ} (en : n ≡ nitrogen_of f d) (eq : q ≡ f.ixe * d.xi) where
  pub return-short : return_short q n ≡ true → Err ReturnShort ≡ return_digester f d
  unfolding return_digester
  return-short t = rw (rw (en, eq) at t)

  pub return-taken : return_short q n ≡ false → Ok (return_taken f d) ≡ return_digester f d
  unfolding return_digester
  return-taken t = rw (rw (en, eq) at t)

-- an accepted conversion has passed its test
pub record ReturnAccepted (f : Figures) (c : List ℕ) (o : Returned) : Type 0 where
  pub covered : return_short (f.ixe * (digester c).xi) (nitrogen_of f (digester c)) ≡ false
  pub is : o ≡ return_taken f (digester c)

passed : (a : Bool) (x o : Returned) → cond a (Err ReturnShort) (Ok x) ≡ Ok o → (a ≡ false) × (o ≡ x)
passed true x o e = absurd (cc e)
passed false x o e = (refl, cc e)

pub return-accepted : (f : Figures) (c : List ℕ) (o : Returned) → return_of f c ≡ Ok o → ReturnAccepted f c o
unfolding return_digester
return-accepted f c o e =
    let d = digester c in
    let p = passed (return_short (f.ixe * d.xi) (nitrogen_of f d)) (return_taken f d) o e in
    record { covered = p.0; is = p.1 }

pub return-keeps : ReturnLaw
return-keeps f c o e =
    let a = return-accepted f c o e in
    let d = digester c in
    rw a.is
    (record {
      cod = omega arith;
      tkn = omega (arith, taken-nitrogen (f.ixe * d.xi) (nitrogen_of f d) a.covered);
      oxygen = refl;
      nitrate = refl;
    })
