-- The plant record: document 01, "The plant record and its five calls", and document 02, E7.
--
--   Plant            the struct of the code: the tanks sludge, digester and reject, and the figures
--   no_columns       thirteen zeros, the vector of a call that hands none out
--   fresh_plant      every column zero, with a set of figures
--   made             what a wish for a record gives: any nine numbers may be wished for
--   record_within    no column of a record is above its ceiling (refusal 1)
--   record_refusal   what sends a record away before anything else of it is tested: 15, then 1
--   thousandths      k is from 1 to 1000 (refusal 2)
--   MadeLaw          a wish within the bounds gives a fresh record of these figures, any other 15 and one of the house set; so whatever is
--                    wished for, the record has a permitted set. proofs/Laws/Record.antt proves it: made-law
use Rattle.std.specs.Prelude.{Bool, ◌&&◌, cond, Option, None, Some, List, [], ◌∷◌, ◌≡◌, ℕ, leb, replicate}
use Rattle.refusals.specs.declared.Refusal.{Refusal}
use Rattle.refusals.specs.declared.Refusal.TheVariants.{RecordAbove, NotPermitted}
use Rattle.refusals.specs.Tests.{unless, first}
use Rattle.vectors.specs.declared.figures.Figures.{Figures}
use Rattle.vectors.specs.Figures.{house, permitted, Permitted}
use Rattle.vectors.specs.Columns.{asm1_ceilings, digester_ceilings, within}
use Rattle.plant.specs.declared.record.Plant.{Plant}
use Rattle.plant.specs.declared.record.Made.{Made}

abbrev pub no_columns : List ℕ
no_columns = replicate 13 0

abbrev pub fresh_plant : Figures → Plant
fresh_plant f = record { sludge = replicate 13 0; digester = replicate 26 0; reject = replicate 13 0; figures = f }

-- 15 where the figures are no permitted set, and the record is a fresh one of the house set
abbrev pub made : Figures → Made
made f =
    cond (permitted f)
    (record { refusal = None; plant = fresh_plant f })
    (record { refusal = Some NotPermitted; plant = fresh_plant house })

unfoldable pub record_within : Plant → Bool
record_within p = within asm1_ceilings p.sludge && (within digester_ceilings p.digester && within asm1_ceilings p.reject)

unfoldable pub record_refusal : Plant → Option Refusal
record_refusal p = first (unless (permitted p.figures) NotPermitted ∷ unless (record_within p) RecordAbove ∷ [])

unfoldable pub thousandths : ℕ → Bool
thousandths k = leb 1 k && leb k 1000

-- ---- the claim

pub record MadeIs (f : Figures) : Type 0 where
  pub granted : Permitted f → made f ≡ record { refusal = None; plant = fresh_plant f }
  pub refused : (Permitted f → ⊥) → made f ≡ record { refusal = Some NotPermitted; plant = fresh_plant house }
  pub bounds : Permitted (made f).plant.figures

abbrev pub MadeLaw : Type 0
MadeLaw = (f : Figures) → MadeIs f
