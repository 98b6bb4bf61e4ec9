-- The two conversions of a vector by itself, for any figures and any vector: document 01's feed and return without draw and record. Figures
-- that are no permitted set are refused with 15 (document 02, E7) and a vector above its ceilings with 3, before the conversion's own
-- refusals; a column of the result may be above its ceiling, which is the record's business (refusal 10).
--
--   asm_to_adm    ASM1 to digester: 15, 3, then 4
--   adm_to_asm    digester to ASM1: 15, 3, then 5
use Rattle.std.specs.Prelude.{cond, Result, Err, List, ℕ}
use Rattle.refusals.specs.declared.Refusal.{Refusal}
use Rattle.refusals.specs.declared.Refusal.TheVariants.{NotPermitted, ColumnAbove}
use Rattle.vectors.specs.declared.figures.Figures.{Figures}
use Rattle.vectors.specs.Figures.{permitted}
use Rattle.vectors.specs.Columns.{asm1_ceilings, digester_ceilings, within}
use Rattle.interface.specs.declared.feed.Fed.{Fed}
use Rattle.interface.specs.declared.returning.Returned.{Returned}
use Rattle.interface.specs.Feed.{feed_of}
use Rattle.interface.specs.Return.{return_of}

unfoldable pub asm_to_adm : Figures → List ℕ → Result Fed Refusal
asm_to_adm f v = cond (permitted f) (cond (within asm1_ceilings v) (feed_of f v) (Err ColumnAbove)) (Err NotPermitted)

unfoldable pub adm_to_asm : Figures → List ℕ → Result Returned Refusal
adm_to_asm f d = cond (permitted f) (cond (within digester_ceilings d) (return_of f d) (Err ColumnAbove)) (Err NotPermitted)
