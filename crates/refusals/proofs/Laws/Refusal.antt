-- Laws of refusals. Assumes nothing.
--
--   same-law     SameLaw
--   number-law   NumberLaw
use borrow.Author.Rules.{rules}
use mathlib.Core.Path.{refl}
use Rattle.std.proofs.lemmas.Bool.{false≢true}
use Rattle.refusals.specs.declared.Refusal.TheVariants.{RecordAbove, NotThousandths, ColumnAbove, FeedShort, ReturnShort, CodOpen}
use Rattle.refusals.specs.declared.Refusal.TheVariants.{TknOpen, CarriedOpen, TankAbove, NoForm, ShortBuffer, NoAmount}
use Rattle.refusals.specs.declared.Refusal.TheVariants.{CountAbove, NotPermitted, NoBlend, Other}
use Rattle.refusals.specs.Laws.{SameLaw, NumberLaw}

pub same-law : SameLaw
same-law r s e = search rules

pub number-law : NumberLaw
number-law RecordAbove h = refl
number-law NotThousandths h = refl
number-law ColumnAbove h = refl
number-law FeedShort h = refl
number-law ReturnShort h = refl
number-law CodOpen h = refl
number-law TknOpen h = refl
number-law CarriedOpen h = refl
number-law TankAbove h = refl
number-law NoForm h = refl
number-law ShortBuffer h = refl
number-law NoAmount h = refl
number-law CountAbove h = refl
number-law NotPermitted h = refl
number-law NoBlend h = refl
number-law (Other n) h = absurd (false≢true h)
