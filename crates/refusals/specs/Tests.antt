-- Tests that send away, in the order in which they are made: document 01, "What the link sends away".
--
--   unless   a test that gives its refusal where it fails
--   first    the first refusal that is given
--   decide   what comes of it: that refusal, or x where none is given
use Rattle.std.specs.Prelude.{Bool, cond, List, [], ◌∷◌, Option, None, Some, Result, Ok, Err}
use Rattle.refusals.specs.declared.Refusal.{Refusal}

abbrev pub unless : Bool → Refusal → Option Refusal
unless b r = cond b None (Some r)

abbrev pub first : List (Option Refusal) → Option Refusal
first [] = None
first (None ∷ rs) = first rs
first (Some r ∷ rs) = Some r

abbrev pub decide : {A : Type 0} → Option Refusal → A → Result A Refusal
decide None x = Ok x
decide (Some r) x = Err r
