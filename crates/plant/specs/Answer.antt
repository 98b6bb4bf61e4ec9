-- Answers: document 01, "The plant record and its five calls" (what each call tells) and "What the link sends away", and document 02, E1
-- and E12.
--
--   Answer, Outcome, Told   the enum and the structs of the code
--   told                    the refusal's number of document 01, or 0, and the values told, by the enum's cases: a refusal tells zeros
--   refused_with            the refusal of an answer, where it is one
--   refused                 the outcome of a refusal: the record that was handed in, and zeros
--   outcome_of              the outcome of a call: its own, or that of the refusal that sends it away
use Rattle.std.specs.Prelude.{Option, None, Some, Result, Ok, Err, ℕ}
use Rattle.refusals.specs.declared.Refusal.{Refusal}
use Rattle.refusals.specs.Refusal.{number}
use Rattle.plant.specs.declared.record.Plant.{Plant}
use Rattle.plant.specs.declared.answer.Answer.{Answer}
use Rattle.plant.specs.declared.answer.Answer.TheVariants.{Refused, Received, Fed, Settled, Returned, Released, Recycled, Drawn, Accepted}
use Rattle.plant.specs.declared.answer.Outcome.{Outcome}
use Rattle.plant.specs.declared.answer.Told.{Told}
use Rattle.plant.specs.Record.{no_columns}

abbrev pub nothing : ℕ → Told
nothing n = record { number = n; burnt = 0; oxygen = 0; nitrate = 0; warn = 0; stripped = 0; n2 = 0 }

abbrev pub told : Answer → Told
told (Refused r) = nothing (number r)
told Received = nothing 0
told (Fed b o n w) = record { number = 0; burnt = b.0; oxygen = o.0; nitrate = n.0; warn = w; stripped = 0; n2 = 0 }
told Settled = nothing 0
told (Returned s) = record { number = 0; burnt = 0; oxygen = 0; nitrate = 0; warn = 0; stripped = s.0; n2 = 0 }
told Released = nothing 0
told Recycled = nothing 0
told Drawn = nothing 0
told (Accepted m) = record { number = 0; burnt = 0; oxygen = 0; nitrate = 0; warn = 0; stripped = 0; n2 = m.0 }

-- the refusal of an answer, where it is one
abbrev pub refused_with : Answer → Option Refusal
refused_with (Refused r) = Some r
refused_with Received = None
refused_with (Fed b o n w) = None
refused_with Settled = None
refused_with (Returned s) = None
refused_with Released = None
refused_with Recycled = None
refused_with Drawn = None
refused_with (Accepted m) = None

abbrev pub refused : Plant → Refusal → Outcome
refused p r = record { answer = Refused r; vector = no_columns; plant = p }

abbrev pub outcome_of : Plant → Result Outcome Refusal → Outcome
outcome_of p (Ok o) = o
outcome_of p (Err r) = refused p r
