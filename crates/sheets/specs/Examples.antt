-- Values by their bit patterns, and what they count as. proofs/Laws/Examples.antt proves the table by computation.
--
--   Row               a pattern, a column's scale and ceiling, and what comes of it
--   grams, nitrogen   a row by its scale
--   examples          the table
--   ExamplesHold      every row is what the definition gives
use Rattle.std.specs.Prelude.{List, [], ◌∷◌, map, ◌≡◌, ℕ, Result, Ok, Err}
use Rattle.std.specs.Float.{binary32}
use Rattle.std.specs.Float.Ieee.{of_bits}
use Rattle.refusals.specs.declared.Refusal.{Refusal}
use Rattle.refusals.specs.declared.Refusal.TheVariants.{NoAmount, CountAbove}
use Rattle.sheets.specs.Value.{counted_of}

pub record Row : Type 0 where
  pub pattern : ℕ
  pub scale : ℕ
  pub ceiling : ℕ
  pub counted : Result ℕ Refusal

-- grams of COD or oxygen, or moles; grams of nitrogen: the ceiling is 10^9 times the scale
abbrev pub grams : ℕ → Result ℕ Refusal → Row
grams b c = record { pattern = b; scale = 1_000; ceiling = 1_000_000_000_000; counted = c }

abbrev pub nitrogen : ℕ → Result ℕ Refusal → Row
nitrogen b c = record { pattern = b; scale = 10_000_000; ceiling = 10_000_000_000_000_000; counted = c }

abbrev pub examples : List Row
examples =
    grams 0x0000_0000 (Ok 0)  -- zero
    ∷ grams 0x8000_0000 (Ok 0)  -- minus zero
    ∷ grams 0x0000_0001 (Ok 0)  -- the smallest value above zero
    ∷ nitrogen 0x0000_0001 (Ok 0)
    ∷ grams 0x3a83_126f (Ok 1)  -- 0.001, of which the nearest f32 is a little more
    ∷ grams 0x3a83_126e (Ok 0)  -- the next below
    ∷ nitrogen 0x33d6_bf95 (Ok 1)  -- 0.0000001, likewise
    ∷ nitrogen 0x33d6_bf94 (Ok 0)
    ∷ grams 0x3dcc_cccd (Ok 100)  -- 0.1
    ∷ grams 0x3f7f_ffff (Ok 999)  -- the next below 1
    ∷ grams 0x4145_70a4 (Ok 12340)  -- 12.34, of which the nearest f32 is a little more
    ∷ grams 0x41a7_ae14 (Ok 20959)  -- 20.96, of which it is a little less
    ∷ grams 0x4e6e_6b28 (Ok 1_000_000_000_000)  -- 10^9: the ceiling
    ∷ grams 0x4e6e_6b29 (Err CountAbove)  -- the next above
    ∷ nitrogen 0x4e6e_6b28 (Ok 10_000_000_000_000_000)
    ∷ nitrogen 0x4e6e_6b29 (Err CountAbove)
    ∷ grams 0x7f7f_ffff (Err CountAbove)  -- the greatest number
    ∷ grams 0x8000_0001 (Err NoAmount)  -- the greatest below zero
    ∷ grams 0xbf80_0000 (Err NoAmount)  -- -1
    ∷ grams 0x7f80_0000 (Err NoAmount)  -- infinity
    ∷ grams 0xff80_0000 (Err NoAmount)  -- minus infinity
    ∷ grams 0x7fc0_0000 (Err NoAmount)  -- a quiet NaN
    ∷ grams 0x7f80_0001 (Err NoAmount)  -- a signalling one
    ∷ grams 0xffff_ffff (Err NoAmount)  -- one with its sign set
    ∷ []

abbrev pub ExamplesHold : Type 0
ExamplesHold =
    map (λ (r : Row). counted_of r.scale r.ceiling (of_bits binary32 r.pattern)) examples ≡ map (λ (r : Row). r.counted) examples
