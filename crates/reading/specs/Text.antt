-- Bytes of text: what the line language and the answers are made of.
--
--   ascii              the bytes of a text
--   same_bytes         two byte strings are the same, as a test
--   up_to, behind      the bytes before the first b, and those behind it
--   pieces             the pieces that end with b, and what stands behind the last b
--   ◌means◌, look_up   a table of words and what they stand for, and the first of its words that is w
--   one_line           no newline stands in a byte string, as a test
use Rattle.std.specs.Prelude.{Bool, true, false, cond, not, ◌&&◌, List, [], ◌∷◌, ℕ, eqb}
use Prim.Native.Char.{code}
use Prim.Native.String.{String, [] as empty, ◌∷◌ as ◌then◌}

abbrev pub ascii : String → List ℕ
ascii empty = []
ascii (c then s) = code c ∷ ascii s

unfoldable pub same_bytes : List ℕ → List ℕ → Bool
same_bytes [] [] = true
same_bytes [] (b ∷ t) = false
same_bytes (a ∷ s) [] = false
same_bytes (a ∷ s) (b ∷ t) = eqb a b && same_bytes s t

unfoldable pub up_to : ℕ → List ℕ → List ℕ
up_to b [] = []
up_to b (c ∷ s) = cond (eqb c b) [] (c ∷ up_to b s)

unfoldable pub behind : ℕ → List ℕ → List ℕ
behind b [] = []
behind b (c ∷ s) = cond (eqb c b) s (behind b s)

unfoldable pub on_first : ℕ → List (List ℕ) → List (List ℕ)
on_first c [] = (c ∷ []) ∷ []
on_first c (p ∷ ps) = (c ∷ p) ∷ ps

unfoldable pub pieces : ℕ → List ℕ → List (List ℕ)
pieces b [] = [] ∷ []
pieces b (c ∷ s) = cond (eqb c b) ([] ∷ pieces b s) (on_first c (pieces b s))

-- ---- words and what they stand for

pub record Word (A : Type 0) : Type 0 where
  pub word : String
  pub meaning : A

infix 80 ◌means◌
abbrev pub ◌means◌ : {A : Type 0} → String → A → Word A
w means a = record { word = w; meaning = a }

-- d where the table does not have the word
unfoldable pub look_up : {A : Type 0} → A → List (Word A) → List ℕ → A
look_up d [] w = d
look_up d (r ∷ rs) w = cond (same_bytes w (ascii r.word)) r.meaning (look_up d rs w)

-- ---- the bytes that the language names

abbrev pub newline : ℕ
newline = 10

abbrev pub space : ℕ
space = 32

abbrev pub opening : ℕ
opening = 40

abbrev pub closing : ℕ
closing = 41

-- ---- one line

-- no newline stands in s
unfoldable pub one_line : List ℕ → Bool
one_line [] = true
one_line (b ∷ s) = not (eqb b newline) && one_line s
