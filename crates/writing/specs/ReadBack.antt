-- Reading an answer back: its text determines it.
--
--   numbers_in       the numbers in a text: each run of digits
--   replies          the words of accepted answers
--   read_answer      the answer that a text stands for
--   all_short        every number that an answer tells has at most twenty digits, as every number of the code has
--   by_number        an answer with its refusal by the number
--   by_table         the other way: with the table's refusal of that number
--   is_named         whether an answer's refusal, where it is one, is the table's
--   NamedLaw         it is, of the answer of each call. proofs/Laws/Named.antt proves it: named
--   ReadBackLaw      reading what was written gives the answer back. proofs/Laws/ReadBack.antt proves it: answer-read
--   ReadColumnsLaw   and the vector of a release, and of a draw: columns-read
--   SameTextLaw      two answers that differ are written differently, but for one number by two refusals: answer-same
use Rattle.std.specs.Prelude.{Bool, true, false, cond, List, [], ◌∷◌, ◌≡◌, ℕ, ◌+◌, ◌-◌, ◌*◌, ◌^◌, ◌<◌, eqb, length, drop, get_or}
use Rattle.refusals.specs.declared.Refusal.TheVariants.{Other}
use Rattle.refusals.specs.Refusal.{number, of_number, in_table}
use Rattle.vectors.specs.Units.{milligrams, ticks}
use Rattle.plant.specs.declared.answer.Answer.{Answer}
use Rattle.plant.specs.declared.answer.Answer.TheVariants.{Refused, Received, Fed, Settled, Returned, Released, Recycled, Drawn, Accepted}
use Rattle.plant.specs.declared.record.Plant.{Plant}
use Rattle.plant.specs.declared.answer.Request.{Request}
use Rattle.plant.specs.Answer.{told}
use Rattle.plant.specs.Calls.{step}
use Rattle.reading.specs.Text.{Word, ◌means◌, look_up, up_to, space, closing}
use Rattle.reading.specs.Number.{is_digit}
use Rattle.writing.specs.Answer.{answer_text}

-- within a run of digits that stand for n so far, or not
unfoldable pub scan : Bool → ℕ → List ℕ → List ℕ
scan false n [] = []
scan true n [] = n ∷ []
scan false n (b ∷ s) = cond (is_digit b) (scan true (0 * 10 + (b - 48)) s) (scan false 0 s)
scan true n (b ∷ s) = cond (is_digit b) (scan true (n * 10 + (b - 48)) s) (n ∷ scan false 0 s)

abbrev pub numbers_in : List ℕ → List ℕ
numbers_in s = scan false 0 s

-- the word behind (ok and its space
abbrev pub word_in : List ℕ → List ℕ
word_in s = up_to closing (up_to space (drop 4 s))

-- the words of accepted answers, and the answer with the numbers ns in its text; that of accept has the 2 of n2 before its own
abbrev pub replies : List ℕ → List (Word Answer)
replies ns =
    "receive" means Received
    ∷ "feed" means Fed (milligrams (get_or ns 0 0)) (milligrams (get_or ns 1 0)) (ticks (get_or ns 2 0)) (get_or ns 3 0)
    ∷ "settle" means Settled
    ∷ "return" means Returned (milligrams (get_or ns 0 0))
    ∷ "release" means Released
    ∷ "recycle" means Recycled
    ∷ "draw" means Drawn
    ∷ "accept" means Accepted (ticks (get_or ns 1 0))
    ∷ []

-- a refusal, whose second byte is n; else by the word, and a word that is not in the table is read as a refusal too
unfoldable pub read_answer : List ℕ → Answer
read_answer s =
    let ns = numbers_in s in
    let no = Refused (Other (get_or ns 0 0)) in
    cond (eqb (get_or s 1 0) 110) no (look_up no (replies ns) (word_in s))

abbrev pub short : ℕ → Type 0
short n = n < 10 ^ 20

abbrev pub all_short : Answer → Type 0
all_short a =
    let t = told a in
    short t.number × short t.burnt × short t.oxygen × short t.nitrate × short t.warn × short t.stripped × short t.n2

-- an answer with its refusal by the number, which is all that a text holds of it
abbrev pub by_number : Answer → Answer
by_number (Refused r) = Refused (Other (number r))
by_number Received = Received
by_number (Fed b o n w) = Fed b o n w
by_number Settled = Settled
by_number (Returned s) = Returned s
by_number Released = Released
by_number Recycled = Recycled
by_number Drawn = Drawn
by_number (Accepted m) = Accepted m

-- the table's refusal of a number where it has one; an accepted answer stays
abbrev pub by_table : Answer → Answer
by_table (Refused r) = Refused (of_number (number r))
by_table a = a

abbrev pub is_named : Answer → Bool
is_named (Refused r) = in_table r
is_named a = true

abbrev pub NamedLaw : Type 0
NamedLaw = (p : Plant) (r : Request) → is_named (step p r).answer ≡ true

-- what is read back has the refusal by its number, and by the table it is the answer itself
abbrev pub ReadBackLaw : Type 0
ReadBackLaw = (a : Answer) (v : List ℕ) → all_short a
    → (read_answer (answer_text a v) ≡ by_number a) × (is_named a ≡ true → by_table (read_answer (answer_text a v)) ≡ a)

abbrev pub ReadColumnsLaw : Type 0
ReadColumnsLaw = (v : List ℕ) → length v ≡ 13 → ((k : ℕ) → short (get_or v k 0))
    → (numbers_in (answer_text Released v) ≡ v) × (numbers_in (answer_text Drawn v) ≡ v)

-- two answers that differ are written differently, but for refusals of one number of which one is not the table's
abbrev pub SameTextLaw : Type 0
SameTextLaw = (a b : Answer) (v w : List ℕ) → all_short a → all_short b → answer_text a v ≡ answer_text b w
    → (by_number a ≡ by_number b) × (is_named a ≡ true → is_named b ≡ true → a ≡ b)
