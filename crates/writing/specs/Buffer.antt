-- Bytes in a lent buffer.
--
--   put_at     the buffer with bytes s in the place of those from `at` on
--   Put        a writer's promise: s stands from `at` on, r is the place behind it, and all other bytes are as they were
--   Answered   the same at the start of the buffer, with r at most 512
--   fitted     all of the bytes s where a buffer of m bytes has room for them from `at` on, else none
use Rattle.std.specs.Prelude.{cond, List, [], ◌++◌, ◌≡◌, ℕ, ◌+◌, ◌≤◌, leb, length, take, drop}

unfoldable pub put_at : List ℕ → ℕ → List ℕ → List ℕ
put_at d at s = take at d ++ (s ++ drop (at + length s) d)

-- from the buffer d to the buffer e
pub record Put (d : List ℕ) (at : ℕ) (s : List ℕ) (r : ℕ) (e : List ℕ) : Type 0 where
  pub next : r ≡ at + length s
  pub bytes : e ≡ put_at d at s

unfoldable pub fitted : ℕ → ℕ → List ℕ → List ℕ
fitted m at s = cond (leb (at + length s) m) s []

pub record Answered (d : List ℕ) (s : List ℕ) (r : ℕ) (e : List ℕ) : Type 0 where
  pub count : r ≡ length s
  pub buffer : e ≡ s ++ drop (length s) d
  pub within : r ≤ 512
