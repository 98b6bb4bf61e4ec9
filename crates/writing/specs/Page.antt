-- Text on a page.
--
--   HasRoom              n bytes fit behind what is written
--   Wrote                a writer's promise: s stands behind what was written, and all other bytes of the lent buffer are as they were
--   parts_of, AllShort   labels and their numbers, and no label longer than twenty bytes
use Rattle.std.specs.Prelude.{true, List, map, ◌≡◌, ℕ, ◌+◌, ◌≤◌, leb, length}
use Rattle.std.specs.List.{list_all}
use Rattle.std.specs.Borrow.{Bor}
use Rattle.writing.specs.declared.page.Page.{Page}
use Rattle.writing.specs.Buffer.{Put}

abbrev pub HasRoom : Page → ℕ → Type 0
HasRoom p n = p.at + n ≤ length p.bytes.now

pub record Wrote (p : Page) (s : List ℕ) (q : Page) : Type 0 where
  pub same : q.bytes.ghost_name ≡ p.bytes.ghost_name
  pub put : Put p.bytes.now p.at s q.at q.bytes.now
  pub room : length q.bytes.now ≡ length p.bytes.now

-- labels and their numbers, as the code hands them over
abbrev pub parts_of : List (Bor (List ℕ) × ℕ) → List (List ℕ × ℕ)
parts_of ps = map (λ p. (p.0.now, p.1)) ps

-- no label has more than 20 bytes
abbrev pub AllShort : List (Bor (List ℕ) × ℕ) → Type 0
AllShort ps = list_all (λ p. leb (length p.0.now) 20) ps ≡ true
