-- Laws of a call's line in a buffer. Assumes nothing.
--
--   numbered-parts               a number and columns, as a settle has them, and an accept
--   call-as                      the text of an equal call
--   entry-preview                a preview of a call
--   line_refused, line-written   the promise of the call in a short buffer, and in any other
--   line-count, line-filled      how many bytes the line has, and the part that it fills
--   line-behind                  the bytes behind the part
use mathlib.Core.Bool.{Bool, true, false, cond}
use mathlib.Core.List.{List, [], ◌∷◌, ◌++◌, append_assoc}
use mathlib.Core.Path.{◌≡◌, refl, sym, ap, ◌∙◌}
use Prim.Native.Nat.{ℕ, ◌+◌, ◌≤◌, ◌<◌}
use native.Mathlib.Nat.{zero-add}
use lib.Dec.{ltb}
use lib.ListN.{length, take, drop}
use lib.Seq.{take_at, drop_at}
use borrow.Author.Tests.{lt-ltb, le-ltb}
use Rattle.std.specs.Prelude.{Result, Ok, Err}
use Rattle.std.specs.Result.{result_unwrap_or}
use Rattle.refusals.specs.declared.Refusal.{Refusal}
use Rattle.refusals.specs.declared.Refusal.TheVariants.{ShortBuffer}
use Rattle.plant.specs.declared.answer.Call.{Call}
use Rattle.plant.specs.declared.answer.Request.{Request}
use Rattle.reading.specs.Text.{ascii, opening}
use Rattle.writing.specs.declared.page.Page.{Page}
use Rattle.writing.specs.Page.{Wrote}
use Rattle.writing.specs.Answer.{labelled}
use Rattle.writing.specs.Buffer.{put_at}
use Rattle.writing.proofs.Laws.Buffer.{put_first}
use Rattle.writing.proofs.Laws.Page.{wrote_same}
use Rattle.composing.specs.Line.{fields_text, numbered_text, call_text, entry_text}
use Rattle.composing.specs.Written.{line_text, written_text, LineWritten}

-- ---- a number and columns, one behind the other

pub numbered-parts : (label : List ℕ) (n : ℕ) (names : List (List ℕ)) (v : List ℕ)
    → labelled (opening ∷ label) n ++ (fields_text names v ++ ascii ")") ≡ numbered_text label n names v
numbered-parts label n names v = sym (append_assoc (labelled (opening ∷ label) n) (fields_text names v) (ascii ")"))

-- ---- a call, and a preview of it

pub call-as : {p q : Page} (v w : List ℕ) {x y : Call} → x ≡ y
    → Wrote p (call_text y v w) q × (q.at ≤ p.at + 1000) → Wrote p (call_text x v w) q × (q.at ≤ p.at + 1000)
call-as v w q p = (wrote_same (ap (λ (z : Call). call_text z v w) (sym q)) p.0, p.1)

pub entry-preview : {b : Bool} (r : Request) → b ≡ true
    → ascii "(preview " ++ (call_text r.call r.sludge r.digester ++ ascii ")") ≡ entry_text b r
entry-preview r e = rw e

-- ---- the line in a buffer

module _ (d : List ℕ) (b : Bool) (r : Request) where
  pub line_refused : length d < 1025 → LineWritten d b r (Err ShortBuffer) d
  unfolding written_text
  line_refused h =
      let short = lt-ltb (length d) 1025 h in
      let none : [] ≡ written_text (length d) b r = rw short in
      record {
        given = rw short;
        buffer = ap (λ (s : List ℕ). s ++ drop (length s) d) none;
      }

  -- how many bytes the line has, none under the refusal
  pub line-count : {w : Result ℕ Refusal} {e : List ℕ} → LineWritten d b r w e → result_unwrap_or w 0 ≡ length (written_text (length d) b r)
  unfolding written_text
  line-count p = ap (λ (x : Result ℕ Refusal). result_unwrap_or x 0) p.given ∙ go (ltb (length d) 1025)
    where
      go : (t : Bool) → result_unwrap_or (cond t (Err ShortBuffer) (Ok (length (line_text b r)))) 0 ≡ length (cond t [] (line_text b r))
      go true = refl
      go false = refl

  pub line-filled : {w : Result ℕ Refusal} {e : List ℕ} → LineWritten d b r w e
      → take (result_unwrap_or w 0) e ≡ written_text (length d) b r
  line-filled {w} p =
      let s = written_text (length d) b r in
      ap (take (result_unwrap_or w 0)) p.buffer ∙ take_at s (drop (length s) d) (result_unwrap_or w 0) (sym (line-count p))

  pub line-behind : {w : Result ℕ Refusal} {e : List ℕ} → LineWritten d b r w e
      → drop (result_unwrap_or w 0) e ≡ drop (length (written_text (length d) b r)) d
  line-behind {w} p =
      let s = written_text (length d) b r in
      ap (drop (result_unwrap_or w 0)) p.buffer ∙ drop_at s (drop (length s) d) (result_unwrap_or w 0) (sym (line-count p))

-- on a page over a buffer of 1,025 bytes or more; e is what the buffer holds when the page is given up
pub line-written : {p q : Page} {e : List ℕ} (b : Bool) (r : Request) → e ≡ q.bytes.now → 1025 ≤ length p.bytes.now → p.at ≡ 0
    → Wrote p (line_text b r) q → LineWritten p.bytes.now b r (Ok q.at) e
unfolding written_text
line-written {p} {q} {e} b r last h start w =
    let d = p.bytes.now in
    let room = le-ltb (length d) 1025 h in
    let all : line_text b r ≡ written_text (length d) b r = rw room in
    record {
      given = rw room (ap Ok (w.put.next ∙ ap (λ (j : ℕ). j + length (line_text b r)) start ∙ zero-add (length (line_text b r))));
      buffer = last ∙ w.put.bytes ∙ ap (λ (j : ℕ). put_at d j (line_text b r)) start ∙ put_first d (line_text b r)
          ∙ ap (λ (s : List ℕ). s ++ drop (length s) d) all;
    }
