-- Laws of sheets. Assumes nothing.
--
--   scale-at                                  the scale of a column in the code's table
--   readings-length, reading-at, read-at      the readings of a sheet: how many, and the one at a column
--   collected-.., all-.., stop-collected      a list of readings of which none is refused, and one with a refusal in it
--   read-more, read-stop, read-end            where the loop over a sheet stands: one turn, a bad column, its end
--   counts-within                             CountsWithinLaw; limits-below the same of the limits
--   sheet-received, sheet-turned              the call, by what the readings are
--   sheet-plant, sheet-figures                the record behind a sheet, and its figures
--   sheet-tests, sheet-refused, sheet-adds    SheetTestsLaw, SheetRefusedLaw, SheetAddsLaw
use mathlib.Core.Bool.{Bool, true, false, cond}
use mathlib.Core.List.{List, [], ◌∷◌, ◌++◌, map}
use mathlib.Core.Path.{◌≡◌, refl, sym, ap, ◌∙◌}
use Prim.Native.Nat.{ℕ, suc, ◌+◌, ◌≤◌, ◌<◌}
use borrow.Author.Tests.{le-leb}
use native.Mathlib.Numerals.{add-one}
use native.Mathlib.Omega.{arith}
use lib.ListN.{length, get_or, take, drop, set, length-map, take-append-drop}
use lib.Seq.{drop-cons, take-suc, take-suc-set, take_all}
use Rattle.std.specs.Prelude.{Float, zip, count_by, Option, None, Some, Result, Ok, Err}
use Rattle.std.proofs.lemmas.List.{get_or-map, map-append}
use Rattle.std.proofs.lemmas.List.Sums.{sum_by-cons}
use Rattle.std.proofs.lemmas.Slice.Zip.{get_or-zip, length-zip}
use Rattle.refusals.specs.declared.Refusal.{Refusal}
use Rattle.refusals.specs.Tests as sent
use Rattle.vectors.specs.declared.units.Milligrams.{Milligrams}
use Rattle.vectors.specs.Columns.{asm1_ceilings, within, Below, added}
use Rattle.vectors.specs.Totals.{asm1_cod, asm1_oxygen}
use Rattle.vectors.specs.Units.{milligrams}
use Rattle.vectors.proofs.Laws.Columns.{within-below}
use Rattle.plant.specs.declared.record.Plant.{Plant}
use Rattle.plant.specs.declared.answer.Outcome.{Outcome}
use Rattle.plant.specs.Record.{record_refusal}
use Rattle.plant.specs.Answer.{refused_with}
use Rattle.plant.specs.Calls.{receive, ruled, step_by, step, receiving}
use Rattle.plant.proofs.Laws.Calls.{sent-first, figures-kept}
use Rattle.plant.proofs.Laws.Decision.{decide-case}
use Rattle.refusals.specs.declared.Refusal.TheVariants.{TankAbove}
use Rattle.std.specs.Prelude.{is_none}
use Rattle.std.specs.Result.{result_err, result_map_both}
use Rattle.sheets.specs.declared.call.SheetOutcome.{SheetOutcome}
use Rattle.sheets.specs.declared.call.Unseen.{Unseen}
use Rattle.sheets.specs.declared.finding.Finding.{Finding}
use Rattle.sheets.specs.declared.value.Scale.{Scale}
use Rattle.sheets.specs.Value.{reading_of, count, limit, missing}
use Rattle.sheets.specs.Sheet.{scales, per_unit, ceiling, Reading, readings, refusal_in, read_as, counts_of, limits_of, not_sampled}
use Rattle.sheets.specs.Sheet.{unseen_by, unseen_of, collected, sheet_readings, sheet_refused, sheet_received, sheet_by, sheet_step}
use Rattle.sheets.specs.Sheet.{CountsWithinLaw, SheetTestsLaw, SheetRefusedLaw, SheetAddsLaw}
use Rattle.sheets.proofs.Laws.Value.{count-le, limit-le}

-- ---- columns

pub scale-at : (zs : List Scale) (i : ℕ) (z : Scale) → i < 13 → map per_unit zs ≡ scales → map ceiling zs ≡ asm1_ceilings
    → (per_unit (get_or zs i z) ≡ get_or scales i 0) × (ceiling (get_or zs i z) ≡ get_or asm1_ceilings i 0)
scale-at zs i z h u v =
    let l : i < length zs = omega (arith, length-map zs per_unit, ap length u) in (
      sym (get_or-map per_unit zs i z 0 l) ∙ ap (λ (ns : List ℕ). get_or ns i 0) u,
      sym (get_or-map ceiling zs i z 0 l) ∙ ap (λ (ns : List ℕ). get_or ns i 0) v,
    )

module _ (s : List (Finding Float)) (n : length s ≡ 13) where
  pub readings-length : length (readings s) ≡ 13
  unfolding readings
  readings-length = length-map _ _ ∙ omega (arith, length-zip (zip scales asm1_ceilings) s)

  pub reading-at : (i : ℕ) (d : Reading) (x : Finding Float) → i < 13
      → get_or (readings s) i d ≡ reading_of (get_or scales i 0) (get_or asm1_ceilings i 0) (get_or s i x)
  unfolding readings
  reading-at i d x h =
      let l : i < length s = omega arith in
      let k : i < length (zip (zip scales asm1_ceilings) s) = omega (arith, length-zip (zip scales asm1_ceilings) s) in
      get_or-map _ (zip (zip scales asm1_ceilings) s) i ((0, 0), x) d k
      ∙ rw (get_or-zip (zip scales asm1_ceilings) s i ((0, 0), x) h l, get_or-zip scales asm1_ceilings i (0, 0) h h)

  -- as the code reads it
  pub read-at : (i : ℕ) (d : Reading) (x : Finding Float) → i < 13 → {a c : ℕ}
      → (a ≡ get_or scales i 0) × (c ≡ get_or asm1_ceilings i 0)
      → {r : Reading} → r ≡ reading_of a c (get_or s i x) → get_or (readings s) i d ≡ r
  read-at i d x h at e = reading-at i d x h ∙ (λ j. reading_of (sym at.0 j) (sym at.1 j) (get_or s i x)) ∙ sym e

-- ---- a list of readings

module _ {A : Type 0} where
  pub collected-all : (xs : List A) → collected (map Ok xs) ≡ Ok xs
  collected-all [] = refl
  collected-all (x ∷ xs) = rw (collected-all xs)

  pub collected-stop : (xs : List A) (r : Refusal) (ts : List (Result A Refusal)) → collected (map Ok xs ++ (Err r ∷ ts)) ≡ Err r
  collected-stop [] r ts = refl
  collected-stop (x ∷ xs) r ts = rw (collected-stop xs r ts)

  -- as far as i, the list ts is xs
  module _ (ts : List (Result A Refusal)) (xs : List A) (i : ℕ) (so_far : take i ts ≡ map Ok (take i xs)) (h : i < length ts)
      (d : Result A Refusal) where
    pub read-more : (x : A) → i < length xs → get_or ts i d ≡ Ok x → take (i + 1) ts ≡ map Ok (take (i + 1) (set xs i x))
    read-more x l e =
        rw (add-one, take-suc-set xs i x l, map-append) (take-suc ts i d h ∙ rw (so_far, e))

    pub read-stop : (r : Refusal) → get_or ts i d ≡ Err r → collected ts ≡ Err r
    read-stop r e =
        let cut : ts ≡ map Ok (take i xs) ++ (Err r ∷ drop (suc i) ts) =
        sym (take-append-drop i ts) ∙ rw (so_far, drop-cons ts i d h, e) in
        ap collected cut ∙ collected-stop (take i xs) r (drop (suc i) ts)

pub read-end : {A : Type 0} (ts : List (Result A Refusal)) (xs : List A) (i : ℕ) → take i ts ≡ map Ok (take i xs) → length ts ≤ i
    → length xs ≤ i
    → Ok xs ≡ collected ts
read-end ts xs i e h l = sym (collected-all xs) ∙ ap collected (ap (map Ok) (sym (take_all i xs l)) ∙ sym e ∙ take_all i ts h)

-- what a list is that comes to its values; and the refusal of one that comes to a refusal
pub all-collected : {A : Type 0} (ts : List (Result A Refusal)) (xs : List A) → collected ts ≡ Ok xs → ts ≡ map Ok xs
all-collected [] xs e = let q : xs ≡ [] = cc in rw q
all-collected {A} (Ok x ∷ ts) xs e = go (collected ts) (all-collected ts) e
  where
    go : (r : Result (List A) Refusal) → ((ys : List A) → r ≡ Ok ys → ts ≡ map Ok ys)
        → result_map_both {D = Refusal} (λ ys. x ∷ ys) (λ q. q) r ≡ Ok xs → Ok x ∷ ts ≡ map Ok xs
    go (Ok ys) h u = let v : xs ≡ x ∷ ys = cc in rw (v, h ys refl)
    go (Err q) h u = absurd cc
all-collected (Err r ∷ ts) xs e = absurd cc

pub stop-collected : {A : Type 0} (ts : List (Result A Refusal)) (r : Refusal) → collected ts ≡ Err r
    → sent.first (map (λ (t : Result A Refusal). result_err t) ts) ≡ Some r
stop-collected [] r e = absurd cc
stop-collected {A} (Ok x ∷ ts) r e = stop-collected ts r (go (collected ts) e)
  where
    go : (o : Result (List A) Refusal) → result_map_both {D = Refusal} (λ ys. x ∷ ys) (λ q. q) o ≡ Err r → o ≡ Err r
    go (Ok ys) u = absurd cc
    go (Err q) u = let v : q ≡ r = cc in rw v
stop-collected (Err q ∷ ts) r e = let v : q ≡ r = cc in rw v

-- of a list of which none is refused
module _ {A : Type 0} where
  none-sent : (xs : List A) → sent.first (map (λ (t : Result A Refusal). result_err t) (map Ok xs)) ≡ None
  none-sent [] = refl
  none-sent (x ∷ xs) = none-sent xs

numbers-read : {B : Type 0} (g : Finding ℕ → B) (d : B) (xs : List (Finding ℕ)) → map (read_as g d) (map Ok xs) ≡ map g xs
numbers-read g d [] = refl
numbers-read g d (x ∷ xs) = ap (λ (ys : List _). g x ∷ ys) (numbers-read g d xs)

count-read : (g : Finding ℕ → Bool) (d : Bool) (xs : List (Finding ℕ)) → count_by (read_as g d) (map Ok xs) ≡ count_by g xs
count-read g d [] = refl
count-read g d (x ∷ xs) =
    sum_by-cons _ (Ok x) (map Ok xs) ∙ ap (λ (n : ℕ). cond (g x) 1 0 + n) (count-read g d xs) ∙ sym (sum_by-cons _ x xs)

-- ---- ceilings

columns-within : (g : Reading → ℕ) → ((scale ceiling : ℕ) (x : Finding Float) → g (reading_of scale ceiling x) ≤ ceiling)
    → (scs cs : List ℕ) (xs : List (Finding Float)) → within cs (map g (map (λ p. reading_of p.0.0 p.0.1 p.1) (zip (zip scs cs) xs))) ≡ true
unfolding within
columns-within g h [] cs xs = refl
columns-within g h (a ∷ scs) [] xs = refl
columns-within g h (a ∷ scs) (c ∷ cs) [] = refl
columns-within g h (a ∷ scs) (c ∷ cs) (x ∷ xs) = rw (le-leb (g (reading_of a c x)) c (h a c x)) (columns-within g h scs cs xs)

pub counts-within : CountsWithinLaw
unfolding readings
counts-within s = columns-within (read_as count 0) count-le scales asm1_ceilings s

limits-within : (s : List (Finding Float)) → within asm1_ceilings (limits_of s) ≡ true
unfolding readings
limits-within s = columns-within (read_as limit 0) limit-le scales asm1_ceilings s

-- ---- the call

-- the totals, as they are added up
pub unseen-added : (v : List ℕ) (n : ℕ) {all : Milligrams} → all.0 ≡ asm1_cod v + asm1_oxygen v
    → record { milligrams = all; ticks = (unseen_by v n).ticks; millimoles = (unseen_by v n).millimoles; unsampled = n } ≡ unseen_by v n
unfolding unseen_by
unseen-added v n e =
    ap (λ (m : ℕ). record
    { milligrams = milligrams m; ticks = (unseen_by v n).ticks; millimoles = (unseen_by v n).millimoles; unsampled = n }) e

-- by the readings of a sheet
module _ (s : List (Finding Float)) (xs : List (Finding ℕ)) (e : Ok xs ≡ sheet_readings s) where
  all-read : readings s ≡ map Ok xs
  all-read = all-collected (readings s) xs (sym e)

  pub limits-below : Below asm1_ceilings (map limit xs)
  limits-below =
      within-below asm1_ceilings (map limit xs)
      (ap (within asm1_ceilings) (sym (ap (map (read_as limit 0)) all-read ∙ numbers-read limit 0 xs)) ∙ limits-within s)

  pub sheet-received : (p : Plant) {u : Unseen} {o : Outcome} {r : SheetOutcome}
      → u ≡ unseen_by (map limit xs) (count_by missing xs) → o ≡ step p (receiving (map count xs)) → r ≡ sheet_received u o
      → r ≡ sheet_step p s
  unfolding sheet_step
  sheet-received p {u} {o} {r} a b c =
      let none : refusal_in s ≡ None = ap (λ (ts : List Reading). sent.first (map (λ (t : Reading). result_err t) ts)) all-read
      ∙ none-sent xs in
      let counts : counts_of s ≡ map count xs = ap (map (read_as count 0)) all-read ∙ numbers-read count 0 xs in
      let limits : limits_of s ≡ map limit xs = ap (map (read_as limit 0)) all-read ∙ numbers-read limit 0 xs in
      let gone : not_sampled s ≡ count_by missing xs = ap (count_by (read_as missing false)) all-read ∙ count-read missing false xs in
      c ∙ (λ i. sheet_received (a i) (b i))
      ∙ (λ i. sheet_received (unseen_by (sym limits i) (sym gone i)) (step p (receiving (sym counts i))))
      ∙ ap (λ (q : Option Refusal). sheet_by q p s) (sym none)

pub sheet-turned : (s : List (Finding Float)) (q : Refusal) → Err q ≡ sheet_readings s → (p : Plant)
    → sheet_refused p q ≡ sheet_step p s
unfolding sheet_step
sheet-turned s q e p = ap (λ (o : Option Refusal). sheet_by o p s) (sym (stop-collected (readings s) q (sym e)))

-- ---- the claims on the call

-- a test that gives nothing, behind another
skipped : (t : Option Refusal) (ts : List (Option Refusal)) → sent.first (t ∷ None ∷ ts) ≡ sent.first (t ∷ ts)
skipped None ts = refl
skipped (Some r) ts = refl

-- the refusal of a receive of a sheet's counts: its 3 never applies
receive-tests : (p : Plant) (s : List (Finding Float)) → refused_with (step p (receiving (counts_of s))).answer
    ≡ sent.first
    (record_refusal p ∷ sent.unless (within asm1_ceilings (added p.sludge (counts_of s))) TankAbove ∷ [])
unfolding receive
receive-tests p s =
    sent-first p (receiving (counts_of s))
    ∙ rw (counts-within s)
    (skipped (record_refusal p) (sent.unless (within asm1_ceilings (added p.sludge (counts_of s))) TankAbove ∷ []))

told-err : {A : Type 0} (o : Option Refusal) (x : A) → result_err (sent.decide o x) ≡ o
told-err None x = refl
told-err (Some r) x = refl

-- by the refusal in the sheet
module _ (p : Plant) (s : List (Finding Float)) where
  sheet-case : (P : SheetOutcome → Type 0)
      → (refusal_in s ≡ None → P (sheet_received (unseen_of s) (step p (receiving (counts_of s)))))
      → ((r : Refusal) → refusal_in s ≡ Some r → P (sheet_refused p r)) → P (sheet_step p s)
  unfolding sheet_step
  sheet-case P g h = go (refusal_in s) refl
    where
      go : (o : Option Refusal) → refusal_in s ≡ o → P (sheet_by o p s)
      go None e = g e
      go (Some r) e = h r e

  pub sheet-plant : (sheet_step p s).plant ≡ cond (is_none (refusal_in s)) (step p (receiving (counts_of s))).plant p
  sheet-plant =
      sheet-case (λ r. r.plant ≡ cond (is_none (refusal_in s)) (step p (receiving (counts_of s))).plant p)
      (λ e. rw e)
      (λ r e. rw e)

-- a sheet, refused or not, returns the figures that it was handed
pub sheet-figures : (p : Plant) (s : List (Finding Float)) → (sheet_step p s).plant.figures ≡ p.figures
sheet-figures p s =
    sheet-case p s (λ r. r.plant.figures ≡ p.figures)
    (λ e. figures-kept p (receiving (counts_of s)))
    (λ r e. refl)

pub sheet-tests : SheetTestsLaw
sheet-tests p s =
    let ts = record_refusal p ∷ sent.unless (within asm1_ceilings (added p.sludge (counts_of s))) TankAbove ∷ [] in
    sheet-case p s (λ r. result_err r.told ≡ sent.first (refusal_in s ∷ ts))
    (λ e. told-err (refused_with (step p (receiving (counts_of s))).answer) (unseen_of s) ∙ receive-tests p s ∙ rw e refl)
    (λ r e. rw e)

-- a receive gives its refusal and the record back, or adds
module _ (p : Plant) (v : List ℕ) (u : Unseen) where
  receive-refused : (r : Refusal) → let o = step p (receiving v) in (sheet_received u o).told ≡ Err r
      → sheet_received u o ≡ sheet_refused p r
  unfolding step_by ruled receive
  receive-refused r =
      let rule = receive p v in
      decide-case (λ (o : Outcome). (sheet_received u o).told ≡ Err r → sheet_received u o ≡ sheet_refused p r) p (sent.first rule.tests)
      rule.done
      (λ e h. absurd (cc h))
      (λ q e h. let w : q ≡ r = cc h in rw w refl)

  receive-adds : (w : Unseen) → let o = step p (receiving v) in (sheet_received u o).told ≡ Ok w
      → sheet_received u o
      ≡ record { told = Ok u; plant = record { sludge = added p.sludge v; digester = p.digester; reject = p.reject; figures = p.figures } }
  unfolding step_by ruled receive
  receive-adds w =
      let rule = receive p v in
      let q : Plant = record { sludge = added p.sludge v; digester = p.digester; reject = p.reject; figures = p.figures } in
      decide-case (λ (o : Outcome). (sheet_received u o).told ≡ Ok w → sheet_received u o ≡ record { told = Ok u; plant = q }) p
      (sent.first rule.tests) rule.done
      (λ e h. refl)
      (λ r e h. absurd (cc h))

pub sheet-refused : SheetRefusedLaw
sheet-refused p s r =
    sheet-case p s (λ o. o.told ≡ Err r → o ≡ sheet_refused p r)
    (λ e h. receive-refused p (counts_of s) (unseen_of s) r h)
    (λ q e h. let v : q ≡ r = cc in rw v)

pub sheet-adds : SheetAddsLaw
sheet-adds p s u =
    let q : Plant = record { sludge = added p.sludge (counts_of s); digester = p.digester; reject = p.reject; figures = p.figures } in
    sheet-case p s (λ o. o.told ≡ Ok u → o ≡ record { told = Ok (unseen_of s); plant = q })
    (λ e h. receive-adds p (counts_of s) (unseen_of s) u h)
    (λ r e h. absurd cc)
