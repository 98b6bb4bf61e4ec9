-- The text of a call: it is read as the call, names no zero column, and is one line of at most 1,024 bytes. Assumes nothing.
--
--   fields-length, call_length, entry-length   TextLengthLaw
--   firsts, sludge-is, digester-is             a vector by its columns
--   word-receive, own-number, fields-rest      the parts of a text
--   inner-around, text-call, text-line         a text in brackets
--   call-read, entry-read                      TextReadLaw
--   asked-gives, entry-gives                   TextGivesLaw
--   call-no-zero, entry-no-zero                TextNoZeroLaw
--   call-one, entry-one                        TextLineLaw
use mathlib.Core.Bool.{Bool, true, false, cond}
use mathlib.Core.List.{List, [], ◌∷◌, ◌++◌, append-nil}
use mathlib.Core.Path.{◌≡◌, refl, sym, ap, ap₂, ◌∙◌}
use Prim.Native.Nat.{ℕ, zero, suc, ◌+◌, ◌-◌, ◌*◌, ◌≤◌}
use native.Mathlib.Omega.{arith}
use lib.Dec.{eqb}
use lib.ListN.{length, take, get_or, replicate, length-append}
use borrow.Author.Tests.{le-ltb}
use lib.Seq.{take_at, drop_at, ext_get_or}
use Rattle.vectors.specs.Columns.{asm1, asm1_columns}
use Rattle.vectors.specs.Units.{milligrams, ticks}
use Rattle.std.proofs.lemmas.Bool.{and_parts}
use Rattle.refusals.specs.declared.Refusal.TheVariants.{ShortBuffer}
use Rattle.plant.specs.declared.record.Plant.{Plant}
use Rattle.plant.specs.declared.answer.Call.{Call}
use Rattle.plant.specs.declared.answer.Call.TheVariants.{Receive, Feed, Settle, Return, Release, Recycle, Draw, Accept}
use Rattle.plant.specs.Answer.{refused}
use Rattle.plant.specs.declared.answer.Request.{Request}
use Rattle.plant.specs.declared.answer.Outcome.{Outcome}
use Rattle.plant.specs.Calls.{step_by, step, preview_of, outcome_by, request, receiving, settling, accepting}
use Rattle.std.proofs.Common.{Some}
use Rattle.reading.specs.declared.names.Vector.TheVariants.{Sludge, Digester}
use Rattle.reading.specs.declared.fields.Fields.{Fields}
use Rattle.reading.specs.Text.{ascii, same_bytes, look_up, up_to, behind, one_line}
use Rattle.reading.specs.Number.{largest, decimal, read_number}
use Rattle.reading.specs.Names.{names_of}
use Rattle.reading.specs.Form.{line_of, read_fields, receive_line, settle_line, accept_line, number_line, paired, numbered_by}
use Rattle.reading.specs.Form.{fields_part, form_of, form_by}
use Rattle.reading.specs.Line.{inner, call_by, is_preview, form_in, preview_line, read_line, bracketed, preview_text, form_passes}
use Rattle.reading.specs.Line.{call_passes}
use Rattle.reading.proofs.Laws.Line.{call-form, preview-word, line-call, brackets-around, form-around, preview-around, preview-form-law}
use Rattle.writing.specs.Answer.{labelled, column_text, column_or_none, columns_from}
use Rattle.writing.proofs.Laws.Decimal.{decimal-length}
use Rattle.writing.proofs.Laws.OneLine.{One, one-append, one-labelled, one-columns, all_one}
use Rattle.lines.specs.Asking.{form_outcome, line_outcome}
use Rattle.composing.specs.Line.{entry_text, fields_from, fields_text, call_text, asked_by}
use Rattle.composing.specs.Line.{Columns, own_number, TextReadLaw, TextGivesLaw}
use Rattle.composing.specs.Line.{fields_no_zero, TextNoZeroLaw, TextLengthLaw, TextLineLaw}
use Rattle.composing.proofs.Laws.Number.{decimal-read}
use Rattle.composing.proofs.Laws.Read.{plain-sludge, plain-digester, clear, all_clear, clear-lacks, up_to-past, lacks-decimal}
use Rattle.composing.proofs.Laws.Read.{Holds, Filled, fields_read, fields-no-zero, fields-start}

-- ---- what stands inside the brackets

abbrev receive_inner : List ℕ → List ℕ
receive_inner v = ascii "receive" ++ fields_text (names_of Sludge) v

abbrev numbered_inner : List ℕ → ℕ → List (List ℕ) → List ℕ → List ℕ
numbered_inner label n names v = labelled label n ++ fields_text names v

-- ---- lengths

column-length : (name : List ℕ) (n : ℕ) → length name ≤ 4 → length (column_text name n) ≤ 28
unfolding column_text
column-length name n h =
    omega (
      arith,
      decimal-length n,
      length-append name (labelled (ascii " ") n ++ ascii ")"),
      length-append (decimal n) (ascii ")"),
    )

fields-length : (c : ℕ) (ns : List (List ℕ)) (v : List ℕ) → all_clear ns ≡ true → length (fields_from c ns v) ≤ 28 * length ns
unfolding columns_from column_or_none all_clear
fields-length c [] v e = omega arith
fields-length c (x ∷ ns) v e =
    let t = and_parts (clear x) (all_clear ns) e in
    go (eqb (get_or v c 0) 0) (clear-lacks x t.0).2 (fields-length (c + 1) ns v t.1)
  where
    rest : List ℕ
    rest = fields_from (c + 1) ns v

    go : (b : Bool) → length x ≤ 4 → length rest ≤ 28 * length ns
        → length (cond b [] (column_text x (get_or v c 0)) ++ rest) ≤ 28 * length (x ∷ ns)
    go true h l = omega arith
    go false h l = omega (arith, column-length x (get_or v c 0) h, length-append (column_text x (get_or v c 0)) rest)

bracketed-length : (t : List ℕ) → length (bracketed t) ≡ length t + 2
bracketed-length t = omega (arith, length-append t (41 ∷ []))

labelled-length : (label : List ℕ) (n : ℕ) → length (labelled label n) ≤ length label + 20
labelled-length label n = omega (arith, length-append label (decimal n), decimal-length n)

numbered-length : (label : List ℕ) (n : ℕ) (names : List (List ℕ)) (v : List ℕ) → length label ≤ 10 → length names ≤ 26
    → all_clear names ≡ true → length (bracketed (numbered_inner label n names v)) ≤ 1014
numbered-length label n names v h few clear =
    omega (
      arith,
      bracketed-length (numbered_inner label n names v),
      length-append (labelled label n) (fields_text names v),
      labelled-length label n,
      fields-length 0 names v clear,
    )

number-length : (label : List ℕ) (n : ℕ) → length label ≤ 10 → length (bracketed (labelled label n)) ≤ 1014
number-length label n h = omega (arith, bracketed-length (labelled label n), labelled-length label n)

call_length : (call : Call) (v d : List ℕ) → length (call_text call v d) ≤ 1014
call_length Receive v d =
    omega (arith, bracketed-length (receive_inner v), fields-length 0 (names_of Sludge) v plain-sludge.cleared)
call_length (Feed k) v d = number-length (ascii "feed ") k (omega arith)
call_length (Settle g) v d =
    numbered-length (ascii "settle ") g.0 (names_of Digester) d (omega arith) (omega arith) plain-digester.cleared
call_length (Return k) v d = number-length (ascii "return ") k (omega arith)
call_length (Release k) v d = number-length (ascii "release ") k (omega arith)
call_length (Recycle k) v d = number-length (ascii "recycle ") k (omega arith)
call_length (Draw k) v d = number-length (ascii "draw ") k (omega arith)
call_length (Accept n) v d =
    numbered-length (ascii "accept ") n.0 (names_of Sludge) v (omega arith) (omega arith) plain-sludge.cleared

pub entry-length : TextLengthLaw
entry-length b r = go b
  where
    t : List ℕ
    t = call_text r.call r.sludge r.digester

    h : length t ≤ 1014
    h = call_length r.call r.sludge r.digester

    go : (b : Bool) → length (cond b (preview_text t) t) ≤ 1024
    go true = omega (arith, h, bracketed-length (ascii "preview " ++ t))
    go false = omega (arith, h)

-- ---- a vector by its columns

-- the first n numbers that g gives
abbrev firsts : ℕ → (ℕ → ℕ) → List ℕ
firsts zero g = []
firsts (suc n) g = g 0 ∷ firsts n (λ i. g (suc i))

firsts-is : (n : ℕ) (v : List ℕ) → length v ≡ n → firsts n (λ i. get_or v i 0) ≡ v
firsts-is zero [] h = refl
firsts-is zero (k ∷ v) h = absurd (omega arith)
firsts-is (suc n) [] h = absurd (omega arith)
firsts-is (suc n) (k ∷ v) h = ap (λ (l : List ℕ). k ∷ l) (firsts-is n v (omega arith))

sludge-is : (v : List ℕ) (f : Fields) → length v ≡ 13 → Holds v f → asm1_columns (asm1 f.columns) ≡ v
sludge-is v f h holds =
    let same : firsts 13 (λ j. get_or f.columns j 0) ≡ firsts 13 (λ j. get_or v j 0) = (λ i. firsts 13 (λ j. holds.all j i)) in
    same ∙ firsts-is 13 v h

digester-is : (d : List ℕ) (f : Fields) → length d ≡ 26 → Holds d f → f.columns ≡ d
digester-is d f h holds = ext_get_or 0 f.columns d (holds.size ∙ sym h) (λ j l. holds.all j)

-- ---- a text in brackets

inner-around : (t : List ℕ) → inner (bracketed t) ≡ t
inner-around t = take_at t (41 ∷ []) (length (bracketed t) - 1 - 1) (omega (arith, length-append t (41 ∷ [])))

text-call : (t : List ℕ) → length (bracketed t) ≤ 1024 → call_by read_fields (bracketed t) ≡ form_by read_fields t
text-call t h = sym (call-form (bracketed t) (brackets-around t h)) ∙ ap (form_by read_fields) (inner-around t)

-- its word is not preview
abbrev Other : List ℕ → Type 0
Other t = same_bytes (take 9 (bracketed t)) (ascii "(preview ") ≡ false

text-line : (t : List ℕ) → length (bracketed t) ≤ 1014 → Other t → read_line (bracketed t) ≡ form_by read_fields t
text-line t h e = sym (line-call (bracketed t) (sym (preview-word (bracketed t) e))) ∙ text-call t (omega arith)

-- ---- the parts of a text

word-receive : (x : List ℕ) → up_to 32 x ≡ [] → up_to 32 (ascii "receive" ++ x) ≡ ascii "receive"
unfolding up_to
word-receive x e = ap (λ (y : List ℕ). ascii "receive" ++ y) e

-- a call's own number, and what stands behind it
module _ (g : ℕ) (x : List ℕ) (e : up_to 32 x ≡ []) where
  own-number : up_to 32 (decimal g ++ x) ≡ decimal g
  own-number =
      up_to-past 32 (decimal g) x (lacks-decimal 32 g (omega arith)) ∙ ap (λ (y : List ℕ). decimal g ++ y) e ∙ append-nil (decimal g)

  fields-rest : fields_part (decimal g ++ x) ≡ x
  fields-rest = drop_at (decimal g) x (length (up_to 32 (decimal g ++ x))) (ap length (sym own-number))

-- ---- reading a call

receive-read : (v : List ℕ) → Columns 13 v → form_by read_fields (receive_inner v) ≡ asked_by false Receive v []
unfolding form_of same_bytes
receive-read v h =
    let x = fields_text (names_of Sludge) v in
    let filled = fields_read (names_of Sludge) plain-sludge v (omega (arith, h.0)) h.1 in
    ap (λ (w : List ℕ). form_of read_fields w (ascii "receive" ++ x)) (word-receive x (fields-start 0 (names_of Sludge) v))
    ∙ ap receive_line filled.read
    ∙ ap (λ (w : List ℕ). line_of Receive false w (replicate 26 0)) (sludge-is v filled.fields h.0 filled.holds)

-- a number and the columns v, which are read as the fields f
numbered-read : (names : List (List ℕ)) (v : List ℕ) (g : ℕ) → g ≤ largest → (f : Filled v (read_fields names (fields_text names v)))
    → numbered_by read_fields names (decimal g ++ fields_text names v) ≡ Some (g, f.fields)
unfolding numbered_by
numbered-read names v g l f =
    let x = fields_text names v in
    let start = fields-start 0 names v in
    ap₂ (λ (a b : List ℕ). paired (read_number a) (read_fields names b)) (own-number g x start) (fields-rest g x start)
    ∙ ap₂ paired (decimal-read g l) f.read

settle_read : (g : ℕ) (d : List ℕ) → g ≤ largest → Columns 26 d
    → form_by read_fields (numbered_inner (ascii "settle ") g (names_of Digester) d) ≡ asked_by false (Settle (milligrams g)) [] d
unfolding form_of same_bytes up_to behind
settle_read g d l h =
    let filled = fields_read (names_of Digester) plain-digester d (omega (arith, h.0)) h.1 in
    ap settle_line (numbered-read (names_of Digester) d g l filled)
    ∙ ap (λ (w : List ℕ). line_of (Settle (milligrams g)) false (replicate 13 0) w) (digester-is d filled.fields h.0 filled.holds)

accept_read : (n : ℕ) (v : List ℕ) → n ≤ largest → Columns 13 v
    → form_by read_fields (numbered_inner (ascii "accept ") n (names_of Sludge) v) ≡ asked_by false (Accept (ticks n)) v []
unfolding form_of same_bytes up_to behind
accept_read n v l h =
    let filled = fields_read (names_of Sludge) plain-sludge v (omega (arith, h.0)) h.1 in
    ap accept_line (numbered-read (names_of Sludge) v n l filled)
    ∙ ap (λ (w : List ℕ). line_of (Accept (ticks n)) false w (replicate 26 0)) (sludge-is v filled.fields h.0 filled.holds)

-- the word of a call with its number alone
number_read : (w : List ℕ) (k : ℕ) → k ≤ largest → number_line w (read_number (decimal k)) ≡ number_line w (Some k)
number_read w k h = ap (number_line w) (decimal-read k h)

call-read : (call : Call) (v d : List ℕ) → own_number call ≤ largest → Columns 13 v → Columns 26 d
    → read_line (call_text call v d) ≡ asked_by false call v d
unfolding same_bytes up_to behind form_of look_up
call-read Receive v d n h k = text-line (receive_inner v) (call_length Receive v d) refl ∙ receive-read v h
call-read (Feed m) v d n h k =
    text-line (labelled (ascii "feed ") m) (call_length (Feed m) v d) refl ∙ number_read (ascii "feed") m n
call-read (Settle g) v d n h k =
    text-line (numbered_inner (ascii "settle ") g.0 (names_of Digester) d) (call_length (Settle g) v d) refl ∙ settle_read g.0 d n k
call-read (Return m) v d n h k =
    text-line (labelled (ascii "return ") m) (call_length (Return m) v d) refl ∙ number_read (ascii "return") m n
call-read (Release m) v d n h k =
    text-line (labelled (ascii "release ") m) (call_length (Release m) v d) refl ∙ number_read (ascii "release") m n
call-read (Recycle m) v d n h k =
    text-line (labelled (ascii "recycle ") m) (call_length (Recycle m) v d) refl ∙ number_read (ascii "recycle") m n
call-read (Draw m) v d n h k =
    text-line (labelled (ascii "draw ") m) (call_length (Draw m) v d) refl ∙ number_read (ascii "draw") m n
call-read (Accept m) v d n h k =
    text-line (numbered_inner (ascii "accept ") m.0 (names_of Sludge) v) (call_length (Accept m) v d) refl ∙ accept_read m.0 v n h

-- a preview of what was asked
preview-asked : (call : Call) (v d : List ℕ) → preview_line (asked_by false call v d) ≡ asked_by true call v d
preview-asked Receive v d = refl
preview-asked (Feed k) v d = refl
preview-asked (Settle g) v d = refl
preview-asked (Return k) v d = refl
preview-asked (Release k) v d = refl
preview-asked (Recycle k) v d = refl
preview-asked (Draw k) v d = refl
preview-asked (Accept n) v d = refl

pub entry-read : TextReadLaw
entry-read true r h =
    preview-form-law (call_text r.call r.sludge r.digester) (entry-length true r)
    ∙ ap preview_line (call-read r.call r.sludge r.digester h.number h.sludge h.digester)
    ∙ preview-asked r.call r.sludge r.digester
entry-read false r h = call-read r.call r.sludge r.digester h.number h.sludge h.digester

-- ---- what the line gives

-- a call, or its preview, by what its step gives
entry-same : (p : Plant) (b : Bool) (r s : Request) → step p r ≡ step p s
    → outcome_by p b r ≡ outcome_by p b s
unfolding preview_of
entry-same p true r s e = ap (λ (o : Outcome). record { answer = o.answer; vector = o.vector; plant = p }) e
entry-same p false r s e = e

-- no call looks at the vector that it does not take
asked-gives : (p : Plant) (b : Bool) (call : Call) (v d : List ℕ)
    → form_outcome p (asked_by b call v d) ≡ outcome_by p b (record { call = call; sludge = v; digester = d })
unfolding step_by
asked-gives p b Receive v d = entry-same p b (receiving v) _ refl
asked-gives p b (Feed k) v d = entry-same p b (request (Feed k)) _ refl
asked-gives p b (Settle g) v d = entry-same p b (settling g d) _ refl
asked-gives p b (Return k) v d = entry-same p b (request (Return k)) _ refl
asked-gives p b (Release k) v d = entry-same p b (request (Release k)) _ refl
asked-gives p b (Recycle k) v d = entry-same p b (request (Recycle k)) _ refl
asked-gives p b (Draw k) v d = entry-same p b (request (Draw k)) _ refl
asked-gives p b (Accept n) v d = entry-same p b (accepting v n) _ refl

pub entry-gives : TextGivesLaw
unfolding line_outcome
entry-gives m p b r h l =
    ap (λ (t : Bool). cond t (refused p ShortBuffer) (form_outcome p (read_line (entry_text b r)))) (le-ltb m 512 l)
    ∙ ap (form_outcome p) (entry-read b r h)
    ∙ asked-gives p b r.call r.sludge r.digester

-- ---- no zero column is named

receive-no-zero : (v : List ℕ) → Columns 13 v
    → form_passes fields_no_zero (up_to 32 (receive_inner v)) (receive_inner v) ≡ true
unfolding form_passes same_bytes
receive-no-zero v h =
    let x = fields_text (names_of Sludge) v in
    ap (λ (w : List ℕ). form_passes fields_no_zero w (ascii "receive" ++ x)) (word-receive x (fields-start 0 (names_of Sludge) v))
    ∙ fields-no-zero (names_of Sludge) plain-sludge v (omega (arith, h.0)) h.1

numbered-no-zero : (names : List (List ℕ)) (v : List ℕ) (g : ℕ) → fields_no_zero names (fields_text names v) ≡ true
    → fields_no_zero names (fields_part (decimal g ++ fields_text names v)) ≡ true
numbered-no-zero names v g h = ap (fields_no_zero names) (fields-rest g (fields_text names v) (fields-start 0 names v)) ∙ h

-- inside the brackets
text-passes : (t : List ℕ) → form_passes fields_no_zero (up_to 32 t) t ≡ true → call_passes fields_no_zero (bracketed t) ≡ true
text-passes t e = ap (λ (x : List ℕ). form_passes fields_no_zero (up_to 32 x) x) (inner-around t) ∙ e

call-no-zero : (call : Call) (v d : List ℕ) → Columns 13 v → Columns 26 d → call_passes fields_no_zero (call_text call v d) ≡ true
unfolding form_passes same_bytes up_to behind
call-no-zero Receive v d h k = text-passes (receive_inner v) (receive-no-zero v h)
call-no-zero (Feed m) v d h k = text-passes (labelled (ascii "feed ") m) refl
call-no-zero (Settle g) v d h k =
    text-passes (numbered_inner (ascii "settle ") g.0 (names_of Digester) d)
    (numbered-no-zero (names_of Digester) d g.0 (fields-no-zero (names_of Digester) plain-digester d (omega (arith, k.0)) k.1))
call-no-zero (Return m) v d h k = text-passes (labelled (ascii "return ") m) refl
call-no-zero (Release m) v d h k = text-passes (labelled (ascii "release ") m) refl
call-no-zero (Recycle m) v d h k = text-passes (labelled (ascii "recycle ") m) refl
call-no-zero (Draw m) v d h k = text-passes (labelled (ascii "draw ") m) refl
call-no-zero (Accept m) v d h k =
    text-passes (numbered_inner (ascii "accept ") m.0 (names_of Sludge) v)
    (numbered-no-zero (names_of Sludge) v m.0 (fields-no-zero (names_of Sludge) plain-sludge v (omega (arith, h.0)) h.1))

-- a call's text is no preview
call-other : (call : Call) (v d : List ℕ) → is_preview (call_text call v d) ≡ false
unfolding same_bytes
call-other Receive v d = sym (preview-word _ refl)
call-other (Feed k) v d = sym (preview-word _ refl)
call-other (Settle g) v d = sym (preview-word _ refl)
call-other (Return k) v d = sym (preview-word _ refl)
call-other (Release k) v d = sym (preview-word _ refl)
call-other (Recycle k) v d = sym (preview-word _ refl)
call-other (Draw k) v d = sym (preview-word _ refl)
call-other (Accept n) v d = sym (preview-word _ refl)

pub entry-no-zero : TextNoZeroLaw
entry-no-zero true r h =
    let t = call_text r.call r.sludge r.digester in
    ap (λ (b : Bool). cond b (call_passes fields_no_zero (form_in (preview_text t))) (call_passes fields_no_zero (preview_text t)))
    (preview-around t (entry-length true r))
    ∙ ap (call_passes fields_no_zero) (form-around t)
    ∙ call-no-zero r.call r.sludge r.digester h.sludge h.digester
entry-no-zero false r h =
    let t = call_text r.call r.sludge r.digester in
    ap (λ (b : Bool). cond b (call_passes fields_no_zero (form_in t)) (call_passes fields_no_zero t))
    (call-other r.call r.sludge r.digester)
    ∙ call-no-zero r.call r.sludge r.digester h.sludge h.digester

-- ---- one line

one-bracketed : (t : List ℕ) → One t → One (bracketed t)
unfolding one_line
one-bracketed t h = one-append (40 ∷ t) (41 ∷ []) h refl

one-numbered : (label : List ℕ) (n : ℕ) (names : List (List ℕ)) (v : List ℕ) → One label → all_one names ≡ true
    → One (bracketed (numbered_inner label n names v))
one-numbered label n names v h ns =
    one-bracketed (numbered_inner label n names v)
    (one-append (labelled label n) (fields_text names v) (one-labelled label n h) (one-columns false 0 names v ns))

call-one : (call : Call) (v d : List ℕ) → One (call_text call v d)
unfolding one_line all_one
call-one Receive v d =
    one-bracketed (receive_inner v)
    (one-append (ascii "receive") (fields_text (names_of Sludge) v) refl (one-columns false 0 (names_of Sludge) v refl))
call-one (Feed k) v d = one-bracketed (labelled (ascii "feed ") k) (one-labelled (ascii "feed ") k refl)
call-one (Settle g) v d = one-numbered (ascii "settle ") g.0 (names_of Digester) d refl refl
call-one (Return k) v d = one-bracketed (labelled (ascii "return ") k) (one-labelled (ascii "return ") k refl)
call-one (Release k) v d = one-bracketed (labelled (ascii "release ") k) (one-labelled (ascii "release ") k refl)
call-one (Recycle k) v d = one-bracketed (labelled (ascii "recycle ") k) (one-labelled (ascii "recycle ") k refl)
call-one (Draw k) v d = one-bracketed (labelled (ascii "draw ") k) (one-labelled (ascii "draw ") k refl)
call-one (Accept n) v d = one-numbered (ascii "accept ") n.0 (names_of Sludge) v refl refl

pub entry-one : TextLineLaw
unfolding one_line
entry-one true r =
    let t = call_text r.call r.sludge r.digester in
    one-bracketed (ascii "preview " ++ t) (one-append (ascii "preview ") t refl (call-one r.call r.sludge r.digester))
entry-one false r = call-one r.call r.sludge r.digester
