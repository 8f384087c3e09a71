-- Which fault a reader of segments answers, and that the text of a segment has none.
use Rattle.std.proofs.Common.{◌≡◌, ℕ, ◌<◌, ◌≤◌, true, false, List, [], ◌∷◌, ◌++◌, length, drop}
use Rattle.std.proofs.Common.{Some, None, inl, inr, refl, sym, ap, ◌∙◌, append_assoc, arith}
use Rattle.std.specs.List.{AllByRecursion}
use Rattle.std.proofs.lemmas.List.{length-append, length-drop, append-nil, take-append-drop}
use Rattle.entry.specs.declared.entry.Entry.{Entry}
use Rattle.entry.specs.declared.fault.EntryFault.{EntryFault}
use Rattle.entry.specs.Format.{spelling, IsEntry, Begins, first_fault}
use Rattle.entry.specs.Text.{text_of, is_whole, IsTextOf}
use Rattle.entry.proofs.ListLemmas.{all_split}
use Rattle.entry.proofs.TextLemmas.{spelling-some}
use Rattle.entry.proofs.Passing.{passes}
use Rattle.segment.specs.declared.expected.Expected.{Expected}
use Rattle.segment.specs.declared.fault.SegmentFault.{SegmentFault}
use Rattle.segment.specs.declared.fault.SegmentFault.TheVariants.{BadEntry, BadOrder, TooLong, NoMemory}
use Rattle.segment.specs.Order.{completes}
use Rattle.segment.specs.Faults.{StandBefore, IsMisplaced, EndsEarly, IsBadOrder, IsBadEntry, IsSegmentFault}
use Rattle.segment.specs.Walk.{IsWalked}
use Rattle.segment.proofs.RowLemmas.{IsFront, IsFront-from_text}
use Rattle.segment.proofs.OrderLemmas.{not_beginning, is_whole-expects}

-- ---- what the reader met

pub IsBadEntry-walked : (bytes : List ℕ) (at : ℕ) (x : Expected) (f : EntryFault) → IsWalked bytes at x
    → at < length bytes → first_fault (drop at bytes) ≡ Some f → IsBadEntry bytes at
IsBadEntry-walked bytes at x f (before, stand, expects) more fault = (before, stand, (more, (f, fault)))

pub IsBadOrder-misplaced : (bytes : List ℕ) (at : ℕ) (x : Expected) (e : Entry) (n : ℕ) → IsWalked bytes at x
    → Begins (drop at bytes) e n
    → ((more : List Entry) → completes x (e ∷ more) ≡ false) → IsBadOrder bytes at
IsBadOrder-misplaced bytes at x e n (before, stand, expects) begins refused =
    (before, stand, inl (e, n, begins, not_beginning before x e expects refused))

pub IsBadOrder-ended : (bytes : List ℕ) (at : ℕ) (x : Expected) → IsWalked bytes at x → length bytes ≤ at
    → completes x [] ≡ false → IsBadOrder bytes at
IsBadOrder-ended bytes at x (before, stand, expects) all not =
    let within = stand.within in
    (before, stand, inr (omega arith, is_whole-expects before x expects ∙ not))

-- ---- the text of a segment has no fault

-- what is before an offset of a text begins its entries
front_of_text : (bytes : List ℕ) (at : ℕ) (before es : List Entry) → StandBefore bytes at before → IsTextOf bytes es
    → IsFront before es (drop at bytes)
front_of_text bytes at before es stand is =
    let parts : text_of before ++ drop at bytes ≡ text_of es =
    rw (← stand.text) (take-append-drop at bytes ∙ is.text) in
    IsFront-from_text before es (drop at bytes) stand.each is.segment.each parts

no_bad_entry : (bytes : List ℕ) (at : ℕ) (es : List Entry) → IsTextOf bytes es → IsBadEntry bytes at → ⊥
no_bad_entry bytes at es is (before, stand, (more, (f, fault))) =
    let front = front_of_text bytes at before es stand is in
    let each = all_split IsEntry before front.rest (rw front.entries at is.segment.each) in
    go front.rest each.1 front.text
  where
    go : (rest : List Entry) → AllByRecursion IsEntry rest → drop at bytes ≡ text_of rest → ⊥
    go [] each text = absurd (omega (arith, length-drop at bytes, ap length text))
    go (e ∷ rest) each text =
        let none : first_fault (drop at bytes) ≡ None = rw text (passes e (text_of rest) each.0) in
        cc

no_misplaced : (bytes : List ℕ) (at : ℕ) (before es : List Entry) → IsTextOf bytes es → StandBefore bytes at before
    → IsMisplaced bytes at before → ⊥
no_misplaced bytes at before es is stand (e, n, begins, not) =
    let front = front_of_text bytes at before es stand is in
    let each = all_split IsEntry before front.rest (rw front.entries at is.segment.each) in
    let parts : text_of (e ∷ []) ++ drop n (drop at bytes) ≡ text_of front.rest =
    rw (append-nil (spelling e), ← begins.text) (take-append-drop n (drop at bytes) ∙ front.text) in
    let next = IsFront-from_text (e ∷ []) front.rest (drop n (drop at bytes)) (begins.entry, tt) each.1 parts in
    let all : es ≡ (before ++ e ∷ []) ++ next.rest =
    front.entries ∙ ap (λ (l : List Entry). before ++ l) next.entries
    ∙ sym (append_assoc before (e ∷ []) next.rest) in
    not (next.rest, rw (← all) is.segment.order)

no_early_end : (bytes : List ℕ) (at : ℕ) (before es : List Entry) → IsTextOf bytes es → StandBefore bytes at before
    → EndsEarly bytes at before → ⊥
no_early_end bytes at before es is stand (end, not) =
    let front = front_of_text bytes at before es stand is in
    go front.rest front.entries front.text
  where
    go : (rest : List Entry) → es ≡ before ++ rest → drop at bytes ≡ text_of rest → ⊥
    go [] entries text =
        let same : es ≡ before = entries ∙ append-nil before in
        let whole : is_whole before ≡ true = rw (← same) is.segment.order in
        cc
    go (e ∷ rest) entries text =
        omega (arith, length-drop at bytes, ap length text, length-append (spelling e) (text_of rest), spelling-some e)

-- The text of a segment is read, unless memory runs out.
pub IsFault-text : (bytes : List ℕ) (f : SegmentFault) (es : List Entry) → IsSegmentFault bytes f → IsTextOf bytes es
    → length bytes ≤ 8388608 → f ≡ NoMemory
IsFault-text bytes (BadEntry at) es fault is limit = absurd (no_bad_entry bytes at es is fault.1)
IsFault-text bytes (BadOrder at) es (_, (before, stand, inl misplaced)) is limit =
    absurd (no_misplaced bytes at before es is stand misplaced)
IsFault-text bytes (BadOrder at) es (_, (before, stand, inr ended)) is limit =
    absurd (no_early_end bytes at before es is stand ended)
IsFault-text bytes TooLong es fault is limit = absurd (omega arith)
IsFault-text bytes NoMemory es fault is limit = refl
