-- No bytes have two faults.
use Rattle.std.proofs.Common.{◌≡◌, ℕ, true, List, [], ◌∷◌, ◌++◌, length, drop, Some, None}
use Rattle.std.proofs.Common.{inl, inr, refl, sym, ap, ◌∙◌, append_assoc, arith}
use Rattle.std.specs.Prelude.{◌⊎◌}
use Rattle.std.specs.List.{AllByRecursion}
use Rattle.std.proofs.lemmas.List.{length-append, length-drop, take-append-drop}
use Rattle.entry.specs.declared.entry.Entry.{Entry}
use Rattle.entry.specs.declared.fault.EntryFault.{EntryFault}
use Rattle.entry.specs.Format.{spelling, IsEntry, Begins, first_fault}
use Rattle.entry.specs.Text.{text_of, is_whole, IsBeginning}
use Rattle.entry.proofs.ListLemmas.{all_split}
use Rattle.entry.proofs.TextLemmas.{spelling-some}
use Rattle.entry.proofs.PrefixFree.{prefix_free}
use Rattle.entry.proofs.Passing.{passes}
use Rattle.segment.specs.declared.fault.SegmentFault.{SegmentFault}
use Rattle.segment.specs.declared.fault.SegmentFault.TheVariants.{BadEntry, BadOrder, TooLong, NoMemory}
use Rattle.segment.specs.Faults.{StandBefore, IsMisplaced, EndsEarly, IsUnreadable}
use Rattle.segment.specs.Faults.{IsBadOrder, IsBadEntry, IsSegmentFault}
use Rattle.segment.proofs.RowLemmas.{cons_same}
use Rattle.segment.proofs.FaultLemmas.{IsFault-text}

-- two rows in the same bytes: the second goes on where the first ends
record GoesOn (xs ys : List Entry) (x y : List ℕ) : Type 0 where
  more : List Entry
  entries : ys ≡ xs ++ more
  text : x ≡ text_of more ++ y

GoesOn-cons : (a b : Entry) (xs ys : List Entry) (x y : List ℕ) → b ≡ a → GoesOn xs ys x y
    → GoesOn (a ∷ xs) (b ∷ ys) x y
GoesOn-cons a b xs ys x y is on =
    record { more = on.more; entries = cons_same b a ys (xs ++ on.more) is on.entries; text = on.text }

compared : (xs ys : List Entry) (x y : List ℕ) → AllByRecursion IsEntry xs → AllByRecursion IsEntry ys
    → text_of xs ++ x ≡ text_of ys ++ y → GoesOn xs ys x y ⊎ GoesOn ys xs y x
compared [] ys x y p q is = inl (record { more = ys; entries = refl; text = is })
compared (a ∷ xs) [] x y p q is = inr (record { more = a ∷ xs; entries = refl; text = sym is })
compared (a ∷ xs) (b ∷ ys) x y p q is =
    let parts : spelling a ++ (text_of xs ++ x) ≡ spelling b ++ (text_of ys ++ y) = simp append_assoc at is in
    let first = prefix_free a b (text_of xs ++ x) (text_of ys ++ y) p.0 q.0 parts in
    elim (compared xs ys x y p.1 q.1 first.1) [
      | inl on ↦ inl (GoesOn-cons a b xs ys x y (sym first.0) on)
      | inr on ↦ inr (GoesOn-cons b a ys xs y x first.0 on)
    ]

-- behind these entries, at the offset, no segment goes on
Stops : List ℕ → ℕ → List Entry → Type 0
Stops bytes at before =
    (e : Entry) (rest : List ℕ) → IsEntry e → drop at bytes ≡ spelling e ++ rest → IsBeginning (before ++ e ∷ []) → ⊥

begins_of : (bytes : List ℕ) (e : Entry) (n : ℕ) → Begins bytes e n → bytes ≡ spelling e ++ drop n bytes
begins_of bytes e n begins = sym (take-append-drop n bytes) ∙ ap (λ (l : List ℕ). l ++ drop n bytes) begins.text

not_unreadable : (bytes : List ℕ) (f : EntryFault) (e : Entry) (rest : List ℕ) → IsEntry e → bytes ≡ spelling e ++ rest
    → first_fault bytes ≡ Some f → ⊥
not_unreadable bytes f e rest fits is fault = let none : first_fault bytes ≡ None = rw is (passes e rest fits) in cc

Stops-unreadable : (bytes : List ℕ) (at : ℕ) (before : List Entry) → IsUnreadable bytes at → Stops bytes at before
unfolding Stops
Stops-unreadable bytes at before (more, (f, fault)) =
    λ e rest fits is beginning. not_unreadable (drop at bytes) f e rest fits is fault

Stops-misplaced : (bytes : List ℕ) (at : ℕ) (before : List Entry) → IsMisplaced bytes at before → Stops bytes at before
unfolding Stops
Stops-misplaced bytes at before (d, n, begins, not) = λ e rest fits is beginning.
    let same =
    prefix_free e d rest (drop n (drop at bytes)) fits begins.entry
    (sym is ∙ begins_of (drop at bytes) d n begins) in
    not (rw (sym same.0) beginning)

Stops-ended : (bytes : List ℕ) (at : ℕ) (before : List Entry) → EndsEarly bytes at before → Stops bytes at before
unfolding Stops
Stops-ended bytes at before (end, not) = λ e rest fits is beginning.
    omega (
      arith,
      length-drop at bytes,
      ap (λ (l : List ℕ). length l) is,
      length-append (spelling e) rest,
      spelling-some e,
    )

-- a row that goes on doesn't go on from where no segment does
no_more : (bytes : List ℕ) (a b : ℕ) (xs ys : List Entry) → StandBefore bytes a xs → StandBefore bytes b ys
    → Stops bytes a xs → GoesOn xs ys (drop a bytes) (drop b bytes) → a ≡ b
unfolding Stops
no_more bytes a b xs ys at_a at_b stops on = go on.more on.entries on.text where
  go : (more : List Entry) → ys ≡ xs ++ more → drop a bytes ≡ text_of more ++ drop b bytes → a ≡ b
  go [] entries text =
      let a_within = at_a.within in
      let b_within = at_b.within in
      omega (arith, length-drop a bytes, length-drop b bytes, ap (λ (l : List ℕ). length l) text)
  go (e ∷ more) entries text =
      let each = all_split IsEntry xs (e ∷ more) (rw entries at at_b.each) in
      let whole : is_whole ((xs ++ e ∷ more) ++ at_b.order.0) ≡ true = rw entries at at_b.order.1 in
      let same : (xs ++ e ∷ more) ++ at_b.order.0 ≡ (xs ++ e ∷ []) ++ (more ++ at_b.order.0) = simp append_assoc in
      absurd (stops e (text_of more ++ drop b bytes) each.1.0 (simp append_assoc at text)
      (more ++ at_b.order.0, rw (sym same) whole))

one_stop : (bytes : List ℕ) (a b : ℕ) (xs ys : List Entry) → StandBefore bytes a xs → StandBefore bytes b ys
    → Stops bytes a xs → Stops bytes b ys → a ≡ b
one_stop bytes a b xs ys at_a at_b stops_a stops_b =
    let same : text_of xs ++ drop a bytes ≡ text_of ys ++ drop b bytes =
    rw (← at_a.text, ← at_b.text) (take-append-drop a bytes ∙ sym (take-append-drop b bytes)) in
    elim (compared xs ys (drop a bytes) (drop b bytes) at_a.each at_b.each same) [
      | inl on ↦ no_more bytes a b xs ys at_a at_b stops_a on
      | inr on ↦ sym (no_more bytes b a ys xs at_b at_a stops_b on)
    ]

Stops-bad_order : (bytes : List ℕ) (at : ℕ) (before : List Entry)
    → IsMisplaced bytes at before ⊎ EndsEarly bytes at before → Stops bytes at before
Stops-bad_order bytes at before (inl misplaced) = Stops-misplaced bytes at before misplaced
Stops-bad_order bytes at before (inr ended) = Stops-ended bytes at before ended

not_both : (bytes : List ℕ) (at : ℕ) (before : List Entry) → IsUnreadable bytes at
    → IsMisplaced bytes at before ⊎ EndsEarly bytes at before → ⊥
not_both bytes at before (more, (f, fault)) (inl (e, n, begins, not)) =
    not_unreadable (drop at bytes) f e (drop n (drop at bytes)) begins.entry (begins_of (drop at bytes) e n begins)
    fault
not_both bytes at before (more, fault) (inr (end, not)) = omega arith

entry_or_order : (bytes : List ℕ) (a b : ℕ) → IsBadEntry bytes a → IsBadOrder bytes b → ⊥
entry_or_order bytes a b (xs, at_a, unreadable) (ys, at_b, bad) =
    let same =
    one_stop bytes a b xs ys at_a at_b (Stops-unreadable bytes a xs unreadable) (Stops-bad_order bytes b ys bad) in
    not_both bytes b ys (rw same at unreadable) bad

one_entry : (bytes : List ℕ) (a b : ℕ) → IsBadEntry bytes a → IsBadEntry bytes b → a ≡ b
one_entry bytes a b (xs, at_a, here) (ys, at_b, there) =
    one_stop bytes a b xs ys at_a at_b (Stops-unreadable bytes a xs here) (Stops-unreadable bytes b ys there)

one_order : (bytes : List ℕ) (a b : ℕ) → IsBadOrder bytes a → IsBadOrder bytes b → a ≡ b
one_order bytes a b (xs, at_a, here) (ys, at_b, there) =
    one_stop bytes a b xs ys at_a at_b (Stops-bad_order bytes a xs here) (Stops-bad_order bytes b ys there)

-- No bytes have two faults.
pub one_fault : (bytes : List ℕ) (f g : SegmentFault) → IsSegmentFault bytes f → IsSegmentFault bytes g → f ≡ g
one_fault bytes TooLong TooLong p q = refl
one_fault bytes TooLong (BadEntry b) p q = let limit = q.0 in absurd (omega arith)
one_fault bytes TooLong (BadOrder b) p q = let limit = q.0 in absurd (omega arith)
one_fault bytes TooLong NoMemory p q = let limit = q.0 in absurd (omega arith)
one_fault bytes (BadEntry a) TooLong p q = let limit = p.0 in absurd (omega arith)
one_fault bytes (BadOrder a) TooLong p q = let limit = p.0 in absurd (omega arith)
one_fault bytes NoMemory TooLong p q = let limit = p.0 in absurd (omega arith)
one_fault bytes f NoMemory p (limit, (es, text)) = IsFault-text bytes f es p text limit
one_fault bytes NoMemory g (limit, (es, text)) q = sym (IsFault-text bytes g es q text limit)
one_fault bytes (BadEntry a) (BadEntry b) p q = ap (λ (n : ℕ). BadEntry n) (one_entry bytes a b p.1 q.1)
one_fault bytes (BadEntry a) (BadOrder b) p q = absurd (entry_or_order bytes a b p.1 q.1)
one_fault bytes (BadOrder a) (BadEntry b) p q = absurd (entry_or_order bytes b a q.1 p.1)
one_fault bytes (BadOrder a) (BadOrder b) p q = ap (λ (n : ℕ). BadOrder n) (one_order bytes a b p.1 q.1)
