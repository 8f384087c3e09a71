-- A unit after a segment's entries makes a segment again; and the openings of new segments.
use Rattle.std.proofs.Common.{◌≡◌, ℕ, zero, suc, ◌+◌, ◌*◌, ◌<◌, ◌≤◌, true, List, [], ◌∷◌, ◌++◌, length}
use Rattle.std.proofs.Common.{take, drop, map, get_or, refl, sym, ap, ◌∙◌, append_assoc, arith}
use Rattle.std.specs.Prelude.{Result, Ok, Err, OnErr}
use Rattle.std.specs.Result.{IsOk}
use Rattle.std.specs.List.{flat_map, AllByRecursion}
use Rattle.std.proofs.lemmas.Bool.{and_parts}
use Rattle.std.proofs.lemmas.List.{length-append, append-nil, map-append, at_drop_more, take_more}
use Rattle.std.proofs.lemmas.List.Folds.{length-flat_map-take, flat_map-map}
use Rattle.entry.specs.declared.entry.Role.TheVariants.{Head, Survivor}
use Rattle.entry.specs.declared.entry.Header.{Header}
use Rattle.entry.specs.declared.digest.Digest.{Digest}
use Rattle.entry.specs.declared.digest.Digest.TheVariants as digest
use Rattle.entry.specs.declared.entry.Entry.{Entry}
use Rattle.entry.specs.declared.entry.Entry.TheVariants as entry
use Rattle.entry.specs.declared.view.EntryRef.{EntryRef}
use Rattle.entry.specs.Format.{spelling, IsEntry}
use Rattle.entry.specs.Text.{text_of, is_data, are_data, ends_with, listed_ids, IsTextOf, entries_in}
use Rattle.entry.specs.View.{shown}
use Rattle.entry.proofs.LengthLemmas.{length-ids_in}
use Rattle.entry.proofs.ListLemmas.{all_append}
use Rattle.entry.proofs.SpellingLemmas.{length-header, length-digest, length-lengths, length-safe}
use Rattle.segment.specs.Bytes.{IsSegmentBytes, IsDataText}
use Rattle.segment.proofs.RowLemmas.{text_of-append}
use Rattle.segment.proofs.OrderLemmas.{is_whole-append}

-- each of a unit is an object or a tombstone
pub is_data-at : (es : List EntryRef) (i : ℕ) (x : EntryRef) → i < length es → x ≡ get_or es i x
    → are_data (map shown es) ≡ true → is_data (shown x) ≡ true
is_data-at [] i x lt is d = absurd (omega arith)
is_data-at (e ∷ es) zero x lt is d = rw is (and_parts (is_data (shown e)) (are_data (map shown es)) d).0
is_data-at (e ∷ es) (suc i) x lt is d =
    is_data-at es i x (omega arith) is (and_parts (is_data (shown e)) (are_data (map shown es)) d).1

-- the text up to an entry, and that entry's, are no longer than the whole
pub text-at : (es : List EntryRef) (i : ℕ) (x : EntryRef) → i < length es → x ≡ get_or es i x
    → length (text_of (map shown (take i es))) + length (spelling (shown x)) ≤ length (text_of (map shown es))
text-at es i x lt is =
    let f : EntryRef → List ℕ = λ e. spelling (shown e) in
    let part : text_of (map shown (take i es)) ≡ flat_map f (take i es) = flat_map-map spelling shown (take i es) in
    let whole : text_of (map shown es) ≡ flat_map f es = flat_map-map spelling shown es in
    let last : length (spelling (shown x)) ≡ length (f (get_or es i x)) = ap (λ (e : EntryRef). length (f e)) is in
    omega (arith, length-flat_map-take f es i x lt, ap length part, ap length whole)

-- an entry is written behind those before it
module _ (es : List EntryRef) (i : ℕ) (x : EntryRef) (lt : i < length es) (is : x ≡ get_or es i x) where
  taken_more : text_of (map shown (take (i + 1) es)) ≡ text_of (map shown (take i es)) ++ spelling (shown x)
  taken_more =
      ap (λ (fs : List EntryRef). text_of (map shown fs))
      (take_more es i x lt ∙ ap (λ (y : EntryRef). take i es ++ y ∷ []) (sym is))
      ∙ ap text_of (map-append shown (take i es) (x ∷ []))
      ∙ text_of-append (map shown (take i es)) (shown x ∷ [])
      ∙ ap (λ (bytes : List ℕ). text_of (map shown (take i es)) ++ bytes) (append-nil (spelling (shown x)))

  left_more : text_of (map shown (drop i es)) ≡ spelling (shown x) ++ text_of (map shown (drop (i + 1) es))
  left_more =
      at_drop_more (λ (fs : List EntryRef). text_of (map shown fs)) es i x lt
      ∙ ap (λ (y : EntryRef). spelling (shown y) ++ text_of (map shown (drop (i + 1) es))) (sym is)

  pub written_more : (start old new : List ℕ) → new ≡ old ++ spelling (shown x)
      → old ≡ start ++ text_of (map shown (take i es)) →
      new ≡ start ++ text_of (map shown (take (i + 1) es))
  written_more start old new one held =
      one
      ∙ ap (λ (bytes : List ℕ). bytes ++ spelling (shown x)) held
      ∙ append_assoc start (text_of (map shown (take i es))) (spelling (shown x))
      ∙ ap (λ (bytes : List ℕ). start ++ bytes) (sym taken_more)

  pub room_for : (len capacity : ℕ) → len + length (text_of (map shown (drop i es))) ≤ capacity
      → len + length (spelling (shown x)) ≤ capacity
  room_for len capacity room =
      omega (
        arith,
        room,
        ap length left_more,
        length-append (spelling (shown x))
            (text_of (map shown (drop (i + 1) es))),
      )

  pub room_left : (len capacity more wide : ℕ) → len + length (text_of (map shown (drop i es))) ≤ capacity →
      more ≡ len + length (spelling (shown x)) → capacity ≤ wide →
      more + length (text_of (map shown (drop (i + 1) es))) ≤ wide
  room_left len capacity more wide room longer wider =
      omega (
        arith,
        room,
        longer,
        wider,
        ap length left_more,
        length-append (spelling (shown x)) (text_of (map shown (drop (i + 1) es))),
      )

pub longer_by : (old new part : List ℕ) (len more : ℕ) → new ≡ old ++ part → len ≡ length old → more ≡ length new
    → more ≡ len + length part
longer_by old new part len more one before after = omega (arith, ap length one, length-append old part, before, after)

pub ok_unless : {T E : Type 0} (r : Result T E) (P : Type 0) → OnErr r P → (P → ⊥) → IsOk r
ok_unless (Ok v) P full not = refl
ok_unless (Err e) P full not = absurd (not full)

-- a segment's entries and a unit are a segment's entries
pub IsTextOf-append : (bytes new : List ℕ) (unit : List Entry) → IsSegmentBytes bytes → AllByRecursion IsEntry unit
    → are_data unit ≡ true → new ≡ bytes ++ text_of unit → IsTextOf new (entries_in bytes ++ unit)
IsTextOf-append bytes new unit is each d longer = record {
  segment = record {
    each = all_append IsEntry (entries_in bytes) unit is.text.segment.each each;
    order = is_whole-append (entries_in bytes) unit d is.text.segment.order;
  };
  text = longer ∙ ap (λ (l : List ℕ). l ++ text_of unit) is.text.text ∙ sym (text_of-append (entries_in bytes) unit);
}

-- the same of a unit's text
pub IsTextOf-more : (bytes new text : List ℕ) → IsSegmentBytes bytes → IsDataText text → new ≡ bytes ++ text
    → IsTextOf new (entries_in bytes ++ entries_in text)
IsTextOf-more bytes new text is unit longer =
    IsTextOf-append bytes new (entries_in text) is unit.each unit.order
    (longer ∙ ap (λ (l : List ℕ). bytes ++ l) unit.text)

-- ---- the opening entries of a head

three : (x y z a b c d : List ℕ) → a ≡ [] → b ≡ a ++ x → c ≡ b ++ y → d ≡ c ++ z → d ≡ x ++ (y ++ (z ++ []))
three x y z a b c d p q r s = rw (s, r, q, p, append_assoc, append-nil) refl

length-three : (x y z : List ℕ) → length (x ++ (y ++ (z ++ []))) ≡ length x + (length y + length z)
length-three x y z = omega (arith, length-append x (y ++ (z ++ [])), length-append y (z ++ []), length-append z [])

abbrev pub head : ℕ → ℕ → Header
head master segment = record { master = master; segment = segment; role = Head }

-- a digest of these ids
abbrev pub head_of : ℕ → ℕ → Digest → ℕ → List Entry
head_of master segment digest safe = entry.Header (head master segment) ∷ entry.Digest digest ∷ entry.Safe safe ∷ []

pub IsTextOf-head : (master segment : ℕ) (digest : Digest) (safe : ℕ) (a b c d : List ℕ)
    → IsEntry (entry.Header (head master segment)) → IsEntry (entry.Digest digest) → IsEntry (entry.Safe safe)
    → ends_with segment (listed_ids digest) ≡ true → a ≡ [] → b ≡ a ++ spelling (entry.Header (head master segment))
    → c ≡ b ++ spelling (entry.Digest digest) → d ≡ c ++ spelling (entry.Safe safe)
    → IsTextOf d (head_of master segment digest safe)
IsTextOf-head master segment digest safe a b c d header digest_fits version last p q r s = record {
  segment = record { each = (header, (digest_fits, (version, tt))); order = rw last refl };
  text =
      three (spelling (entry.Header (head master segment))) (spelling (entry.Digest digest))
      (spelling (entry.Safe safe)) a b c d p q r s;
}

-- a digest has at most so many bytes
pub digest_few : (d : Digest) → length (spelling (entry.Digest d)) ≤ 5 + 16 * length (listed_ids d)
digest_few (digest.Ids ids) = let len = length-digest ids in omega arith
digest_few (digest.Lengths segments) =
    let len = length-lengths segments in
    let same = length-ids_in segments in
    omega (arith, len, same)

pub head_few : (master segment : ℕ) (digest : Digest) (safe : ℕ)
    → length (text_of (head_of master segment digest safe)) ≤ 32 + 16 * length (listed_ids digest)
head_few master segment digest safe =
    let three = length-three (spelling (entry.Header (head master segment))) (spelling (entry.Digest digest))
    (spelling (entry.Safe safe)) in
    let first = length-header (head master segment) in
    let few = digest_few digest in
    let last = length-safe safe in
    omega (arith, three, first, few, last)

-- ---- the header of a survivor

abbrev pub survivor : ℕ → ℕ → Header
survivor master segment = record { master = master; segment = segment; role = Survivor }

abbrev pub survivor_of : ℕ → ℕ → List Entry
survivor_of master segment = entry.Header (survivor master segment) ∷ []

pub IsTextOf-survivor : (master segment : ℕ) (a b : List ℕ) → IsEntry (entry.Header (survivor master segment)) → a ≡ []
    → b ≡ a ++ spelling (entry.Header (survivor master segment)) → IsTextOf b (survivor_of master segment)
IsTextOf-survivor master segment a b header p q = record {
  segment = record { each = (header, tt); order = refl };
  text = q ∙ ap (λ (l : List ℕ). l ++ spelling (entry.Header (survivor master segment))) p
      ∙ sym (append-nil (spelling (entry.Header (survivor master segment))));
}

pub length-survivor : (master segment : ℕ) → length (text_of (survivor_of master segment)) ≡ 18
length-survivor master segment =
    ap length (append-nil (spelling (entry.Header (survivor master segment)))) ∙ length-header (survivor master segment)
