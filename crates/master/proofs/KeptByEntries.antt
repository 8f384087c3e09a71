-- What is kept by the places that entries are counted by is what is kept by their offsets.
use Rattle.std.proofs.Common.{◌≡◌, ℕ, suc, ◌+◌, true, List, [], ◌∷◌, ◌++◌, length, take, refl, sym, ap, subst, ◌∙◌}
use Rattle.std.proofs.Common.{append_assoc, arith}
use Rattle.std.specs.Prelude.{Option, Some, None, ◌==◌, if◌then◌else◌}
use Rattle.std.specs.List.{AllByRecursion}
use Rattle.std.specs.Option.{option_map}
use Rattle.std.proofs.lemmas.Bool.{and_from, and_parts}
use Rattle.std.proofs.lemmas.Bool.Decides.{Decides-eqb}
use Rattle.std.proofs.lemmas.List.{length-append, take_at}
use Rattle.entry.specs.declared.entry.Entry.{Entry}
use Rattle.entry.specs.declared.entry.Object.{Object}
use Rattle.entry.specs.declared.entry.Entry.TheVariants as entry
use Rattle.entry.specs.Format.{spelling, IsEntry}
use Rattle.entry.specs.Meaning.{Versioned, object_at}
use Rattle.entry.specs.Text.{text_of, entries_in}
use Rattle.entry.proofs.ListLemmas.{all_split}
use Rattle.entry.proofs.TextLemmas.{entries_in-text}
use Rattle.segment.proofs.RowLemmas.{text_of-append}
use Rattle.log_head.specs.log_laws.Ids.{has}
use Rattle.master_core.specs.log_laws.Compaction.{is_place, kept as entry_kept, kept_from as entries_kept}
use Rattle.master_core.specs.log_laws.Memory.{IsAt, Index as EntryIndex}
use Rattle.places.specs.declared.place.Place.{Place}
use Rattle.places.specs.Relocation.{names}
use Rattle.places.proofs.Words.{named_found, found_named}
use Rattle.master_core.specs.compactor.Kept.{has_id, kept, kept_from, kept_of, entries_before}
use Rattle.master_core.specs.compactor.Places.{LiesAt, IsAtPlace, keys_in}
use Rattle.master_core.specs.master_state.Data.{MasterData}
use Rattle.master_core.specs.master_state.Invariant.{IsCore}
use Rattle.master_core.specs.master_state.Log.{images_of, find, state_now, position_of, entry_place, memory_of}
use Rattle.master_core.proofs.master_state.Finding.{each_of}
use Rattle.master_core.proofs.master_state.Indexing.{found_lies, key_seen}
use Rattle.master.proofs.LogSets.{agree}

-- ---- lists

same_front : {X : Type 0} (xs ys us vs : List X) → length xs ≡ length ys → xs ++ us ≡ ys ++ vs → xs ≡ ys
same_front [] [] us vs len is = refl
same_front [] (y ∷ ys) us vs len is = absurd (cc)
same_front (x ∷ xs) [] us vs len is = absurd (cc)
same_front (x ∷ xs) (y ∷ ys) us vs len is =
    let first : x ≡ y = cc in
    let rest : xs ++ us ≡ ys ++ vs = cc in
    λ i. first i ∷ same_front xs ys us vs (omega arith) rest i

is_behind : {X : Type 0} (xs : List X) (x : X) (ys : List X) → IsAt (xs ++ x ∷ ys) (length xs) x
is_behind [] x ys = refl
is_behind (z ∷ xs) x ys = is_behind xs x ys

-- ---- places by entries

-- the entries before an offset at which some of them end
entries_front : (before rest : List Entry) (at : ℕ) → AllByRecursion IsEntry before → at ≡ length (text_of before)
    → entries_before at (before ++ rest) ≡ before
entries_front before rest at fits is =
    ap (λ (bytes : List ℕ). entries_in (take at bytes)) (text_of-append before rest)
    ∙ ap entries_in (take_at (text_of before) (text_of rest) at (sym is)) ∙ entries_in-text before fits

-- the position of an entry is how many come before it
pub position_is : (image : List Entry) (at : ℕ) (e : Entry) → AllByRecursion IsEntry image → (l : LiesAt image at e)
    → position_of image at ≡ length l.before
position_is image at e each l =
    let split = all_split IsEntry l.before (e ∷ l.after) (subst
    (λ (es : List Entry). AllByRecursion IsEntry es) l.split each) in
    ap (λ (es : List Entry). position_of es at) l.split
    ∙ ap (λ (es : List Entry). length es) (entries_front l.before (e ∷ l.after) at split.0 l.offset)

pub stands_by_entries : (image : List Entry) (at : ℕ) (e : Entry) → AllByRecursion IsEntry image → LiesAt image at e
    → IsAt image (position_of image at) e
stands_by_entries image at e each l =
    subst (λ (n : ℕ). IsAt image n e) (sym (position_is image at e each l))
    (subst (λ (es : List Entry). IsAt es (length l.before) e) (sym l.split) (is_behind l.before e l.after))

-- ---- what is kept

module _ (d : MasterData) (core : IsCore d) (s : ℕ) where
  abbrev index : EntryIndex
  index = (memory_of d).index

  abbrev image : List Entry
  image = images_of d s

  -- the index finds the object where it stands
  module _ (front : List Entry) (o : Object) (rest : List Entry)
      (split : images_of d s ≡ front ++ entry.Object o ∷ rest) where
    abbrev here : Place
    here = record { segment = s; at = length (text_of front) }

    abbrev lies : LiesAt (images_of d s) (length (text_of front)) (entry.Object o)
    lies = record { before = front; after = rest; split = split; offset = refl }

    stands : keys_in (images_of d) here ≡ Some o.key
    stands = key_seen (images_of d) (each_of d core) here o.key
        (record { version = o.version; value = o.value }) lies

    position : position_of (images_of d s) (length (text_of front)) ≡ length front
    position = position_is (images_of d s) (length (text_of front)) (entry.Object o) (each_of d core s) lies

    -- a place that is named by entries is this one
    named : (q : Place) (x : Versioned) → IsAtPlace (images_of d) q (object_at o.key x)
        → is_place (Some (entry_place d q)) s (length front) ≡ true → q ≡ here
    named q x there is =
        let parts = and_parts (q.segment == s) (position_of (images_of d q.segment) q.at == length front) is in
        let segment : q.segment ≡ s = (Decides-eqb q.segment s).0 parts.0 in
        let count : position_of (images_of d q.segment) q.at ≡ length front =
        (Decides-eqb (position_of (images_of d q.segment) q.at) (length front)).0 parts.1 in
        let before : length there.before ≡ length front =
        sym (position_is (images_of d q.segment) q.at (object_at o.key x) (each_of d core q.segment) there) ∙ count in
        let both : there.before ++ object_at o.key x ∷ there.after ≡ front ++ entry.Object o ∷ rest =
        sym there.split ∙ ap (images_of d) segment ∙ split in
        let same = same_front there.before front (object_at o.key x ∷ there.after)
        (entry.Object o ∷ rest) before both in
        let at : q.at ≡ length (text_of front) = there.offset ∙ ap (λ (es : List Entry). length (text_of es)) same in
        λ i. record { segment = segment i; at = at i }

    to_named : is_place (index o.key) s (length front) ≡ true → names d.index o.key here ≡ true
    to_named is = go (find d o.key) refl is where
      go : (f : Option Place) → find d o.key ≡ f → is_place (option_map (entry_place d) f) s (length front) ≡ true
          → names d.index o.key here ≡ true
      go None none is = absurd (cc)
      go (Some q) some is =
          let there = found_lies (images_of d) o.key (find d o.key) ((state_now d).contents o.key)
          (core.index.lies o.key) q some in
          let same = named q there.0 there.2 is in
          found_named (keys_in (images_of d)) o.key here d.index core.index.kept (some ∙ ap Some same)

    from_named : names d.index o.key here ≡ true → is_place (index o.key) s (length front) ≡ true
    from_named is =
        let place = named_found (keys_in (images_of d)) o.key here stands d.index core.index.kept is in
        ap (λ (f : Option Place). is_place (option_map (entry_place d) f) s (length front)) place
        ∙ and_from (s == s) (position_of (images_of d s) (length (text_of front)) == length front)
        ((Decides-eqb s s).1 refl) ((Decides-eqb (position_of (images_of d s) (length (text_of front)))
        (length front)).1 position)

    pub object_same : is_place (index o.key) s (length front) ≡ names d.index o.key here
    object_same = agree (is_place (index o.key) s (length front)) (names d.index o.key here) to_named from_named

-- by two lists with the same ids
module _ (d : MasterData) (core : IsCore d) (ids set : List ℕ) (both : (z : ℕ) → has ids z ≡ has_id set z) (s : ℕ) where
  pub kept_same : (front : List Entry) (e : Entry) (rest : List Entry) → images_of d s ≡ front ++ e ∷ rest
      → entry_kept ids (memory_of d).index s (length front) e
      ≡ kept set d.index (record { segment = s; at = length (text_of front) }) e
  kept_same front (entry.Header h) rest split = refl
  kept_same front (entry.Digest l) rest split = refl
  kept_same front (entry.Safe version) rest split = refl
  kept_same front (entry.Object o) rest split = object_same d core s front o rest split
  kept_same front (entry.Tombstone t) rest split = both t.segment

  kept_rest : (front rest : List Entry) → images_of d s ≡ front ++ rest
      → entries_kept ids (memory_of d).index s (length front) rest
      ≡ kept_from set d.index s (length (text_of front)) rest
  kept_rest front [] split = refl
  kept_rest front (e ∷ rest) split =
      let longer : images_of d s ≡ (front ++ e ∷ []) ++ rest = split ∙ sym (append_assoc front (e ∷ []) rest) in
      let count : length (front ++ e ∷ []) ≡ suc (length front) = omega (arith, length-append front (e ∷ [])) in
      let len : length (text_of (front ++ e ∷ [])) ≡ length (text_of front) + length (spelling e) =
      ap (λ (bytes : List ℕ). length bytes) (text_of-append front (e ∷ []))
      ∙ (omega (arith, length-append (text_of front) (text_of (e ∷ [])), length-append (spelling e) [])) in
      let later : entries_kept ids (memory_of d).index s (suc (length front)) rest
      ≡ kept_from set d.index s (length (text_of front) + length (spelling e)) rest =
      ap (λ (n : ℕ). entries_kept ids (memory_of d).index s n rest) (sym count)
      ∙ kept_rest (front ++ e ∷ []) rest longer
      ∙ ap (λ (n : ℕ). kept_from set d.index s n rest) len in
      λ i. if kept_same front e rest split i then e ∷ later i else later i

  pub kept_by_entries : entries_kept ids (memory_of d).index s 0 (images_of d s) ≡ kept_of set d.index s (images_of d s)
  kept_by_entries = kept_rest [] (images_of d s) refl
