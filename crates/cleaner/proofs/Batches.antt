-- Entries that are read ahead fill survivors.
use Rattle.std.proofs.Common.{◌≡◌, ℕ, suc, ◌+◌, ◌-◌, ◌<◌, ◌≤◌, Bool, true, false, cond, List, [], ◌∷◌, ◌++◌, length}
use Rattle.std.proofs.Common.{refl, sym, ap, subst, ◌∙◌, arith}
use Rattle.std.specs.Prelude.{Some}
use Rattle.std.specs.List.{AllByRecursion}
use Rattle.std.proofs.lemmas.List.{length-append}
use Rattle.std.proofs.lemmas.Option.{same_Some}
use Rattle.std.proofs.lemmas.List.Sums.{sum_by-append, sum_by-cons}
use Rattle.entry.specs.declared.entry.Entry.{Entry}
use Rattle.entry.specs.declared.entry.Entry.TheVariants as entry
use Rattle.entry.specs.Format.{spelling}
use Rattle.entry.specs.Text.{text_of, is_data, IsSegment}
use Rattle.entry.proofs.ListLemmas.{all_split}
use Rattle.entry.proofs.TextLemmas.{length_first, spelling-some}
use Rattle.places.specs.declared.place.Place.{Place}
use Rattle.places.specs.Map.{Places}
use Rattle.compactor.specs.Kept.{kept}
use Rattle.cleaner.specs.declared.ahead.Seen.{Seen}
use Rattle.cleaner.specs.declared.level.Level.{Level}
use Rattle.cleaner.specs.Filling.{filled_one, filled}
use Rattle.cleaner.specs.KeptLengths.{kept_lengths, segment_lengths}
use Rattle.cleaner.specs.Passes.{places_from, places_past, seen_of, seen_len, IsSeenAt, AreSeenFrom, IsAhead}
use Rattle.cleaner.specs.Walks.{is_seen_kept, seen_lengths, IsShort, IsBetween}
use Rattle.cleaner.proofs.Cursors.{between_start}
use Rattle.cleaner.proofs.Fillings.{OneMore, Fits, Next, one_more, filled_on}
use Rattle.cleaner.proofs.Lengths.{lengths_cons}
use Rattle.cleaner.proofs.Places.{place_at, past_data, past_start}
use Rattle.cleaner.proofs.Reading.{Bytes, shows_data, shows_len}
use Rattle.cleaner.proofs.SegmentFits.{lengths_of_segment}

-- ---- one more at the end

module _ (ids : List ℕ) (held : Places) (s : ℕ) where
  abbrev Last : ℕ → Seen → List ℕ
  Last at x = cond (is_seen_kept ids held (place_at s at) x) (seen_len x ∷ []) []

  cond_front : (b : Bool) (n : ℕ) (ns ks : List ℕ) → cond b (n ∷ (ns ++ ks)) (ns ++ ks) ≡ cond b (n ∷ ns) ns ++ ks
  cond_front true n ns ks = refl
  cond_front false n ns ks = refl

  lengths_last : (at : ℕ) (xs : List Seen) (x : Seen)
      → seen_lengths ids held s at (xs ++ x ∷ []) ≡ seen_lengths ids held s at xs ++ Last (at + Bytes xs) x
  lengths_last at [] x = ap (λ (n : ℕ). Last n x) (omega arith)
  lengths_last at (y ∷ ys) x =
      let next : at + seen_len y + Bytes ys ≡ at + Bytes (y ∷ ys) = omega (arith, sum_by-cons seen_len y ys) in
      ap (λ (ns : List ℕ). cond (is_seen_kept ids held (place_at s at) y) (seen_len y ∷ ns) ns)
      (lengths_last (at + seen_len y) ys x
      ∙ ap (λ (n : ℕ). seen_lengths ids held s (at + seen_len y) ys ++ Last n x) next)
      ∙ cond_front (is_seen_kept ids held (place_at s at) y) (seen_len y)
      (seen_lengths ids held s (at + seen_len y) ys) (Last (at + Bytes (y ∷ ys)) x)

  -- ---- a batch, its last entry apart

  module _ (limit end : ℕ) (xs before : List Seen) (x : Seen) (split : xs ≡ before ++ x ∷ []) where
    pub bytes_last : Bytes xs ≡ Bytes before + seen_len x
    bytes_last =
        ap Bytes split
        ∙ sum_by-append seen_len before (x ∷ [])
        ∙ omega (arith, sum_by-cons seen_len x [])

    pub length_last_of : length xs ≡ length before + 1
    length_last_of = ap (λ (ys : List Seen). length ys) split ∙ length-append before (x ∷ []) ∙ omega arith

    pub short_before : AllByRecursion IsShort xs → AllByRecursion IsShort before
    short_before all = (all_split IsShort before (x ∷ []) (subst (AllByRecursion IsShort) split all)).0

    pub short_last : AllByRecursion IsShort xs → seen_len x ≤ 8388608
    short_last all = (all_split IsShort before (x ∷ []) (subst (AllByRecursion IsShort) split all)).1.0

    module _ (le : Bytes xs ≤ end) where
      filled_last : (from : Level)
          → filled limit from (seen_lengths ids held s (end - Bytes xs) xs)
          ≡ filled limit (filled limit from (seen_lengths ids held s (end - seen_len x - Bytes before) before))
          (Last (end - seen_len x) x)
      filled_last from =
          let at : end - Bytes xs ≡ end - seen_len x - Bytes before = omega (arith, bytes_last) in
          let to : end - Bytes xs + Bytes before ≡ end - seen_len x = omega (arith, bytes_last, le) in
          ap (λ (ys : List Seen). filled limit from (seen_lengths ids held s (end - Bytes xs) ys)) split
          ∙ ap (filled limit from) (lengths_last (end - Bytes xs) before x)
          ∙ filled_on limit from (seen_lengths ids held s (end - Bytes xs) before)
          (Last (end - Bytes xs + Bytes before) x)
          ∙ ap (λ (n : ℕ). filled limit (filled limit from (seen_lengths ids held s (end - Bytes xs) before))
          (Last n x)) to
          ∙ ap (λ (n : ℕ). filled limit (filled limit from (seen_lengths ids held s n before))
          (Last (end - seen_len x) x)) at

      module _ (from level : Level)
          (was : level ≡ filled limit from (seen_lengths ids held s (end - seen_len x - Bytes before) before)) where
        pub last_kept : (b : Bool) → b ≡ is_seen_kept ids held (place_at s (end - seen_len x)) x
            → filled limit from (seen_lengths ids held s (end - Bytes xs) xs)
            ≡ cond b (filled_one limit level (seen_len x)) level
        last_kept b is =
            filled_last from
            ∙ ap (λ (a : Level). filled limit a (Last (end - seen_len x) x)) (sym was)
            ∙ ap (λ (t : Bool). filled limit level (cond t (seen_len x ∷ []) [])) (sym is)
            ∙ go b
          where
            go : (t : Bool) → filled limit level (cond t (seen_len x ∷ []) [])
                ≡ cond t (filled_one limit level (seen_len x)) level
            go true = refl
            go false = refl

-- none was read
pub none_filled : (ids : List ℕ) (held : Places) (s at limit : ℕ) (from : Level) (xs : List Seen) → length xs ≡ 0
    → from ≡ filled limit from (seen_lengths ids held s at xs)
none_filled ids held s at limit from [] is = refl
none_filled ids held s at limit from (x ∷ xs) is = absurd (omega (arith, is))

-- how far one more entry goes
pub one_near : (limit : ℕ) (a : Level) (n : ℕ) → limit ≤ 8388608 → n ≤ 8388608
    → ((filled_one limit a n).survivor ≤ a.survivor + 1) × ((filled_one limit a n).len ≤ 16777216)
one_near limit a n most short = go (one_more limit a n) where
  go : OneMore limit a n → ((filled_one limit a n).survivor ≤ a.survivor + 1) × ((filled_one limit a n).len ≤ 16777216)
  go (Fits le is) = (omega (arith, ap (λ x. x.survivor) is), omega (arith, most, le, ap (λ x. x.len) is))
  go (Next over is) = (omega (arith, ap (λ x. x.survivor) is), omega (arith, short, ap (λ x. x.len) is))

-- ---- by what the entries are

-- whether an entry is kept is told by what is remembered of it
told_kept : (ids : List ℕ) (held : Places) (p : Place) (e : Entry) (x : Seen) → seen_of held.seed e ≡ Some x
    → is_seen_kept ids held p x ≡ kept ids held p e
told_kept ids held p (entry.Header h) x is = absurd (cc)
told_kept ids held p (entry.Digest l) x is = absurd (cc)
told_kept ids held p (entry.Safe v) x is = absurd (cc)
told_kept ids held p (entry.Object o) x is = ap (is_seen_kept ids held p) (sym (same_Some _ x is))
told_kept ids held p (entry.Tombstone t) x is = ap (is_seen_kept ids held p) (sym (same_Some _ x is))

module _ (ids : List ℕ) (held : Places) (s : ℕ) (es : List Entry) where
  abbrev images : ℕ → List Entry
  images z = es

  -- the lengths of what is kept from an offset on
  abbrev pub Left : ℕ → List ℕ
  Left at = kept_lengths ids held images (places_past s at es)

  -- how many objects and tombstones there are from an offset on
  abbrev pub Many : ℕ → ℕ
  Many at = length (places_past s at es)

  module _ (at : ℕ) (x : Seen) (one : IsSeenAt held.seed es at x) where
    first_is : places_past s at es ≡ place_at s at ∷ places_past s (at + seen_len x) es
    first_is =
        past_data es s at one.entry one.lies (shows_data held.seed one.entry x one.shows)
        ∙ ap (λ (n : ℕ). place_at s at ∷ places_past s (at + n) es) (sym (shows_len held.seed one.entry x one.shows))

    first_lengths : Left at ≡ cond (is_seen_kept ids held (place_at s at) x) (seen_len x ∷ []) [] ++ Left
        (at + seen_len x)
    first_lengths =
        ap (kept_lengths ids held images) first_is
        ∙ lengths_cons ids held images (place_at s at) (places_past s (at + seen_len x) es) one.entry one.valid one.lies
        ∙ ap (λ (b : Bool). cond b (length (spelling one.entry) ∷ []) [] ++ Left (at + seen_len x))
        (sym (told_kept ids held (place_at s at) one.entry x one.shows))
        ∙ ap (λ (n : ℕ). cond (is_seen_kept ids held (place_at s at) x) (n ∷ []) [] ++ Left (at + seen_len x))
        (sym (shows_len held.seed one.entry x one.shows))

  cond_one : (b : Bool) (n : ℕ) (ns ks : List ℕ) → cond b (n ∷ []) [] ++ (ns ++ ks) ≡ cond b (n ∷ ns) ns ++ ks
  cond_one true n ns ks = refl
  cond_one false n ns ks = refl

  -- those that were read come first
  pub batch_lengths : (at : ℕ) (xs : List Seen) → AreSeenFrom held.seed es at xs
      → Left at ≡ seen_lengths ids held s at xs ++ Left (at + Bytes xs)
  batch_lengths at [] all = ap Left (omega arith)
  batch_lengths at (x ∷ xs) all =
      let next : at + seen_len x + Bytes xs ≡ at + Bytes (x ∷ xs) = omega (arith, sum_by-cons seen_len x xs) in
      let keeps = is_seen_kept ids held (place_at s at) x in
      first_lengths at x all.0
      ∙ ap (λ (ns : List ℕ). cond keeps (seen_len x ∷ []) [] ++ ns)
      (batch_lengths (at + seen_len x) xs all.1
      ∙ ap (λ (n : ℕ). seen_lengths ids held s (at + seen_len x) xs ++ Left n) next)
      ∙ cond_one keeps (seen_len x) (seen_lengths ids held s (at + seen_len x) xs) (Left (at + Bytes (x ∷ xs)))

  pub batch_many : (at : ℕ) (xs : List Seen) → AreSeenFrom held.seed es at xs
      → Many at ≡ length xs + Many (at + Bytes xs)
  batch_many at [] all = let same : Many at ≡ Many (at + Bytes []) = ap Many (omega arith) in omega (arith, same)
  batch_many at (x ∷ xs) all =
      let next : at + seen_len x + Bytes xs ≡ at + Bytes (x ∷ xs) = omega (arith, sum_by-cons seen_len x xs) in
      let first = ap (λ (ps : List Place). length ps) (first_is at x all.0) in
      let later = batch_many (at + seen_len x) xs all.1 ∙ ap (λ (n : ℕ). length xs + Many n) next in
      omega (arith, first, later)

  batch_short : (at : ℕ) (xs : List Seen) → AreSeenFrom held.seed es at xs → AllByRecursion IsShort xs
  batch_short at [] all = tt
  batch_short at (x ∷ xs) all =
      let le = all.0.limit in (omega (arith, le), batch_short (at + seen_len x) xs all.1)

  -- what was read ahead
  pub ahead_from : (at : ℕ) (xs : List Seen) → IsAhead held.seed es at xs → AreSeenFrom held.seed es at xs
  ahead_from at [] none = absurd none
  ahead_from at (x ∷ xs) all = all

  pub ahead_short : (at : ℕ) (xs : List Seen) → IsAhead held.seed es at xs → AllByRecursion IsShort xs
  ahead_short at xs is = batch_short at xs (ahead_from at xs is)

  pub ahead_some : (at : ℕ) (xs : List Seen) → IsAhead held.seed es at xs → 0 < length xs
  ahead_some at [] none = absurd none
  ahead_some at (x ∷ xs) all = omega arith

  -- there are no more places than bytes
  from_few : (at : ℕ) (xs : List Entry) → length (places_from s at xs) ≤ length (text_of xs)
  from_few at [] = omega arith
  from_few at (e ∷ later) =
      let rest = from_few (at + length (spelling e)) later in
      let some = spelling-some e in
      go (is_data e) (omega (arith, length_first e later, rest, some))
    where
      go : (b : Bool) → suc (length (places_from s (at + length (spelling e)) later)) ≤ length (text_of (e ∷ later))
          → length (cond b (place_at s at ∷ places_from s (at + length (spelling e)) later)
          (places_from s (at + length (spelling e)) later)) ≤ length (text_of (e ∷ later))
      go true le = le
      go false le = omega (arith, le)

  -- ---- the loop

  -- What is kept before the offset was filled in.
  pub record IsFilling (limit : ℕ) (from : Level) (at : ℕ) (level : Level) : Type 0 where
    pub between : IsBetween es at
    pub same : filled limit level (Left at) ≡ filled limit from (Left 0)
    pub few : level.survivor + Many at ≤ 3 + Many 0
    pub bytes : level.len ≤ 16777216

  pub filling_start : (limit : ℕ) (from : Level) → from.survivor < 4 → from.len ≤ 16777216 → IsFilling limit from 0 from
  filling_start limit from few bytes =
      record { between = between_start es; same = refl; few = omega (arith, few); bytes = bytes }

  module _ (limit : ℕ) (from level : Level) (at start : ℕ) (f : IsFilling limit from at level)
      (finds : places_past s start es ≡ places_past s at es) (xs : List Seen) (is : IsAhead held.seed es start xs) where
    pub batch_few : length (text_of es) ≤ 8388608 → level.survivor + length xs < 4294967296
    batch_few limited =
        let most = from_few 0 es in
        let all = ap (λ (ps : List Place). length ps) (past_start s es) in
        let here = ap (λ (ps : List Place). length ps) finds in
        let many = batch_many start xs (ahead_from start xs is) in
        let few = f.few in
        omega (arith, limited, most, all, here, many, few)

    module _ (end : ℕ) (to : end ≡ start + Bytes xs) (next : Level)
        (filled_is : next ≡ filled limit level (seen_lengths ids held s (end - Bytes xs) xs)) where
      pub batch_less : Many end < Many at
      batch_less =
          let here = ap (λ (ps : List Place). length ps) finds in
          let many = batch_many start xs (ahead_from start xs is) ∙ ap (λ (n : ℕ). length xs + Many n) (sym to) in
          let some = ahead_some start xs is in
          omega (arith, here, many, some)

      pub filling_next : IsBetween es end → next.survivor ≤ level.survivor + length xs → next.len ≤ 16777216
          → IsFilling limit from end next
      filling_next between few bytes =
          let back : end - Bytes xs ≡ start = omega (arith, to) in
          let lengths : Left at ≡ seen_lengths ids held s start xs ++ Left end =
          ap (kept_lengths ids held images) (sym finds)
          ∙ batch_lengths start xs (ahead_from start xs is)
          ∙ ap (λ (n : ℕ). seen_lengths ids held s start xs ++ Left n) (sym to) in
          let here = ap (λ (ps : List Place). length ps) finds in
          let many = batch_many start xs (ahead_from start xs is) ∙ ap (λ (n : ℕ). length xs + Many n) (sym to) in
          let was = f.few in
          record {
            between = between;
            same =
                ap (λ (a : Level). filled limit a (Left end))
                (filled_is ∙ ap (λ (n : ℕ). filled limit level (seen_lengths ids held s n xs)) back)
                ∙ sym (filled_on limit level (seen_lengths ids held s start xs) (Left end))
                ∙ sym (ap (filled limit level) lengths)
                ∙ f.same;
            few = omega (arith, here, many, was, few);
            bytes = bytes;
          }

  pub filling_end : (limit : ℕ) (from : Level) (at : ℕ) (level : Level) → IsFilling limit from at level
      → ((z : ℕ) → places_past z at es ≡ []) → IsSegment es
      → level ≡ filled limit from (segment_lengths ids held s es)
  filling_end limit from at level f none valid =
      ap (filled limit level) (sym (ap (kept_lengths ids held images) (none s)))
      ∙ f.same
      ∙ ap (λ (ps : List Place). filled limit from (kept_lengths ids held images ps)) (past_start s es)
      ∙ ap (filled limit from) (lengths_of_segment ids held images s valid)
