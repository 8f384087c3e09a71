-- One entry is treated.
use Rattle.std.proofs.Common.{◌≡◌, ℕ, ◌+◌, Bool, true, false, cond, List, [], ◌∷◌, length, refl, sym, ap, subst}
use Rattle.std.proofs.Common.{◌∙◌}
use Rattle.std.specs.Prelude.{Option, Some, None, IsSome, IsSomeAnd, IfSome, unwrap_or}
use Rattle.std.specs.List.{AllByRecursion}
use Rattle.std.specs.Option.{option_and_then}
use Rattle.entry.specs.declared.entry.Object.{Object}
use Rattle.entry.specs.declared.entry.Tombstone.{Tombstone}
use Rattle.entry.specs.declared.entry.Entry.{Entry}
use Rattle.entry.specs.declared.entry.Entry.TheVariants as entry
use Rattle.entry.specs.Format.{spelling}
use Rattle.entry.specs.Text.{text_of}
use Rattle.segment.specs.Bytes.{standing_at}
use Rattle.places.specs.declared.place.Place.{Place}
use Rattle.places.specs.declared.place.Held.{Held}
use Rattle.places.specs.Hashing.{hash_of}
use Rattle.places.specs.Map.{Places}
use Rattle.places.specs.Relocation.{holds, held_of, relocated}
use Rattle.images.specs.Image.{Image}
use Rattle.images.specs.Sorted.{segment_of, changed}
use Rattle.images.specs.Images.{ImagesValue}
use Rattle.images.specs.Steps.{entry_at, with_unit, StandsData, HasData}
use Rattle.compactor.specs.Kept.{kept, has_id}
use Rattle.cleaner.specs.declared.pass.Copied.{Copied}
use Rattle.cleaner.specs.declared.pass.Copied.TheVariants as copied
use Rattle.cleaner.specs.declared.ahead.Seen.{Seen}
use Rattle.cleaner.specs.declared.ahead.Seen.TheVariants as seen
use Rattle.cleaner.specs.declared.treating.Fate.{Fate}
use Rattle.cleaner.specs.declared.treating.Fate.TheVariants as fate
use Rattle.cleaner.specs.declared.level.Level.{Level}
use Rattle.cleaner.specs.declared.survivors.Survivors.{Survivors}
use Rattle.cleaner.specs.Filling.{filled_one}
use Rattle.cleaner.specs.KeptLengths.{lengths_at}
use Rattle.cleaner.specs.Passes.{images_in, level_at, filling_with, copied_as, copy_place, images_with, held_with}
use Rattle.cleaner.specs.Passes.{seen_of, seen_len, IsSeenAt}
use Rattle.cleaner.specs.Walks.{fate_by, IsSeen, HasFate, Treats}
use Rattle.cleaner.proofs.Reading.{shows_data, shows_len}
use Rattle.cleaner.proofs.Keeping.{stands, stands_data}
use Rattle.cleaner.proofs.Lengths.{One, at_stands}
use Rattle.cleaner.proofs.Rooms.{of_read, all_read}

-- the entry that is seen is read
pub seen_at : (images : List Image) (p : Place) (n : ℕ) (e : Entry) → IsSome (segment_of images p.segment)
    → IsSeen (images_in images) p n e → entry_at images p.segment p.at ≡ Some e
seen_at images p n e there seen = go (segment_of images p.segment) refl there
  where
    go : (o : Option (List Entry)) → segment_of images p.segment ≡ o → IsSome o
        → option_and_then (λ (es : List Entry). standing_at p.at (text_of es)) o ≡ Some e
    go None is none = absurd (cc)
    go (Some es) is some =
        let own : images_in images p.segment ≡ es = ap (λ (x : Option (List Entry)). unwrap_or x []) is in
        ap (λ (xs : List Entry). standing_at p.at (text_of xs)) (sym own)
        ∙ stands (images_in images p.segment) p.at e seen.valid seen.stands

-- ---- by what is found

module _ (p : Place) (survivor : ℕ) (images : List Image) (held : Places) where
  -- what is told, and what the images and the index are then
  abbrev pub Does : Bool → Entry → Copied → List Image → Places → Type 0
  Does b e copied after later =
      (copied ≡ copied_as b e) × (after ≡ images_with b survivor e images)
      × (later ≡ held_with b p (copy_place survivor images) e held)

  pub does_object : (b : Bool) (e : Entry) (h : Held) (after : List Image) (later : Places)
      → fate_by held b p e ≡ fate.Object h
      → after ≡ changed images survivor (with_unit (e ∷ [])) → later ≡ relocated h (copy_place survivor images) held
      → Does b e copied.Moved after later
  does_object false e h after later is grown index = absurd (cc)
  does_object true (entry.Header x) h after later is grown index = absurd (cc)
  does_object true (entry.Digest x) h after later is grown index = absurd (cc)
  does_object true (entry.Safe x) h after later is grown index = absurd (cc)
  does_object true (entry.Tombstone x) h after later is grown index = absurd (cc)
  does_object true (entry.Object o) h after later is grown index =
      let same : h ≡ held_of held o.key p = cc in
      (refl, grown, index ∙ ap (λ (x : Held). relocated x (copy_place survivor images) held) same)

  pub does_tombstone : (b : Bool) (e : Entry) (after : List Image) (later : Places)
      → fate_by held b p e ≡ fate.Tombstone
      → after ≡ changed images survivor (with_unit (e ∷ [])) → later ≡ held → Does b e copied.Carried after later
  does_tombstone false e after later is grown index = absurd (cc)
  does_tombstone true (entry.Header x) after later is grown index = (refl, grown, index)
  does_tombstone true (entry.Digest x) after later is grown index = (refl, grown, index)
  does_tombstone true (entry.Safe x) after later is grown index = (refl, grown, index)
  does_tombstone true (entry.Tombstone x) after later is grown index = (refl, grown, index)
  does_tombstone true (entry.Object o) after later is grown index = absurd (cc)

  pub does_dead : (b : Bool) (e : Entry) → fate_by held b p e ≡ fate.Dead → Does b e copied.Dropped images held
  does_dead false e is = (refl, refl, refl)
  does_dead true (entry.Header x) is = absurd (cc)
  does_dead true (entry.Digest x) is = absurd (cc)
  does_dead true (entry.Safe x) is = absurd (cc)
  does_dead true (entry.Tombstone x) is = absurd (cc)
  does_dead true (entry.Object x) is = absurd (cc)

-- what is found as an object or a tombstone is kept
pub object_kept : (held : Places) (p : Place) (b : Bool) (e : Entry) (h : Held) → fate_by held b p e ≡ fate.Object h
    → b ≡ true
object_kept held p true e h is = refl
object_kept held p false e h is = absurd (cc)

pub tombstone_kept : (held : Places) (p : Place) (b : Bool) (e : Entry) → fate_by held b p e ≡ fate.Tombstone
    → b ≡ true
tombstone_kept held p true e is = refl
tombstone_kept held p false e is = absurd (cc)

-- what is found dead isn't
pub dead_kept : (held : Places) (p : Place) (b : Bool) (e : Entry) → fate_by held b p e ≡ fate.Dead → b ≡ false
dead_kept held p false e is = refl
dead_kept held p true (entry.Header x) is = absurd (cc)
dead_kept held p true (entry.Digest x) is = absurd (cc)
dead_kept held p true (entry.Safe x) is = absurd (cc)
dead_kept held p true (entry.Object x) is = absurd (cc)
dead_kept held p true (entry.Tombstone x) is = absurd (cc)

-- ---- by what was read

fate_of_object_as : (held : Places) (p : Place) (o : Object) (hash : ℕ) (b : Bool) → hash_of held.seed o.key ≡ hash
    → fate_by held b p (entry.Object o) ≡ cond b (fate.Object (record { hash = hash; place = p })) fate.Dead
fate_of_object_as held p o hash true same = ap (λ (h : ℕ). fate.Object (record { hash = h; place = p })) same
fate_of_object_as held p o hash false same = refl

fate_of_tombstone_as : (held : Places) (p : Place) (t : Tombstone) (b : Bool)
    → fate_by held b p (entry.Tombstone t) ≡ cond b fate.Tombstone fate.Dead
fate_of_tombstone_as held p t true = refl
fate_of_tombstone_as held p t false = refl

-- an object is found by its hash
pub fate_of_object : (ids : List ℕ) (held : Places) (p : Place) (e : Entry) (hash n : ℕ) (b : Bool)
    → seen_of held.seed e ≡ Some (seen.Object hash n) → holds held (record { hash = hash; place = p }) ≡ b
    → fate_by held (kept ids held p e) p e ≡ cond b (fate.Object (record { hash = hash; place = p })) fate.Dead
fate_of_object ids held p (entry.Header h) hash n b is test = absurd (cc)
fate_of_object ids held p (entry.Digest l) hash n b is test = absurd (cc)
fate_of_object ids held p (entry.Safe v) hash n b is test = absurd (cc)
fate_of_object ids held p (entry.Tombstone t) hash n b is test = absurd (cc)
fate_of_object ids held p (entry.Object o) hash n b is test =
    let same : hash_of held.seed o.key ≡ hash = cc in
    ap (λ (t : Bool). fate_by held t p (entry.Object o))
    (ap (λ (h : ℕ). holds held (record { hash = h; place = p })) same ∙ test)
    ∙ fate_of_object_as held p o hash b same

-- a tombstone by the segment that it names
pub fate_of_tombstone : (ids : List ℕ) (held : Places) (p : Place) (e : Entry) (segment n : ℕ) (b : Bool)
    → seen_of held.seed e ≡ Some (seen.Tombstone segment n) → has_id ids segment ≡ b
    → fate_by held (kept ids held p e) p e ≡ cond b fate.Tombstone fate.Dead
fate_of_tombstone ids held p (entry.Header h) segment n b is test = absurd (cc)
fate_of_tombstone ids held p (entry.Digest l) segment n b is test = absurd (cc)
fate_of_tombstone ids held p (entry.Safe v) segment n b is test = absurd (cc)
fate_of_tombstone ids held p (entry.Object o) segment n b is test = absurd (cc)
fate_of_tombstone ids held p (entry.Tombstone t) segment n b is test =
    let same : t.segment ≡ segment = cc in
    ap (λ (x : Bool). fate_by held x p (entry.Tombstone t)) (ap (has_id ids) same ∙ test)
    ∙ fate_of_tombstone_as held p t b

-- what is found is seen
pub has_fate : (ids : List ℕ) (held : Places) (images : ℕ → List Entry) (p : Place) (f : Fate) (x : Seen)
    → (one : IsSeenAt held.seed (images p.segment) p.at x) → fate_by held (kept ids held p one.entry) p one.entry ≡ f
    → HasFate ids held images p f (seen_len x)
has_fate ids held images p f x one is = (
  one.entry,
  record {
    stands = one.lies;
    valid = one.valid;
    of_data = shows_data held.seed one.entry x one.shows;
    size = shows_len held.seed one.entry x one.shows;
  },
  sym is,
)

-- ---- a copy

-- nothing but the images changes
pub others_are : (new old : ImagesValue) (xs : List Image) → new ≡ record old { images = xs }
    → new ≡ record old { images = new.images }
others_are new old xs is =
    is ∙ ap (λ (ys : List Image). record old { images = ys }) (sym (ap (λ (v : ImagesValue). v.images) is))

module _ (images : List Image) (p : Place) (n : ℕ) (e : Entry) where
  module _ (there : IsSome (segment_of images p.segment)) (seen : IsSeen (images_in images) p n e) where
    abbrev Read : Option Entry
    Read = entry_at images p.segment p.at

    pub copy_data : HasData images p.segment p.at n
    copy_data = go (segment_of images p.segment) refl there
      where
        go : (o : Option (List Entry)) → segment_of images p.segment ≡ o → IsSome o
            → IsSomeAnd o (λ (es : List Entry). StandsData (text_of es) p.at n)
        go None is none = absurd (cc)
        go (Some es) is some =
            let own : images_in images p.segment ≡ es = ap (λ (x : Option (List Entry)). unwrap_or x []) is in
            subst (λ (xs : List Entry). StandsData (text_of xs) p.at n) own
            (stands_data (images_in images p.segment) p.at n e seen.valid seen.of_data seen.size seen.stands)

    pub copy_room : (ids : List ℕ) (held : Places) (P : ℕ → Type 0) → kept ids held p e ≡ true
        → AllByRecursion P (lengths_at ids held p (standing_at p.at (text_of (images_in images p.segment))))
        → IfSome Read (λ (x : Entry). P (length (spelling x)))
    copy_room ids held P keeps room =
        let lengths : lengths_at ids held p (standing_at p.at (text_of (images_in images p.segment)))
        ≡ length (spelling e) ∷ [] =
        at_stands ids held (images_in images) p e seen.valid seen.stands ∙ ap (λ (b : Bool). One b e) keeps in
        all_read Read e (λ (x : Entry). P (length (spelling x))) (seen_at images p n e there seen)
        (subst (AllByRecursion P) lengths room).0

    -- what is appended is the entry
    pub copied_is : (survivor : ℕ) (new old : ImagesValue) → IfSome Read (λ (x : Entry). new ≡
        record old { images = changed images survivor (with_unit (x ∷ [])) })
        → new ≡ record old { images = changed images survivor (with_unit (e ∷ [])) }
    copied_is survivor new old is = of_read Read e (λ (x : Entry). new ≡
        record old { images = changed images survivor (with_unit (x ∷ [])) }) (seen_at images p n e there seen) is

    -- it goes to the survivor that is filled then
    pub filled_is : (ids : List ℕ) (held : Places) (segment : ℕ) (a : Level) (after : ℕ) → kept ids held p e ≡ true
        → IfSome Read (λ (x : Entry). after ≡ (filled_one segment a (length (spelling x))).survivor)
        → after ≡ filling_with (kept ids held p e) segment a e
    filled_is ids held segment a after keeps is =
        of_read Read e (λ (x : Entry). after ≡ (filled_one segment a (length (spelling x))).survivor)
        (seen_at images p n e there seen) is
        ∙ sym (ap (λ (b : Bool). filling_with b segment a e) keeps)

  pub treats : (seen : IsSeen (images_in images) p n e) (segment : ℕ) (ids : List ℕ) (held : Places) (s : Survivors)
      (filling : ℕ) (copied : Copied) (filling_after : ℕ) (after : List Image) (later : Places)
      → filling_after ≡ filling_with (kept ids held p e) segment (level_at s filling images) e
      → Does p (s.first + filling_after) images held (kept ids held p e) e copied after later
      → Treats segment ids images held p s filling copied n filling_after after later
  treats seen segment ids held s filling copied filling_after after later filled does =
      record { entry = e; seen = seen; told = does.0; filled = filled; grown = does.1; index = does.2 }
