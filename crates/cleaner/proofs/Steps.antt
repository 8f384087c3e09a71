-- A step of a pass.
use Rattle.std.proofs.Common.{◌≡◌, ℕ, suc, ◌+◌, ◌<◌, ◌≤◌, Bool, true, false, cond, List, [], ◌∷◌, ◌++◌, length, drop}
use Rattle.std.proofs.Common.{get_or, refl, sym, ap, subst, ◌∙◌, inl, inr, arith}
use Rattle.std.specs.Prelude.{Option, Some, None, IsSome}
use Rattle.std.specs.List.{AllByRecursion}
use Rattle.std.proofs.lemmas.Bool.{eq-eqb}
use Rattle.std.proofs.lemmas.List.{drop_more}
use Rattle.entry.specs.declared.entry.Entry.{Entry}
use Rattle.entry.specs.declared.entry.Entry.TheVariants as entry
use Rattle.entry.specs.Bag.{IsAmong}
use Rattle.entry.specs.Format.{spelling}
use Rattle.entry.specs.Text.{text_of}
use Rattle.entry.proofs.ListLemmas.{all_weaker}
use Rattle.segment.specs.Bytes.{standing_at}
use Rattle.places.specs.declared.place.Place.{Place}
use Rattle.places.specs.Map.{Places}
use Rattle.images.specs.Image.{Image}
use Rattle.images.specs.Sorted.{IsWhole, segment_of}
use Rattle.compactor.specs.Kept.{kept}
use Rattle.cleaner.specs.declared.pass.Cursor.{Cursor}
use Rattle.cleaner.specs.declared.pass.Pass.{Pass}
use Rattle.cleaner.specs.declared.pass.Copied.{Copied}
use Rattle.cleaner.specs.Filling.{filled_one, HasRooms}
use Rattle.cleaner.specs.KeptLengths.{lengths_at, kept_lengths, HasRoomsIn}
use Rattle.cleaner.specs.Passes.{images_in, survivor_ids, rest_of, is_at_end, places_on, level_of, filling_with}
use Rattle.cleaner.specs.Passes.{next_len, copy_place, images_with, held_with, AreVictims, IsAhead, IsCursorAt}
use Rattle.cleaner.specs.Passes.{IsPass, CopiesOne}
use Rattle.cleaner.specs.Walks.{IsAtData, GoesTo, HasPlace, Treats}
use Rattle.cleaner.proofs.Fillings.{rooms_have_next, rooms_count, copy_leaves}
use Rattle.cleaner.proofs.Images.{len_is, is_victim, are_there, with_whole, with_victims, with_same}
use Rattle.cleaner.proofs.Lengths.{One, at_stands}
use Rattle.cleaner.proofs.Places.{place_at, on_data, on_same, among_drop}
use Rattle.cleaner.proofs.Reading.{ahead_data}

-- what becomes of an object's place leaves the seed
with_seed : (b : Bool) (p to : Place) (e : Entry) (held : Places) → (held_with b p to e held).seed ≡ held.seed
with_seed false p to e held = refl
with_seed true p to (entry.Header h) held = refl
with_seed true p to (entry.Digest ids) held = refl
with_seed true p to (entry.Safe version) held = refl
with_seed true p to (entry.Object o) held = refl
with_seed true p to (entry.Tombstone t) held = refl

module _ (seed : List ℕ) (p : Pass) (images : List Image) (pass : IsPass seed images p)
    (more : is_at_end p ≡ false) where
  -- a victim is left
  pub lt : p.cursor.victim < length p.victims
  lt =
      let within = pass.within in
      omega (arith, within, λ (is : p.cursor.victim ≡ length p.victims). never is)
    where
      never : p.cursor.victim ≡ length p.victims → ⊥
      never is = let so : is_at_end p ≡ true = eq-eqb p.cursor.victim (length p.victims) is in absurd (cc)

  abbrev pub own : ℕ
  own = get_or p.victims p.cursor.victim 0

  abbrev others : List ℕ
  others = drop (p.cursor.victim + 1) p.victims

  split : drop p.cursor.victim p.victims ≡ own ∷ others
  split = drop_more p.victims p.cursor.victim 0 lt

  own_among : IsAmong own p.victims
  own_among =
      among_drop p.cursor.victim p.victims own (subst (λ (ids : List ℕ). IsAmong own ids) (sym split) (inl refl))

  pub own_there : IsSome (segment_of images own)
  own_there = (is_victim images p.survivors.first p.victims own pass.victims own_among).0

  pub own_below : own < p.survivors.first
  own_below = (is_victim images p.survivors.first p.victims own pass.victims own_among).1

  pub own_ahead : IsAhead seed (images_in images own) p.cursor.at p.cursor.ahead
  own_ahead = subst (λ (ids : List ℕ). IsCursorAt seed (images_in images) ids p.cursor) split pass.cursor

  own_data : IsAtData (images_in images own) p.cursor.at
  own_data = ahead_data seed (images_in images own) p.cursor.at p.cursor.ahead own_ahead

  abbrev pub Here : Place
  Here = place_at own p.cursor.at

  abbrev Behind : ℕ → List Place
  Behind n = places_on (images_in images) (own ∷ others) (p.cursor.at + n)

  -- the place is the first of those that are left
  first : rest_of (images_in images) p ≡ Here ∷ Behind (length (spelling own_data.0))
  first =
      ap (λ (ids : List ℕ). places_on (images_in images) ids p.cursor.at) split
      ∙ on_data (images_in images) own others p.cursor.at own_data.0 own_data.1 own_data.2

  -- if it is kept, it has a place in the survivors
  module _ (segment : ℕ) (ids : List ℕ) (held : Places) (room : HasRoomsIn segment ids p images held) where
    abbrev count : ℕ
    count = p.survivors.count

    abbrev Own : List ℕ
    Own = lengths_at ids held Here (standing_at p.cursor.at (text_of (images_in images own)))

    own_rooms : HasRooms segment count (level_of p images)
        (Own ++ kept_lengths ids held (images_in images) (Behind (length (spelling own_data.0))))
    own_rooms =
        subst (HasRooms segment count (level_of p images)) (ap (kept_lengths ids held (images_in images)) first)
        room.rooms

    has_place : (n : ℕ) (ns : List ℕ) → HasRooms segment count (level_of p images) (n ∷ ns)
        → HasPlace segment p.survivors p.filling images n
    has_place n ns r =
        let next = rooms_have_next segment count n (level_of p images) ns r in (
          next.0,
          elim next.1 [
            | inl le ↦ inl (omega (arith, le, len_is images (p.survivors.first + p.filling)))
            | inr more ↦ inr (
                let fits = more.2 in
                let blank = room.blank (suc p.filling) (omega arith) more.1 in
                (more.1, omega (arith, fits, blank, len_is images (p.survivors.first + suc p.filling))))
          ],
        )

    pub own_room : AllByRecursion (HasPlace segment p.survivors p.filling images) Own
    own_room = go (standing_at p.cursor.at (text_of (images_in images own))) own_rooms where
      by_test : (b : Bool) (e : Entry) (ns : List ℕ)
          → HasRooms segment count (level_of p images) (cond b (length (spelling e) ∷ []) [] ++ ns)
          → AllByRecursion (HasPlace segment p.survivors p.filling images) (cond b (length (spelling e) ∷ []) [])
      by_test true e ns r = (has_place (length (spelling e)) ns r, tt)
      by_test false e ns r = tt

      go : (o : Option Entry) → HasRooms segment count (level_of p images) (lengths_at ids held Here o
          ++ kept_lengths ids held (images_in images) (Behind (length (spelling own_data.0))))
          → AllByRecursion (HasPlace segment p.survivors p.filling images) (lengths_at ids held Here o)
      go None r = tt
      go (Some e) r = by_test (kept ids held Here e) e
          (kept_lengths ids held (images_in images) (Behind (length (spelling own_data.0)))) r

    pub filling_there : p.filling < count
    filling_there = rooms_count segment count (level_of p images)
        (kept_lengths ids held (images_in images) (rest_of (images_in images) p)) room.rooms

  -- ---- the entry is treated

  module _ (segment : ℕ) (ids : List ℕ) (held : Places) (of : held.seed ≡ seed) (copied : Copied) (n to : ℕ)
      (after : List Image) (later : Places)
      (t : Treats segment ids images held Here p.survivors p.filling copied n to after later) where
    abbrev keeps : Bool
    keeps = kept ids held Here t.entry

    abbrev Target : ℕ
    Target = p.survivors.first + to

    below_target : p.survivors.first ≤ Target
    below_target = omega arith

    -- the seed stays
    after_seed : later.seed ≡ seed
    after_seed =
        ap (λ (hs : Places). hs.seed) t.index ∙ with_seed keeps Here (copy_place Target images) t.entry held ∙ of

    after_same : (s : ℕ) → IsAmong s p.victims → images_in after s ≡ images_in images s
    after_same s m =
        ap (λ (xs : List Image). images_in xs s) t.grown
        ∙ with_same images Target t.entry p.survivors.first below_target keeps p.victims pass.victims s m

    pub after_there : AllByRecursion (λ (s : ℕ). IsSome (segment_of after s)) p.victims
    after_there =
        subst (λ (xs : List Image). AllByRecursion (λ (s : ℕ). IsSome (segment_of xs s)) p.victims) (sym t.grown)
        (are_there (images_with keeps Target t.entry images) p.survivors.first p.victims
        (with_victims images Target t.entry p.survivors.first below_target keeps p.victims pass.victims))

    -- what was read ahead is there still
    pub after_cursor : IsCursorAt later.seed (images_in after) (drop p.cursor.victim p.victims) p.cursor
    after_cursor =
        subst (λ (s : List ℕ). IsCursorAt s (images_in after) (drop p.cursor.victim p.victims) p.cursor)
        (sym after_seed)
        (subst (λ (xs : List ℕ). IsCursorAt seed (images_in after) xs p.cursor) (sym split)
        (subst (λ (es : List Entry). IsAhead seed es p.cursor.at p.cursor.ahead)
        (sym (after_same own own_among)) own_ahead))

    -- the places behind it are left
    behind : places_on (images_in after) (drop p.cursor.victim p.victims) (p.cursor.at + n)
        ≡ places_on (images_in images) (own ∷ others) (p.cursor.at + length (spelling t.entry))
    behind =
        on_same (images_in images) (images_in after) (drop p.cursor.victim p.victims) (p.cursor.at + n)
        (λ s m. after_same s (among_drop p.cursor.victim p.victims s m))
        ∙ ap (λ (xs : List ℕ). places_on (images_in images) xs (p.cursor.at + n)) split
        ∙ ap Behind t.seen.size

    -- the survivor that is filled then is one of them
    pub filling_after : HasRoomsIn segment ids p images held → to < p.survivors.count
    filling_after room =
        go keeps (t.filled) (subst (HasRooms segment p.survivors.count (level_of p images))
        (ap (λ (ns : List ℕ). ns ++ kept_lengths ids held (images_in images) (Behind (length (spelling own_data.0))))
        (at_stands ids held (images_in images) Here t.entry t.seen.valid t.seen.stands))
        (own_rooms segment ids held room))
      where
        go : (b : Bool) → to ≡ filling_with b segment (level_of p images) t.entry
            → HasRooms segment p.survivors.count (level_of p images)
            (One b t.entry ++ kept_lengths ids held (images_in images) (Behind (length (spelling own_data.0))))
            → to < p.survivors.count
        go true is r =
            let left = kept_lengths ids held (images_in images) (Behind (length (spelling own_data.0))) in
            let a = level_of p images in
            let n = length (spelling t.entry) in
            let lt = rooms_count segment p.survivors.count (filled_one segment a n) left
            (copy_leaves segment p.survivors.count a n left r) in
            omega (arith, is, lt)
        go false is r = let lt = filling_there segment ids held room in omega (arith, is, lt)

    module _ (size : next_len p ≡ n) (there : to < p.survivors.count) (cursor : Cursor)
        (goes : GoesTo later.seed (images_in after) p.victims (record {
          victim = p.cursor.victim;
          at = p.cursor.at + n;
        }) cursor) where
      abbrev Then : Pass
      Then = record p { cursor = cursor; filling = to }

      pub copies : CopiesOne segment ids p images held copied Then after later
      copies = record {
        place = Here;
        later = Behind (length (spelling t.entry));
        entry = t.entry;
        first =
            ap (λ (xs : List ℕ). places_on (images_in images) xs p.cursor.at) split
            ∙ on_data (images_in images) own others p.cursor.at t.entry t.seen.stands t.seen.of_data;
        victim = own_among;
        stands = t.seen.stands;
        valid = t.seen.valid;
        of_data = t.seen.of_data;
        size = size ∙ t.seen.size;
        told = t.told;
        filling = t.filled;
        within = there;
        survivor = t.grown;
        index = t.index;
        rest = goes.rest ∙ behind;
        pass = refl;
      }

      pub stays_pass : IsPass later.seed after Then
      stays_pass = record {
        victims =
            subst (λ (xs : List Image). AreVictims xs p.survivors.first p.victims) (sym t.grown)
            (with_victims images Target t.entry p.survivors.first below_target keeps p.victims pass.victims);
        whole =
            subst (λ (xs : List Image). AllByRecursion (IsWhole xs) (survivor_ids p.survivors)) (sym t.grown)
            (all_weaker (IsWhole images) (IsWhole (images_with keeps Target t.entry images))
            (λ s whole. with_whole images Target t.entry keeps s whole) (survivor_ids p.survivors) pass.whole);
        numbers = pass.numbers;
        within = goes.within;
        cursor = goes.cursor;
      }
