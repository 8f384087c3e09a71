-- What is left to be copied after one entry.
use Rattle.std.proofs.Common.{◌≡◌, ℕ, suc, ◌+◌, ◌≤◌, Bool, true, false, List, [], ◌∷◌, ◌++◌, length, refl, sym, ap}
use Rattle.std.proofs.Common.{subst, ◌∙◌, inr, arith}
use Rattle.std.specs.Prelude.{Option, unwrap_or}
use Rattle.std.specs.Option.{option_to_list}
use Rattle.entry.specs.declared.key.Key.{Key}
use Rattle.entry.specs.declared.entry.Entry.{Entry}
use Rattle.entry.specs.declared.entry.Entry.TheVariants as entry
use Rattle.entry.specs.Bag.{IsAmong}
use Rattle.entry.specs.Format.{spelling}
use Rattle.entry.specs.Text.{text_of}
use Rattle.places.specs.declared.place.Place.{Place}
use Rattle.places.specs.Map.{Places}
use Rattle.places.specs.Relocation.{names}
use Rattle.places.proofs.Words.{named_before}
use Rattle.images.specs.Image.{Image}
use Rattle.images.specs.Sorted.{IsWhole}
use Rattle.compactor.specs.Kept.{kept}
use Rattle.cleaner.specs.declared.level.Level.{Level}
use Rattle.cleaner.specs.declared.pass.Pass.{Pass}
use Rattle.cleaner.specs.declared.pass.Copied.{Copied}
use Rattle.cleaner.specs.Filling.{filled_one, AreSome, HasRooms}
use Rattle.cleaner.specs.KeptLengths.{kept_lengths, lengths_left, HasRoomsIn}
use Rattle.cleaner.specs.Passes.{images_in, ids_in, rest_of, level_of, IsPass, CopiesOne, images_with, copy_place}
use Rattle.cleaner.specs.Passes.{held_with, filling_with}
use Rattle.cleaner.proofs.Places.{length_last}
use Rattle.cleaner.proofs.SurvivorIds.{all_ids}
use Rattle.cleaner.proofs.Fillings.{OneMore, Fits, Next, one_more, copy_leaves, fewer_rooms}
use Rattle.cleaner.proofs.Images.{is_victim, grown_own, with_other, with_ids, with_same}
use Rattle.cleaner.proofs.Lengths.{One, lengths_cons, lengths_agree, no_more_are_some}
use Rattle.cleaner.proofs.Ends.{rest_segment}
use Rattle.cleaner.proofs.RoomLaws.{level_same}

-- ---- the index

-- a place that isn't moved to is named afterwards only if it was before
was_named : (b : Bool) (p to : Place) (e : Entry) (k : Key) (r : Place) → (r ≡ to → ⊥) → (ps : Places)
    → names (held_with b p to e ps) k r ≡ true → names ps k r ≡ true
was_named false p to e k r other ps is = is
was_named true p to (entry.Header h) k r other ps is = is
was_named true p to (entry.Digest l) k r other ps is = is
was_named true p to (entry.Safe v) k r other ps is = is
was_named true p to (entry.Tombstone t) k r other ps is = is
was_named true p to (entry.Object o) k r other ps is = named_before o.key k p to r other ps is

-- what is kept afterwards at a place that isn't moved to was kept before
was_kept : (b : Bool) (p to : Place) (e : Entry) (ids : List ℕ) (hs : Places) (q : Place)
    → (to.segment ≡ q.segment → ⊥)
    → (f : Entry) → kept ids (held_with b p to e hs) q f ≡ true → kept ids hs q f ≡ true
was_kept b p to e ids hs q other (entry.Header h) is = is
was_kept b p to e ids hs q other (entry.Digest l) is = is
was_kept b p to e ids hs q other (entry.Safe v) is = is
was_kept b p to e ids hs q other (entry.Tombstone t) is = is
was_kept b p to e ids hs q other (entry.Object o) is =
    was_named b p to e o.key q (λ same. other (sym (ap (λ (r : Place). r.segment) same))) hs is

-- ---- the survivor

grown_len : (images : List Image) (survivor : ℕ) (e : Entry) → IsWhole images survivor
    → length (text_of (images_in (images_with true survivor e images) survivor))
    ≡ length (text_of (images_in images survivor)) + length (spelling e)
grown_len images survivor e whole =
    ap (λ (es : List Entry). length (text_of es)) (grown_own images survivor e whole)
    ∙ length_last (images_in images survivor) e

-- ---- what is left

module _ (segment : ℕ) (ids : List ℕ) (p q : Pass) (images after : List Image) (held later : Places) (copied : Copied)
    (pass : IsPass held.seed images p) (c : CopiesOne segment ids p images held copied q after later) where
  abbrev keeps : Bool
  keeps = kept ids held c.place c.entry

  abbrev Target : ℕ
  Target = p.survivors.first + q.filling

  abbrev To : Place
  To = copy_place Target images

  -- the pass once the entry is treated
  abbrev Then : Pass
  Then = record p { cursor = q.cursor; filling = q.filling }

  -- the places that are left are of victims
  left_victim : (r : Place) → IsAmong r c.later → IsAmong r.segment p.victims
  left_victim r m =
      rest_segment (images_in images) p r (subst (λ (ps : List Place). IsAmong r ps) (sym c.first) (inr m))

  left_other : (r : Place) → IsAmong r c.later → To.segment ≡ r.segment → ⊥
  left_other r m same =
      let lt = (is_victim images p.survivors.first p.victims r.segment pass.victims (left_victim r m)).1 in
      omega (arith, lt, same)

  left_images : (r : Place) → IsAmong r c.later → images_in after r.segment ≡ images_in images r.segment
  left_images r m =
      ap (λ (xs : List Image). images_in xs r.segment) c.survivor
      ∙ with_same images Target c.entry p.survivors.first (omega arith) keeps p.victims pass.victims r.segment
      (left_victim r m)

  abbrev Behind : List ℕ
  Behind = kept_lengths ids held (images_in images) c.later

  left_some : AreSome (lengths_left ids Then after later) Behind
  left_some =
      let rest : rest_of (images_in after) Then ≡ c.later = ap (rest_of (images_in after)) (sym c.pass) ∙ c.rest in
      let same : lengths_left ids Then after later ≡ kept_lengths ids later (images_in images) c.later =
      ap (kept_lengths ids later (images_in after)) rest
      ∙ lengths_agree ids later (images_in images) (images_in after) c.later left_images in
      subst (λ (ns : List ℕ). AreSome ns Behind) (sym same)
      (subst (λ (hs : Places). AreSome (kept_lengths ids hs (images_in images) c.later) Behind) (sym c.index)
      (no_more_are_some ids ids held (held_with keeps c.place To c.entry held) (images_in images) c.later
      (λ r e m is so. was_kept keeps c.place To c.entry ids held r (left_other r m) e so)))

  -- ---- by whether the entry is kept

  abbrev n : ℕ
  n = length (spelling c.entry)

  abbrev a : Level
  a = level_of p images

  abbrev count : ℕ
  count = p.survivors.count

  module _ (r : HasRoomsIn segment ids p images held) where
    rooms_by : HasRooms segment count a (One keeps c.entry ++ Behind)
    rooms_by =
        subst (HasRooms segment count a)
        (ap (kept_lengths ids held (images_in images)) c.first
        ∙ lengths_cons ids held (images_in images) c.place c.later c.entry c.valid c.stands) r.rooms

    left_by : (b : Level) → b ≡ level_of Then after → HasRooms segment count b Behind
        → HasRooms segment count (level_of Then after) (lengths_left ids Then after later)
    left_by b is rooms =
        subst (λ (x : Level). HasRooms segment count x (lengths_left ids Then after later)) is
        (fewer_rooms segment count b Behind (lengths_left ids Then after later) left_some rooms)

    passed : keeps ≡ false → HasRoomsIn segment ids Then after later
    passed dead =
        let images_same : after ≡ images = c.survivor ∙ ap (λ (b : Bool). images_with b Target c.entry images) dead in
        let at : q.filling ≡ p.filling = c.filling ∙ ap (λ (b : Bool). filling_with b segment a c.entry) dead in
        let len : length (text_of (images_in images (p.survivors.first + p.filling)))
        ≡ length (text_of (images_in after Target)) =
        ap (λ (i : ℕ). length (text_of (images_in images (p.survivors.first + i)))) (sym at)
        ∙ ap (λ (xs : List Image). length (text_of (images_in xs Target))) (sym images_same) in
        record {
          rooms =
              left_by a
              (level_same p.filling q.filling (length (text_of (images_in images (p.survivors.first + p.filling))))
              (length (text_of (images_in after Target))) (sym at) len)
              (subst (λ (b : Bool). HasRooms segment count a (One b c.entry ++ Behind)) dead rooms_by);
          blank = λ i lt less.
              ap (λ (xs : List Image). length (text_of (images_in xs (p.survivors.first + i)))) images_same
              ∙ r.blank i (omega (arith, at, lt)) less;
        }

    module _ (live : keeps ≡ true) where
      rooms_first : HasRooms segment count a (n ∷ Behind)
      rooms_first = subst (λ (b : Bool). HasRooms segment count a (One b c.entry ++ Behind)) live rooms_by

      images_now : after ≡ images_with true Target c.entry images
      images_now = c.survivor ∙ ap (λ (b : Bool). images_with b Target c.entry images) live

      other_image : (s : ℕ) → (s ≡ Target → ⊥) → images_in after s ≡ images_in images s
      other_image s other =
          ap (λ (xs : List Image). images_in xs s) images_now
          ∙ ap (λ (o : Option (List Entry)). unwrap_or o []) (with_other images Target c.entry true s other)

      -- where it goes
      grown : length (text_of (images_in after Target)) ≡ length (text_of (images_in images Target)) + n
      grown =
          ap (λ (xs : List Image). length (text_of (images_in xs Target))) images_now
          ∙ grown_len images Target c.entry
          (all_ids (IsWhole images) p.survivors.first count q.filling pass.whole c.within)

      reached : q.filling ≡ (filled_one segment a n).survivor
      reached = c.filling ∙ ap (λ (b : Bool). filling_with b segment a c.entry) live

      went : (filled_one segment a n ≡ level_of Then after) × (p.filling ≤ q.filling)
      went = go (one_more segment a n) where
        go : OneMore segment a n → (filled_one segment a n ≡ level_of Then after) × (p.filling ≤ q.filling)
        go (Fits le to) =
            let at : q.filling ≡ p.filling = reached ∙ ap (λ (x : Level). x.survivor) to in
            let own = ap (λ (i : ℕ). length (text_of (images_in images (p.survivors.first + i)))) at in (
              to ∙ level_same p.filling q.filling (a.len + n) (length (text_of (images_in after Target))) (sym at)
                  (omega (arith, grown, own)),
              omega (arith, at),
            )
        go (Next over to) =
            let at : q.filling ≡ suc p.filling = reached ∙ ap (λ (x : Level). x.survivor) to in
            let less = c.within in
            let own = r.blank q.filling (omega (arith, at)) less in (
              to ∙ level_same (suc p.filling) q.filling (18 + n) (length (text_of (images_in after Target))) (sym at)
                  (omega (arith, grown, own)),
              omega (arith, at),
            )

      copied_rooms : HasRoomsIn segment ids Then after later
      copied_rooms = record {
        rooms = left_by (filled_one segment a n) went.0 (copy_leaves segment count a n Behind rooms_first);
        blank = λ i lt less.
            let le = went.1 in
            ap (λ (es : List Entry). length (text_of es)) (other_image (p.survivors.first + i)
            (λ at. omega (arith, at, lt)))
            ∙ r.blank i (omega (arith, le, lt)) less;
      }

    pub left_rooms : HasRoomsIn segment ids q after later
    left_rooms =
        subst (λ (x : Pass). HasRoomsIn segment ids x after later) (sym c.pass) (go keeps refl)
      where
        go : (b : Bool) → keeps ≡ b → HasRoomsIn segment ids Then after later
        go true is = copied_rooms is
        go false is = passed is

pub ids_kept : (segment : ℕ) (ids : List ℕ) (p q : Pass) (images after : List Image) (held later : Places)
    (copied : Copied) → CopiesOne segment ids p images held copied q after later → (head : ℕ) (new : Option ℕ)
    → ids_in after head new ≡ ids_in images head new
ids_kept segment ids p q images after held later copied c head new =
    ap (λ (xs : List Image). ids_in xs head new) c.survivor
    ∙ ap (λ (ns : List ℕ). ns ++ head ∷ option_to_list new)
    (with_ids images (p.survivors.first + q.filling) c.entry (kept ids held c.place c.entry))
