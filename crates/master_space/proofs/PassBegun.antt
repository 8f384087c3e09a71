-- The parts of a core that stay valid when a pass begins.
use Rattle.std.proofs.Common.{◌≡◌, ℕ, ◌+◌, ◌<◌, ◌≤◌, Bool, true, false, List, [], ◌∷◌, ◌++◌, map, drop, length, refl}
use Rattle.std.proofs.Common.{sym, ap, subst, ◌∙◌, arith, inl, inr}
use Rattle.std.specs.Prelude.{filter, Option, Some, None, IsSome, IsSomeAnd, unwrap_or, ◌==◌, ◌||◌, ◌⊎◌, if◌then◌else◌}
use Rattle.std.specs.List.{AllByRecursion}
use Rattle.std.specs.Option.{option_map, option_to_list}
use Rattle.std.proofs.lemmas.List.{append-nil, map-append}
use Rattle.std.proofs.lemmas.List.Folds.{list_any-append}
use Rattle.std.proofs.lemmas.Option.{same_Some}
use Rattle.entry.specs.declared.entry.Entry.{Entry}
use Rattle.entry.specs.declared.entry.Entry.TheVariants as entry
use Rattle.entry.specs.Bag.{IsAmong}
use Rattle.entry.specs.Format.{IsEntry}
use Rattle.entry.specs.Text.{text_of, is_data, IsSegment}
use Rattle.entry.proofs.ListLemmas.{all_among, all_from_among}
use Rattle.segment.proofs.UnitLemmas.{length-survivor}
use Rattle.master_state.specs.log_laws.Intact.{survivor_entries}
use Rattle.master_state.proofs.log_laws.KeptEntries.{has_is}
use Rattle.cleaner.specs.declared.pass.Cursor.{Cursor}
use Rattle.cleaner.specs.declared.pass.Pass.{Pass}
use Rattle.cleaner.specs.KeptLengths.{survivors_over, HasRoomsIn}
use Rattle.cleaner.specs.Laws.{KeepsNoMore}
use Rattle.cleaner.specs.Passes.{images_in, places_of, rest_of, survivor_ids, IsCursorAt, IsPass}
use Rattle.cleaner.proofs.Ends.{rest_same}
use Rattle.cleaner.proofs.Places.{of_same}
use Rattle.cleaner.proofs.RoomLaws.{begin_has_rooms_in, survivors_do_not_grow}
use Rattle.cleaner.proofs.SurvivorIds.{among_ids, has_below}
use Rattle.compactor.specs.Kept.{has_id}
use Rattle.compactor.specs.Places.{IsAtPlace}
use Rattle.places.specs.declared.place.Place.{Place}
use Rattle.images.specs.Image.{Image}
use Rattle.images.specs.Images.{AreWithin}
use Rattle.images.specs.Sorted.{IsWhole, image_of as image_in, segment_of}
use Rattle.log_head.specs.declared.head.Roll.{Roll}
use Rattle.log_head.specs.log_laws.Ids.{has}
use Rattle.master_state.specs.Causes.{survivors_for}
use Rattle.master_state.specs.Data.{MasterData}
use Rattle.master_state.specs.Images.{survivor_image, survivor_images, new_image_or, images_among}
use Rattle.master_state.specs.Invariant.{IsCore, AreTallied}
use Rattle.master_state.specs.Log.{log_set_ids, images_of}
use Rattle.master_state.specs.Steps.{fresh_pass, next_survivors}
use Rattle.master_state.proofs.Finding.{each_of}
use Rattle.master_state.proofs.Imaging.{other_id}
use Rattle.master_state.proofs.Indexing.{Grow, stands_at}
use Rattle.master_state.proofs.Passing.{has_among}
use Rattle.master_state.proofs.Refusals.{sizes_of}
use Rattle.master_state.proofs.FreeVictims.{IsOlder, MayBegin}
use Rattle.master_state.proofs.Tallying.{tallied_begun, tallied_more}
use Rattle.tally.specs.declared.tallies.Tally.{Tally}
use Rattle.tally.specs.Right.{StaysOrBegins}
use Rattle.tally.specs.Rows.{of_nothing, IsRight, WithOne}
use Rattle.master_space.specs.Counting.{WithBegun}
use Rattle.master_space.proofs.NewImages.{found_behind, found_before, new_found, new_other, new_ids}
use Rattle.master_state.proofs.PassIds.{others, others_below, images_below, closed_only, head_parts, not_opening_later}
use Rattle.master_state.proofs.PassIds.{not_head_later, victims_listed, victims_there}
use Rattle.master_space.proofs.PlaceRows.{places_lie, lies_among}
use Rattle.master_space.proofs.Replacing.{closed_each}

-- no image has an id that all of theirs are below
none_above : (cs : List Image) (n s : ℕ) → AllByRecursion (λ (c : Image). c.id < n) cs → n ≤ s → image_in cs s ≡ None
none_above [] n s all le = refl
none_above (c ∷ cs) n s all le =
    let lt = all.0 in
    let away = other_id c.id s (λ same. omega arith) in
    rw away (none_above cs n s all.1 le)

-- ids that aren't among these change no test
has_without : (ids new more : List ℕ) (z : ℕ) → has_id new z ≡ false
    → has_id ((ids ++ new) ++ more) z ≡ has_id (ids ++ more) z
has_without [] new more z out =
    list_any-append (λ (x : ℕ). x == z) new more ∙ ap (λ (b : Bool). b || has_id more z) out
has_without (x ∷ ids) new more z out = ap (λ (b : Bool). (x == z) || b) (has_without ids new more z out)

there_is : (o : Option (List Entry)) → IsSome o → o ≡ Some (unwrap_or o [])
there_is None some = absurd (cc)
there_is (Some es) some = refl

one_more : (s : ℕ) → WithOne (of_nothing s) [] (of_nothing s ∷ [])
one_more s row (inl here) = inr (sym here)
one_more s row (inr m) = absurd m

module _ (d : MasterData) (core : IsCore d) (victims : List ℕ) (may : MayBegin d victims) where
  -- how many survivors there are, and their ids
  abbrev pub count : ℕ
  count = survivors_for d victims

  abbrev pub ids : List ℕ
  ids = survivor_ids (next_survivors d victims)

  abbrev pub closed_then : List Image
  closed_then = d.closed ++ survivor_images d.config ids

  -- each is new
  pub id_within : (s : ℕ) → IsAmong s ids → (d.next ≤ s) × (s < d.next + count)
  id_within s m = among_ids d.next count s m

  pub new_or_not : (s : ℕ) → IsAmong s ids ⊎ (IsAmong s ids → ⊥)
  new_or_not s = go (has ids s) refl where
    go : (t : Bool) → has ids s ≡ t → IsAmong s ids ⊎ (IsAmong s ids → ⊥)
    go true is = inl (has_among ids s is)
    go false is = inr (λ m. (let there = has_is ids s m in let never : true ≡ false = sym there ∙ is in cc))

  -- ---- images

  none_yet : (s : ℕ) → d.next ≤ s → image_in d.closed s ≡ None
  none_yet s le = none_above d.closed d.next s (images_below d core may.victims.none) le

  pub image_new : (s : ℕ) → IsAmong s ids → image_in closed_then s ≡ Some (survivor_image d.config s)
  image_new s m =
      found_behind d.closed (survivor_images d.config ids) s (none_yet s (id_within s m).0)
      ∙ new_found d.config ids s m

  pub image_other : (s : ℕ) → (IsAmong s ids → ⊥) → image_in closed_then s ≡ image_in d.closed s
  image_other s out =
      found_before d.closed (survivor_images d.config ids) s (new_other d.config ids s out)

  found_other : (s : ℕ) → (IsAmong s ids → ⊥) → segment_of closed_then s ≡ segment_of d.closed s
  found_other s out = ap (λ (o : Option Image). option_map (λ (x : Image). x.segment) o) (image_other s out)

  found_new : (s : ℕ) → IsAmong s ids → segment_of closed_then s ≡ Some (survivor_entries d.config.master s)
  found_new s m = ap (λ (o : Option Image). option_map (λ (x : Image). x.segment) o) (image_new s m)

  pub in_other : (s : ℕ) → (IsAmong s ids → ⊥) → images_in closed_then s ≡ images_in d.closed s
  in_other s out = ap (λ (o : Option (List Entry)). unwrap_or o []) (found_other s out)

  pub in_new : (s : ℕ) → IsAmong s ids → images_in closed_then s ≡ survivor_entries d.config.master s
  in_new s m = ap (λ (o : Option (List Entry)). unwrap_or o []) (found_new s m)

  pub images_other : (s : ℕ) → (IsAmong s ids → ⊥) → images_among d.head closed_then s ≡ images_of d s
  images_other s out =
      ap (λ (o : Option (List Entry)). unwrap_or (if d.head.id == s then Some d.head.image
      else new_image_or d.head.roll s o) [])
      (found_other s out)

  pub images_new : (s : ℕ) → IsAmong s ids → images_among d.head closed_then s ≡ survivor_entries d.config.master s
  images_new s m =
      let le = (id_within s m).0 in
      closed_only d s (not_head_later d core s le) (not_opening_later d core s le) closed_then ∙ in_new s m

  images_none : (s : ℕ) → d.next ≤ s → images_of d s ≡ []
  images_none s le =
      closed_only d s (not_head_later d core s le) (not_opening_later d core s le) d.closed
      ∙ ap (λ (o : Option Image). unwrap_or (option_map (λ (x : Image). x.segment) o) []) (none_yet s le)

  pub grow : Grow (images_of d) (images_among d.head closed_then)
  grow s = go (new_or_not s) where
    go : IsAmong s ids ⊎ (IsAmong s ids → ⊥) → (more : List Entry)
        × (images_among d.head closed_then s ≡ images_of d s ++ more)
    go (inl m) = (
      survivor_entries d.config.master s,
      images_new s m
          ∙ ap (λ (es : List Entry). es ++ survivor_entries d.config.master s)
          (sym (images_none s (id_within s m).0)),
    )
    go (inr out) = ([], images_other s out ∙ sym (append-nil (images_of d s)))

  no_data : (s : ℕ) → IsAmong s ids → filter is_data (images_among d.head closed_then s) ≡ []
  no_data s m = ap (λ (es : List Entry). filter is_data es) (images_new s m)

  -- each image stays, or begins with its header alone
  each_begins : (s : ℕ) → StaysOrBegins (images_of d s) (images_among d.head closed_then s)
  each_begins s = go (new_or_not s) where
    go : IsAmong s ids ⊎ (IsAmong s ids → ⊥) → StaysOrBegins (images_of d s) (images_among d.head closed_then s)
    go (inl m) = inr (images_none s (id_within s m).0, no_data s m)
    go (inr out) = inl (images_other s out)

  -- ---- victims

  pub victim_below : (s : ℕ) → IsAmong s victims → s < d.next
  victim_below s m =
      let lt = all_among (λ (z : ℕ). z < d.head.id) (others d core) s (others_below d core)
      (all_among (λ (z : ℕ). IsAmong z (others d core)) victims s (victims_listed d core victims may.victims) m) in
      let used = core.used in
      omega arith

  pub victim_out : (s : ℕ) → IsAmong s victims → IsAmong s ids → ⊥
  victim_out s m own = let lt = victim_below s m in let le = (id_within s own).0 in omega arith

  victim_there : (s : ℕ) → IsAmong s victims → segment_of d.closed s ≡ Some (images_in d.closed s)
  victim_there s m =
      there_is (segment_of d.closed s) (all_among (λ (z : ℕ). IsSome (segment_of d.closed z)) victims s
      (victims_there d core victims may.victims) m)

  -- each has an image, and is below the survivors
  pub victims_fit : AllByRecursion (λ (s : ℕ). IsSome (segment_of closed_then s) × (s < d.next)) victims
  victims_fit =
      all_from_among (λ (s : ℕ). IsSome (segment_of closed_then s) × (s < d.next)) victims
      (λ s m. (
        subst (λ (o : Option (List Entry)). IsSome o)
            (sym (found_other s (victim_out s m) ∙ victim_there s m)) refl,
        victim_below s m,
      ))

  pub victim_images : (s : ℕ) → IsAmong s victims → images_of d s ≡ images_in d.closed s
  victim_images s m =
      let older = all_among (IsOlder d) victims s may.victims.older m in
      let parts = head_parts d s older.0 in
      closed_only d s parts.0 parts.1 d.closed

  pub victim_same : (s : ℕ) → IsAmong s victims → images_in closed_then s ≡ images_in d.closed s
  victim_same s m = in_other s (victim_out s m)

  -- ---- the pass

  module _ (cursor : Cursor) (begins : rest_of (images_in closed_then)
      (fresh_pass victims (next_survivors d victims) cursor) ≡ places_of (images_in closed_then) victims)
      (within : cursor.victim ≤ length victims)
      (at : IsCursorAt d.index.seed (images_in closed_then) (drop cursor.victim victims) cursor) where
    abbrev pub pass : Pass
    pass = fresh_pass victims (next_survivors d victims) cursor

    abbrev pub e : MasterData
    e = record d { closed = closed_then; next = d.next + count; pass = Some pass }

    abbrev pub row : List Place
    row = places_of (images_in d.closed) victims

    pub rest_then : rest_of (images_in closed_then) pass ≡ row
    rest_then = begins ∙ of_same (images_in d.closed) (images_in closed_then) victims victim_same

    pub rest_before : rest_of (images_in d.closed) pass ≡ row
    rest_before = sym (rest_same (images_in d.closed) (images_in closed_then) pass victim_same) ∙ rest_then

    pub is_pass : IsPass d.index.seed closed_then pass
    is_pass = record {
      victims = victims_fit;
      whole = all_from_among (IsWhole closed_then) ids (λ s m.
          subst (λ (o : Option Image). IsSomeAnd o (λ (c : Image). c.is_whole ≡ true)) (sym (image_new s m)) refl);
      numbers = may.next;
      within = within;
      cursor = at;
    }

    -- ---- what is kept

    ids_then : (z : ℕ) → z < d.next → has_id (log_set_ids e) z ≡ has_id (log_set_ids d) z
    ids_then z lt =
        ap (λ (zs : List ℕ). has_id (zs ++ d.head.id ∷ option_to_list
        (option_map (λ (r : Roll). r.id) d.head.roll)) z)
        (map-append (λ (c : Image). c.id) d.closed (survivor_images d.config ids)
        ∙ ap (λ (zs : List ℕ). map (λ (c : Image). c.id) d.closed ++ zs) (new_ids d.config ids))
        ∙ has_without (map (λ (c : Image). c.id) d.closed) ids (d.head.id ∷ option_to_list
        (option_map (λ (r : Roll). r.id) d.head.roll)) z (has_below d.next count z lt)

    pub begun_tallies : (old new : List Tally) → WithBegun ids old new → AreTallied d old → AreTallied e new
    begun_tallies old new begun right tally m = elim (begun tally m)
        as (λ _. IsRight (log_set_ids e) d.index (images_of e) tally) [
          | inl was ↦ tallied_begun d e old refl each_begins
              (λ s t there. ids_then t.segment (core.named s t there)) right tally was
          | inr one ↦ tallied_more e one.0 [] (of_nothing one.0 ∷ []) (no_data one.0 one.1) (one_more one.0)
              (λ other among. absurd among) tally (inl (sym one.2))
        ]

    keeps_no_more : KeepsNoMore (log_set_ids d) (log_set_ids e) d.index d.index (images_in d.closed) row
    keeps_no_more p (entry.Header h) m stands is = refl
    keeps_no_more p (entry.Digest l) m stands is = refl
    keeps_no_more p (entry.Safe version) m stands is = refl
    keeps_no_more p (entry.Object o) m stands is = is
    keeps_no_more p (entry.Tombstone t) m stands is =
        let there = places_lie (images_in d.closed) victims p m in
        let own = victim_images p.segment there.among in
        let each = subst (λ (es : List Entry). AllByRecursion IsEntry es) own (each_of d core p.segment) in
        let same : there.entry ≡ entry.Tombstone t =
        same_Some there.entry (entry.Tombstone t)
        (sym (stands_at (images_in d.closed p.segment) p.at there.entry each there.lies) ∙ stands) in
        let among : IsAmong (entry.Tombstone t) (images_of d p.segment) =
        subst (λ (es : List Entry). IsAmong (entry.Tombstone t) es) (sym own)
        (lies_among (images_in d.closed p.segment) p.at (entry.Tombstone t)
        (subst (λ (x : Entry). IsAtPlace (images_in d.closed) p x) same there.lies)) in
        let lt = core.named p.segment t among in
        sym (ids_then t.segment lt) ∙ is

    -- no more survivors are filled than there are
    enough : survivors_over d.config.segment (log_set_ids e) d.index (images_in closed_then) victims ≤ count
    enough =
        survivors_do_not_grow d.config.segment (log_set_ids d) (log_set_ids e) d.index d.index
        (images_in d.closed) (images_in closed_then) victims victim_same keeps_no_more

    blank : (s : ℕ) → IsAmong s ids → length (text_of (images_in closed_then s)) ≡ 18
    blank s m = ap (λ (es : List Entry). length (text_of es)) (in_new s m) ∙ length-survivor d.config.master s

    module _ (short : AreWithin d.config.segment d.closed) where
      valid : AllByRecursion (λ (s : ℕ). IsSegment (images_in closed_then s)
          × (length (text_of (images_in closed_then s)) ≤ d.config.segment)) victims
      valid = all_from_among (λ (s : ℕ). IsSegment (images_in closed_then s)
          × (length (text_of (images_in closed_then s)) ≤ d.config.segment)) victims
          (λ s m. subst (λ (es : List Entry). IsSegment es × (length (text_of es) ≤ d.config.segment))
          (sym (victim_same s m)) (
            closed_each IsSegment d.closed s (images_in d.closed s) core.segments (victim_there s m),
            closed_each (λ (es : List Entry). length (text_of es) ≤ d.config.segment) d.closed s
                (images_in d.closed s) short (victim_there s m),
          ))

      pub rooms : HasRoomsIn d.config.segment (log_set_ids e) pass closed_then d.index
      rooms =
          let least = (sizes_of d.config core.config).least_segment in
          begin_has_rooms_in d.config.segment (log_set_ids e) pass closed_then d.index (omega arith) refl begins valid
          enough blank
