-- The values that the code of a compaction computes make the core that the definitions say.
use Rattle.std.proofs.Common.{◌≡◌, ◌↔◌, ℕ, ◌+◌, ◌<◌, ◌≤◌, List, ◌∷◌, ◌++◌, length, refl, sym, ap}
use Rattle.std.proofs.Common.{subst, ◌∙◌}
use Rattle.std.specs.Prelude.{Option, Some, None, Result, Ok, Err, IsErr}
use Rattle.std.specs.Int.{div_ceil}
use Rattle.std.specs.Option.{option_map, option_to_list}
use Rattle.std.proofs.lemmas.List.{length-map}
use Rattle.std.proofs.lemmas.Option.{same_Some}
use Rattle.entry.specs.declared.entry.Entry.{Entry}
use Rattle.entry.specs.Text.{text_of}
use Rattle.places.specs.Map.{Places}
use Rattle.images.specs.Image.{Image}
use Rattle.images.specs.Images.{ImagesValue, IsImages, AreWithin, free_seglets, count_at}
use Rattle.images.specs.Sorted.{AreRising, segment_of, changed}
use Rattle.images.specs.Steps.{replaced_by}
use Rattle.compactor.specs.Kept.{kept_of, moved_all}
use Rattle.compactor.specs.Laws.{CompactionFollows}
use Rattle.compactor.proofs.KeptEntries.{kept_length}
use Rattle.log_head.specs.declared.head.Roll.{Roll}
use Rattle.master_state.specs.declared.step.StepAnswer.TheVariants.{Compacted}
use Rattle.master_state.specs.Causes.{compact_refusal}
use Rattle.master_state.specs.Data.{MasterData}
use Rattle.master_state.specs.Invariant.{IsCore, AreImagesOf, AreTallied}
use Rattle.master_state.specs.Log.{images_of, log_set_ids}
use Rattle.master_state.specs.Steps.{kept_now, compacted_data, Compacts}
use Rattle.tally.specs.declared.tallies.Tally.{Tally}
use Rattle.master_state.proofs.Imaging.{ids_in}
use Rattle.master_space.proofs.CompactedCore.{admitted, old_there, used_less, compacted_core, compacted_tallies}
use Rattle.master_space.proofs.CompactedIndex.{compacted_index}
use Rattle.master_space.proofs.CompactedPass.{compacted_pass}
use Rattle.master_space.proofs.Replacing.{never_full, still_within}

-- what a refusal says
refused_for : {T E : Type 0} (r : Result T E) (e : E) (P : Type 0) → r ≡ Err e → (IsErr r ↔ P) → P
refused_for (Ok t) e P is iff = absurd (cc)
refused_for (Err x) e P is iff = iff.0 refl

-- the log set, by what was asked of the head
pub ids_are : (d : MasterData) (head : ℕ) (new : Option ℕ) → head ≡ d.head.id
    → new ≡ option_map (λ (r : Roll). r.id) d.head.roll
    → ids_in d.closed ++ head ∷ option_to_list new ≡ log_set_ids d
ids_are d head new own opening = λ i. ids_in d.closed ++ own i ∷ option_to_list (opening i)

module _ (d : MasterData) (core : IsCore d) (id : ℕ) (passed : compact_refusal d id ≡ None) where
  there : segment_of d.closed id ≡ Some (images_of d id)
  there = old_there d core id (admitted d id passed)

  pub never_none : (got : Option (List Entry)) → got ≡ segment_of d.closed id → got ≡ None → ⊥
  never_none got is none =
      let never : None ≡ Some (images_of d id) = sym none ∙ is ∙ there in cc

  pub image_is : (got : Option (List Entry)) (image : List Entry) → got ≡ segment_of d.closed id
      → got ≡ Some image → image ≡ images_of d id
  image_is got image is some = same_Some image (images_of d id) (sym some ∙ is ∙ there)

  -- the closed segments, and what was found out
  module _ (closed : ImagesValue) (own : closed.images ≡ d.closed) (valid : IsImages closed)
      (are : AreImagesOf d.config closed)
      (ids : List ℕ) (es segment : List Entry) (index : Places) (listed : ids ≡ log_set_ids d)
      (same : es ≡ images_of d id) (kept : segment ≡ kept_of ids d.index id es) where
    no_longer : length (text_of segment) ≤ length (text_of (images_of d id))
    no_longer =
        subst (λ (xs : List Entry). length (text_of xs) ≤ length (text_of (images_of d id)))
        ((λ i. kept_of ids d.index id (sym same i)) ∙ sym kept) (kept_length ids d.index id 0 (images_of d id))

    found : segment_of closed.images id ≡ Some (images_of d id)
    found = ap (λ (cs : List Image). segment_of cs id) own ∙ there

    pub fits : length (text_of segment) ≤ closed.segment
    fits = still_within closed valid id segment (images_of d id) found no_longer

    -- the image is never refused
    pub never_refused : {T E : Type 0} (r : Result T E) (e : E) → r ≡ Err e
        → (IsErr r ↔ (free_seglets closed + count_at closed id < div_ceil (length (text_of segment)) closed.seglet)) → ⊥
    never_refused r e is full =
        never_full closed valid id segment (images_of d id) found no_longer
        (refused_for r e (free_seglets closed + count_at closed id
        < div_ceil (length (text_of segment)) closed.seglet) is full)

    segment_is : kept_now d id ≡ segment
    segment_is = (λ i. kept_of (sym listed i) d.index id (sym same i)) ∙ sym kept

    module _ (moved : index ≡ moved_all ids d.index id es) (then : ImagesValue)
        (then_is : then ≡ record closed { images = changed closed.images id (replaced_by segment) }) where
      index_is : moved_all (log_set_ids d) d.index id (images_of d id) ≡ index
      index_is = (λ i. moved_all (sym listed i) d.index id (sym same i)) ∙ sym moved

      closed_is : changed d.closed id (replaced_by (kept_now d id)) ≡ then.images
      closed_is = (λ i. changed (sym own i) id (replaced_by (segment_is i)))
          ∙ ap (λ (v : ImagesValue). v.images) (sym then_is)

      data_is : compacted_data d id ≡ record d { closed = then.images; index = index }
      data_is = λ i. record d { closed = closed_is i; index = index_is i }

      pub compacts : (len : ℕ) → len ≡ length (text_of segment)
          → Compacts d id (Compacted id len) (record d { closed = then.images; index = index })
      compacts len is = record {
        passed = passed;
        told = ap (λ (n : ℕ). Compacted id n) (is ∙ ap (λ (xs : List Entry). length (text_of xs)) (sym segment_is));
        log = refl;
        rest = sym data_is;
      }

      within : AreWithin d.config.segment d.closed
      within = subst (λ (p : ℕ × List Image). AreWithin p.0 p.1) (λ i. (are.segment i, own i)) valid.within

      pub compacted_valid : CompactionFollows → IsCore (record d { closed = then.images; index = index })
      compacted_valid follows =
          let is = admitted d id passed in
          let rising = subst AreRising own valid.rising in
          subst IsCore data_is (compacted_core d core id is rising within (compacted_index follows d core id is)
          (compacted_pass follows d core id is (used_less d core id is rising within)))

      pub tallied_then : (rows : List Tally) → AreTallied d rows
          → AreTallied (record d { closed = then.images; index = index }) rows
      tallied_then rows right =
          subst (λ (m : MasterData). AreTallied m rows) data_is
          (compacted_tallies d core id (admitted d id passed) rows right)

      pub room_then : length closed.images < closed.room → length then.images < then.room
      room_then enough =
          subst (λ (v : ImagesValue). length v.images < v.room) (sym then_is)
          (subst (λ (n : ℕ). n < closed.room) (sym (length-map closed.images _)) enough)

      pub sizes_then : AreImagesOf d.config then
      sizes_then = subst (AreImagesOf d.config) (sym then_is)
          (record { segment = are.segment; seglet = are.seglet; seglets = are.seglets })
