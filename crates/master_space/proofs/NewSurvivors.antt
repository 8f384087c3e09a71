-- One more survivor's image is added behind all other images.
use Rattle.std.proofs.Common.{◌≡◌, ℕ, zero, suc, ◌+◌, ◌*◌, ◌-◌, ◌<◌, ◌≤◌, List, [], ◌∷◌, ◌++◌, length, sym, ap}
use Rattle.std.proofs.Common.{subst, ◌∙◌, append_assoc, arith}
use Rattle.std.specs.Prelude.{None, sum_by}
use Rattle.std.specs.List.{AllByRecursion, range_with_len}
use Rattle.std.proofs.lemmas.List.{length-append, map-append, length-map}
use Rattle.std.proofs.lemmas.List.FromFn.{length-range_with_len}
use Rattle.std.proofs.lemmas.List.Sums.{sum_by-append}
use Rattle.entry.specs.Text.{text_of}
use Rattle.entry.proofs.ListLemmas.{all_weaker}
use Rattle.segment.proofs.UnitLemmas.{length-survivor}
use Rattle.master_state.specs.log_laws.Intact.{survivor_entries}
use Rattle.cleaner.proofs.SurvivorIds.{ids_more}
use Rattle.images.specs.Image.{Image, whole_image}
use Rattle.images.specs.Images.{ImagesValue, IsImages, count_of, free_seglets}
use Rattle.images.specs.Sorted.{AreBelow, image_of, added}
use Rattle.images.proofs.Adding.{newest_last}
use Rattle.master_state.specs.declared.config.Config.{Config}
use Rattle.master_state.specs.Budget.{whole_seglets}
use Rattle.master_state.specs.Images.{survivor_image, survivor_images}
use Rattle.master_state.specs.Invariant.{AreImagesOf}
use Rattle.master_space.proofs.NewImages.{new_count}

all_both : (P : Image → Type 0) (xs ys : List Image) → AllByRecursion P xs → AllByRecursion P ys
    → AllByRecursion P (xs ++ ys)
all_both P [] ys first later = later
all_both P (x ∷ xs) ys first later = (first.0, all_both P xs ys first.1 later)

new_below : (c : Config) (first n top : ℕ) → first + n ≤ top → AreBelow top (survivor_images c (range_with_len first n))
new_below c first zero top le = tt
new_below c first (suc n) top le = (omega arith, new_below c (first + 1) n top (omega arith))

module _ (c : Config) (v w : ImagesValue) (first count n : ℕ) (one : suc n ≡ count) (are : AreImagesOf c v)
    (valid : IsImages v) (newest : AreBelow first v.images) (room : length v.images + count ≤ v.room)
    (free : count * whole_seglets c ≤ free_seglets v)
    (before : w ≡ record v { images = v.images ++ survivor_images c (range_with_len first n) }) where
  abbrev last : ℕ
  last = first + n

  abbrev others : List Image
  others = v.images ++ survivor_images c (range_with_len first n)

  segment_is : w.segment ≡ c.segment
  segment_is = ap (λ (x : ImagesValue). x.segment) before ∙ are.segment

  images_are : w.images ≡ others
  images_are = ap (λ (x : ImagesValue). x.images) before

  below : AreBelow last others
  below =
      all_both (λ (x : Image). x.id < last) v.images (survivor_images c (range_with_len first n))
      (all_weaker (λ (x : Image). x.id < first) (λ (x : Image). x.id < last) (λ x lt. omega arith) v.images newest)
      (new_below c first n last (omega arith))

  -- the new one
  module _ (x : Image) (is : x ≡ whole_image last (survivor_entries c.master last) v.segment) where
    image_is : x ≡ survivor_image c last
    image_is = is ∙ ap (λ (size : ℕ). whole_image last (survivor_entries c.master last) size) are.segment

    pub other : image_of w.images x.id ≡ None
    other =
        (λ i. image_of (images_are i) (image_is i).id)
        ∙ (newest_last (survivor_image c last) others below).0

    pub within : length (text_of x.segment) ≤ w.segment
    within =
        let len = ap (λ (y : Image). length (text_of y.segment)) image_is ∙ length-survivor c.master last in
        let least = valid.sizes.least_segment in
        let same = ap (λ (y : ImagesValue). y.segment) before in
        omega (arith, len, least, same)

    pub has_room : length w.images < w.room
    has_room =
        let images = ap (λ (xs : List Image). length xs) images_are
        ∙ length-append v.images (survivor_images c (range_with_len first n)) in
        let new = length-map (range_with_len first n) (survivor_image c) ∙ length-range_with_len first n in
        let same = ap (λ (y : ImagesValue). y.room) before in
        omega (arith, images, new, same, room, one)

    pub is_free : count_of w.segment w.seglet x ≤ free_seglets w
    is_free =
        let sum = sum_by-append (count_of c.segment c.seglet) v.images (survivor_images c (range_with_len first n)) in
        let new = new_count c (range_with_len first n) in
        let size = ap (λ (k : ℕ). k * whole_seglets c) (length-range_with_len first n) in
        let more : suc n * whole_seglets c ≡ n * whole_seglets c + whole_seglets c = omega arith in
        let all = ap (λ (k : ℕ). k * whole_seglets c) one in
        let enough : count * whole_seglets c ≤ c.seglets - sum_by (count_of c.segment c.seglet) v.images =
        subst (λ (y : ℕ × ℕ × ℕ). count * whole_seglets c ≤ y.2 - sum_by (count_of y.0 y.1) v.images)
        (λ i. (are.segment i, are.seglet i, are.seglets i)) free in
        let own : whole_seglets c ≤ c.seglets - sum_by (count_of c.segment c.seglet) others =
        omega (arith, sum, new, size, more, all, enough) in
        subst (λ (y : ImagesValue). count_of y.segment y.seglet x ≤ free_seglets y) (sym before)
        (subst (λ (y : ℕ × ℕ × ℕ). count_of y.0 y.1 x ≤ y.2 - sum_by (count_of y.0 y.1) others)
        (λ i. (sym are.segment i, sym are.seglet i, sym are.seglets i))
        (subst (λ (y : Image). count_of c.segment c.seglet y ≤ c.seglets - sum_by (count_of c.segment c.seglet) others)
        (sym image_is) own))

    pub joined : record w { images = added x w.images }
        ≡ record v { images = v.images ++ survivor_images c (range_with_len first count) }
    joined =
        (λ i. record (before i) { images = added (image_is i) (images_are i) })
        ∙ ap (λ (xs : List Image). record v { images = xs }) all
      where
        all : added (survivor_image c last) others ≡ v.images ++ survivor_images c (range_with_len first count)
        all =
            (newest_last (survivor_image c last) others below).1
            ∙ append_assoc v.images (survivor_images c (range_with_len first n)) (survivor_image c last ∷ [])
            ∙ ap (λ (xs : List Image). v.images ++ xs) (
            sym (map-append (survivor_image c) (range_with_len first n) (last ∷ []))
            ∙ ap (survivor_images c) (sym (ids_more first n))
            ∙ ap (λ (k : ℕ). survivor_images c (range_with_len first k)) one)
