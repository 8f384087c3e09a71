-- How many seglets are counted after each step.
use Rattle.std.proofs.Common.{◌≡◌, ℕ, ◌+◌, ◌-◌, ◌*◌, ◌/◌, ◌%◌, ◌<◌, ◌≤◌, ◌↔◌, Bool, true, false, List, ◌++◌, length}
use Rattle.std.proofs.Common.{get_or, refl, sym, ap, subst, ◌∙◌, arith}
use Rattle.std.proofs.Math.ListN.{set, length-set}
use Rattle.std.proofs.Math.Nat.{mod-eq-sub-div-mul, div-mul-le_self, lt_of_mul-lt-mul_right}
use Rattle.std.specs.Prelude.{Option, Some, None, Result, Ok, Err, IsSomeAnd, OnOk, OnErr, IsErrOf, remove, sum_by}
use Rattle.std.specs.Int.{div_ceil}
use Rattle.std.specs.List.{AllByRecursion}
use Rattle.std.specs.Option.{option_map, option_map_or}
use Rattle.std.proofs.lemmas.Grind.{div_ceil_times, flat_map-append}
use Rattle.std.proofs.lemmas.List.{length-append, set-get_or}
use Rattle.std.proofs.lemmas.List.Edits.{length-remove}
use Rattle.std.proofs.lemmas.List.Sums.{sum_by-set, sum_by-remove, get_or-le-sum_by}
use Rattle.entry.specs.declared.entry.Entry.{Entry}
use Rattle.entry.specs.Format.{spelling}
use Rattle.entry.specs.Text.{text_of}
use Rattle.segment.specs.declared.fault.AppendFault.{AppendFault}
use Rattle.segment.specs.declared.fault.AppendFault.TheVariants.{Full}
use Rattle.images.specs.Image.{Image}
use Rattle.images.specs.Images.{ImagesValue, IsImages, HaveMemory, count_of, count_at, used_seglets, free_seglets}
use Rattle.images.specs.Sorted.{AreRising, IsWhole, image_of, added, changed, without}
use Rattle.images.specs.Place.{IsPlaceOf}
use Rattle.images.specs.Steps.{with_unit, trimmed, replaced_by, len_at}
use Rattle.images.proofs.Listing.{all_at, all_set, all_without, absent_from_none, image_at, changed_by_id, without_at}
use Rattle.images.proofs.Listing.{rising_set, rising_without}
use Rattle.images.proofs.Adding.{all_added, rising_added, sum_added}

-- ---- one image

pub count_whole : (segment seglet : ℕ) (x : Image) → x.is_whole ≡ true → count_of segment seglet x ≡ segment / seglet
count_whole segment seglet x is = rw is refl

-- a text within a segment fills no more seglets than a segment does
pub within_whole : (segment seglet len : ℕ) → 0 < seglet → segment % seglet ≡ 0 → len ≤ segment
    → div_ceil len seglet ≤ segment / seglet
within_whole segment seglet len pos multiple le =
    let quotient = segment / seglet in
    let times = (div_ceil_times len seglet pos).1 in
    let floor = div-mul-le_self segment seglet in
    let rest = mod-eq-sub-div-mul segment seglet in
    let more : (segment / seglet + 1) * seglet ≡ segment / seglet * seglet + seglet = omega arith in
    let lt : div_ceil len seglet * seglet < (segment / seglet + 1) * seglet = omega arith in
    let below : div_ceil len seglet < segment / seglet + 1 = lt_of_mul-lt-mul_right seglet lt in omega arith

pub not_full : (n : ℕ) → IsErrOf {T = ℕ} {E = AppendFault} (Ok n) Full → ⊥
not_full n e = cc

-- the length of a text of two parts
pub text_more : (es fs : List Entry) → length (text_of (es ++ fs)) ≡ length (text_of es) + length (text_of fs)
text_more es fs = ap (λ (bytes : List ℕ). length bytes) (flat_map-append spelling es fs)
    ∙ length-append (text_of es) (text_of fs)

-- ---- the image of an id

pub image_read : (xs : List Image) (id at : ℕ) (x : Image) → AreRising xs → IsPlaceOf xs id at → x ≡ get_or xs at x
    → image_of xs id ≡ Some x
image_read xs id at x rising place read =
    image_at xs id at x rising place.within (place.is x) ∙ ap (λ (y : Image). Some y) (sym read)

module _ (v : ImagesValue) (valid : IsImages v) (id at : ℕ) (place : IsPlaceOf v.images id at) (x : Image)
    (read : x ≡ get_or v.images at x) where
  pub read_image : image_of v.images id ≡ Some x
  read_image = image_read v.images id at x valid.rising place read

  pub read_id : x.id ≡ id
  read_id = ap (λ (y : Image). y.id) read ∙ place.is x

  pub read_len : length (text_of x.segment) ≤ v.segment
  read_len = subst (λ (y : Image). length (text_of y.segment) ≤ v.segment) (sym read)
      (all_at (λ (y : Image). length (text_of y.segment) ≤ v.segment) v.images at x valid.within place.within)

  pub read_memory : x.is_whole ≡ true → v.segment ≤ x.room
  read_memory = subst (λ (y : Image). y.is_whole ≡ true → v.segment ≤ y.room) (sym read)
      (all_at (λ (y : Image). y.is_whole ≡ true → v.segment ≤ y.room) v.images at x valid.memory place.within)

  pub read_count : count_of v.segment v.seglet x ≤ used_seglets v
  read_count = subst (λ (y : Image). count_of v.segment v.seglet y ≤ used_seglets v) (sym read)
      (get_or-le-sum_by (count_of v.segment v.seglet) v.images at x place.within)

  pub changed_is : (f : Image → Image) → set v.images at (f x) ≡ changed v.images id f
  changed_is f = ap (λ (y : Image). set v.images at (f y)) read
      ∙ changed_by_id v.images id at x f valid.rising place.within (place.is x)

  pub without_is : remove v.images at ≡ without v.images id
  without_is = without_at v.images id at x valid.rising place.within (place.is x)

  -- another image of the same id
  pub set_sum : (y : Image) → sum_by (count_of v.segment v.seglet) (set v.images at y) + count_of v.segment v.seglet x
      ≡ used_seglets v + count_of v.segment v.seglet y
  set_sum y = ap (λ (z : Image). sum_by (count_of v.segment v.seglet)
      (set v.images at y) + count_of v.segment v.seglet z) read
      ∙ sum_by-set (count_of v.segment v.seglet) v.images at y x place.within

  pub set_valid : (y : Image) → y.id ≡ x.id → length (text_of y.segment) ≤ v.segment
      → (y.is_whole ≡ true → v.segment ≤ y.room)
      → used_seglets v - count_of v.segment v.seglet x + count_of v.segment v.seglet y ≤ v.seglets
      → (used_seglets v - count_of v.segment v.seglet x + count_of v.segment v.seglet y
      ≡ sum_by (count_of v.segment v.seglet) (set v.images at y))
      × IsImages (record v { images = set v.images at y })
  set_valid y same len memory fits =
      let sum = set_sum y in
      let le = read_count in
      let total : used_seglets v - count_of v.segment v.seglet x + count_of v.segment v.seglet y
      ≡ sum_by (count_of v.segment v.seglet) (set v.images at y) = omega arith in
      let count = length-set v.images at y in
      let room = valid.room in (
        total,
        record {
          sizes = valid.sizes;
          rising = rising_set v.images at x y valid.rising place.within (same ∙ ap (λ (z : Image). z.id) read);
          within = all_set (λ (z : Image). length (text_of z.segment) ≤ v.segment) v.images at y valid.within len;
          memory = all_set (λ (z : Image). z.is_whole ≡ true → v.segment ≤ z.room) v.images at y valid.memory memory;
          fits = omega arith;
          room = omega arith;
        },
      )

  -- without it
  pub without_valid : (used_seglets v - count_of v.segment v.seglet x
      ≡ sum_by (count_of v.segment v.seglet) (remove v.images at))
      × IsImages (record v { images = remove v.images at })
  without_valid =
      let sum = ap (λ (z : Image). sum_by (count_of v.segment v.seglet)
      (remove v.images at) + count_of v.segment v.seglet z) read
      ∙ sum_by-remove (count_of v.segment v.seglet) v.images at x place.within in
      let total : used_seglets v - count_of v.segment v.seglet x
      ≡ sum_by (count_of v.segment v.seglet) (remove v.images at) = omega arith in
      let count = length-remove v.images at place.within in
      let room = valid.room in
      let most = valid.fits in (
        total,
        record {
          sizes = valid.sizes;
          rising = subst AreRising (sym without_is) (rising_without v.images id valid.rising);
          within = subst (λ (xs : List Image). AllByRecursion
              (λ (z : Image). length (text_of z.segment) ≤ v.segment) xs) (sym without_is)
              (all_without (λ (z : Image). length (text_of z.segment) ≤ v.segment) v.images id valid.within);
          memory = subst (HaveMemory v.segment) (sym without_is)
              (all_without (λ (z : Image). z.is_whole ≡ true → v.segment ≤ z.room) v.images id valid.memory);
          fits = omega arith;
          room = omega arith;
        },
      )

  -- trimmed
  pub trimmed_le : count_of v.segment v.seglet (trimmed x) ≤ count_of v.segment v.seglet x
  trimmed_le = go x.is_whole refl
    where
      go : (t : Bool) → x.is_whole ≡ t → count_of v.segment v.seglet (trimmed x) ≤ count_of v.segment v.seglet x
      go true is = (let least = valid.sizes.least_seglet in
          rw is (within_whole v.segment v.seglet (length (text_of x.segment))
          (omega arith) valid.sizes.multiple read_len))
      go false is = rw is (omega arith)

  pub trimmed_valid : (used_seglets v - count_of v.segment v.seglet x + count_of v.segment v.seglet (trimmed x)
      ≡ sum_by (count_of v.segment v.seglet) (set v.images at (trimmed x)))
      × IsImages (record v { images = set v.images at (trimmed x) })
  trimmed_valid =
      let le = trimmed_le in let own = read_count in let most = valid.fits in
      set_valid (trimmed x) refl read_len (λ (e : false ≡ true). absurd (cc)) (omega arith)

  -- with another number of replicas
  pub replicas_valid : (n : ℕ) → (used_seglets v
      ≡ sum_by (count_of v.segment v.seglet) (set v.images at (record x { replicas = n })))
      × IsImages (record v { images = set v.images at (record x { replicas = n }) })
  replicas_valid n =
      let y : Image = record x { replicas = n } in
      let same : count_of v.segment v.seglet y ≡ count_of v.segment v.seglet x = refl in
      let own = read_count in let most = valid.fits in
      let parts = set_valid y refl read_len read_memory (omega arith) in
      let total = parts.0 in
      (omega arith, parts.1)

  -- one that takes appends has memory for a whole segment
  pub read_room : IsWhole v.images id → v.segment ≤ x.room
  read_room whole = read_memory (subst (λ (o : Option Image). IsSomeAnd o (λ (y : Image). y.is_whole ≡ true))
      read_image whole)

  -- a unit at the end of a whole one
  module _ (whole : IsWhole v.images id) (unit : List Entry) (new : Image) (r : Result ℕ AppendFault)
      (ok : OnOk r (new ≡ with_unit unit x)) (err : OnErr r (new ≡ x)) where
    read_whole : x.is_whole ≡ true
    read_whole = subst (λ (o : Option Image). IsSomeAnd o (λ (y : Image). y.is_whole ≡ true)) read_image whole

    grown_valid : length (text_of (with_unit unit x).segment) ≤ v.segment → (used_seglets v
        ≡ sum_by (count_of v.segment v.seglet) (set v.images at (with_unit unit x)))
        × IsImages (record v { images = set v.images at (with_unit unit x) })
    grown_valid len =
        let same : count_of v.segment v.seglet (with_unit unit x) ≡ count_of v.segment v.seglet x =
        count_whole v.segment v.seglet (with_unit unit x) read_whole
        ∙ sym (count_whole v.segment v.seglet x read_whole) in
        let own = read_count in let most = valid.fits in
        let parts = set_valid (with_unit unit x) refl len read_memory (omega arith) in
        let total = parts.0 in
        (omega arith, parts.1)

    same_valid : (used_seglets v ≡ sum_by (count_of v.segment v.seglet) (set v.images at x))
        × IsImages (record v { images = set v.images at x })
    same_valid =
        let own = read_count in let most = valid.fits in
        let parts = set_valid x refl read_len read_memory (omega arith) in
        let total = parts.0 in
        (omega arith, parts.1)

    abbrev IsValidWith : Image → Type 0
    IsValidWith y = (used_seglets v ≡ sum_by (count_of v.segment v.seglet) (set v.images at y))
        × IsImages (record v { images = set v.images at y })

    pub appended_valid : (IsErrOf r Full ↔ (v.segment < length (text_of x.segment) + length (text_of unit)))
        → (used_seglets v ≡ sum_by (count_of v.segment v.seglet) (set v.images at new))
        × IsImages (record v { images = set v.images at new })
    appended_valid full = go r ok err full
      where
        go : (q : Result ℕ AppendFault) → OnOk q (new ≡ with_unit unit x) → OnErr q (new ≡ x)
            → (IsErrOf q Full ↔ (v.segment < length (text_of x.segment) + length (text_of unit)))
            → IsValidWith new
        go (Ok n) is none within =
            let len : length (text_of (with_unit unit x).segment)
            ≡ length (text_of x.segment) + length (text_of unit) = text_more x.segment unit in
            let fits : v.segment < length (text_of x.segment) + length (text_of unit) → ⊥ =
            (λ (over : v.segment < length (text_of x.segment) + length (text_of unit)). not_full n (within.1 over)) in
            subst IsValidWith (sym is) (grown_valid (omega (arith, fits, len)))
        go (Err e) none is within = subst IsValidWith (sym is) same_valid

    pub appended_is : OnOk r (record v { images = set v.images at new }
        ≡ record v { images = changed v.images id (with_unit unit) })
    appended_is = go r ok
      where
        go : (q : Result ℕ AppendFault) → OnOk q (new ≡ with_unit unit x)
            → OnOk q (record v { images = set v.images at new }
            ≡ record v { images = changed v.images id (with_unit unit) })
        go (Ok n) is = ap (λ (y : Image). record v { images = set v.images at y }) is
            ∙ ap (λ (xs : List Image). record v { images = xs }) (changed_is (with_unit unit))
        go (Err e) none = tt

    pub unchanged_is : OnErr r (record v { images = set v.images at new } ≡ v)
    unchanged_is = go r err
      where
        go : (q : Result ℕ AppendFault) → OnErr q (new ≡ x) → OnErr q (record v { images = set v.images at new } ≡ v)
        go (Ok n) none = tt
        go (Err e) is = ap (λ (y : Image). record v { images = set v.images at y }) is
            ∙ ap (λ (y : Image). record v { images = set v.images at y }) read
            ∙ ap (λ (xs : List Image). record v { images = xs }) (set-get_or v.images at x)

  pub len_is : len_at v.images id ≡ length (text_of x.segment)
  len_is = ap (λ (o : Option Image). option_map_or (λ (es : List Entry). length (text_of es))
      (option_map (λ (y : Image). y.segment) o) 0) read_image

  pub count_is : count_at v id ≡ count_of v.segment v.seglet x
  count_is = ap (λ (o : Option Image). option_map_or (count_of v.segment v.seglet) o 0) read_image

  -- another segment in its place
  pub replaced_valid : (segment : List Entry) → length (text_of segment) ≤ v.segment
      → used_seglets v - count_of v.segment v.seglet x + div_ceil (length (text_of segment)) v.seglet ≤ v.seglets
      → (used_seglets v - count_of v.segment v.seglet x + div_ceil (length (text_of segment)) v.seglet
      ≡ sum_by (count_of v.segment v.seglet) (set v.images at (replaced_by segment x)))
      × IsImages (record v { images = set v.images at (replaced_by segment x) })
  replaced_valid segment len fits = set_valid (replaced_by segment x) refl len (λ (e : false ≡ true). absurd (cc)) fits

-- one more image
pub added_valid : (v : ImagesValue) (y : Image) (room : ℕ) → IsImages v → image_of v.images y.id ≡ None
    → length (text_of y.segment) ≤ v.segment → (y.is_whole ≡ true → v.segment ≤ y.room)
    → count_of v.segment v.seglet y ≤ v.seglets - used_seglets v → length (added y v.images) ≤ room
    → (used_seglets v + count_of v.segment v.seglet y ≡ sum_by (count_of v.segment v.seglet) (added y v.images))
    × IsImages (record v { images = added y v.images; room = room })
added_valid v y room valid none len memory fits enough =
    let total = sum_added (count_of v.segment v.seglet) y v.images in
    let most = valid.fits in (
      sym total,
      record {
        sizes = valid.sizes;
        rising = rising_added y v.images valid.rising (absent_from_none v.images y.id none);
        within = all_added (λ (z : Image). length (text_of z.segment) ≤ v.segment) y v.images valid.within len;
        memory = all_added (λ (z : Image). z.is_whole ≡ true → v.segment ≤ z.room) y v.images valid.memory memory;
        fits = omega arith;
        room = enough;
      },
    )

-- ---- the test of a replacement, over what the code has

module _ (v : ImagesValue) (x : Image) (len used old new : ℕ) (is : used ≡ used_seglets v)
    (was : old ≡ count_of v.segment v.seglet x)
    (count : new ≡ div_ceil len v.seglet) (own : count_of v.segment v.seglet x ≤ used_seglets v)
    (most : used_seglets v ≤ v.seglets) where
  pub enough : new ≤ v.seglets - (used - old) → used_seglets v - count_of v.segment v.seglet x + div_ceil len
      v.seglet ≤ v.seglets
  enough fits = omega arith

  pub too_few : v.seglets - (used - old) < new → free_seglets v + count_of v.segment v.seglet x < div_ceil len v.seglet
  too_few over = omega arith

  pub not_too_few : new ≤ v.seglets - (used - old)
      → (false ≡ true → free_seglets v + count_of v.segment v.seglet x < div_ceil len v.seglet)
      × (free_seglets v + count_of v.segment v.seglet x < div_ceil len v.seglet → false ≡ true)
  not_too_few fits = (
    (λ (e : false ≡ true). absurd (cc)),
    (λ (lt : free_seglets v + count_of v.segment v.seglet x < div_ceil len v.seglet). absurd (omega arith)),
  )
