-- An entry copied from one image to a later one.
use Rattle.std.proofs.Common.{◌≡◌, ℕ, zero, suc, ◌+◌, ◌<◌, ◌≤◌, ◌↔◌, Bool, true, false, List, [], ◌∷◌, ◌++◌, length}
use Rattle.std.proofs.Common.{get_or, take, drop, refl, sym, ap, subst, ◌∙◌, arith, append-nil, get_or-take}
use Rattle.std.proofs.Common.{get_or-drop, add-zero, ◌-◌}
use Rattle.std.proofs.Math.ListN.{set}
use Rattle.std.specs.Prelude.{◌==◌, ◌&&◌, Option, Some, None, Result, Ok, Err, IfSome, OnOk, OnErr, IsErrOf, IsSomeAnd}
use Rattle.std.specs.Prelude.{sum_by}
use Rattle.std.specs.List.{AllByRecursion}
use Rattle.std.specs.Option.{option_map, option_map_or, option_and_then}
use Rattle.std.proofs.lemmas.Bool.{eqb-true}
use Rattle.std.proofs.lemmas.List.{length-take, length-drop}
use Rattle.entry.specs.declared.entry.Entry.{Entry}
use Rattle.entry.specs.Format.{spelling, IsEntry, Begins}
use Rattle.entry.specs.Text.{text_of, entries_in, is_data, are_data}
use Rattle.entry.proofs.TextLemmas.{entries_in-text, spelling-some}
use Rattle.segment.specs.declared.fault.AppendFault.{AppendFault}
use Rattle.segment.specs.declared.fault.AppendFault.TheVariants.{Full}
use Rattle.segment.specs.Bytes.{IsDataText, standing_at}
use Rattle.images.specs.Image.{Image}
use Rattle.images.specs.Images.{ImagesValue, IsImages, count_of, used_seglets}
use Rattle.images.specs.Sorted.{AreRising, IsWhole, image_of, segment_of, changed}
use Rattle.images.specs.Place.{IsPlaceOf}
use Rattle.images.specs.Steps.{with_unit, len_at, entry_at, StandsData, HasData}
use Rattle.images.proofs.Adding.{ids_rise}
use Rattle.images.proofs.Listing.{image_at, changed_by_id}
use Rattle.images.proofs.Counts.{count_whole, not_full, text_more, set_valid, changed_is, read_count}
use Rattle.images.proofs.Counts.{read_memory, len_is}

-- ---- two places of a list

pub set_part : (xs : List Image) (n : ℕ) (z : Image) → take n xs ++ set (drop n xs) 0 z ≡ set xs n z
set_part [] zero z = refl
set_part [] (suc n) z = refl
set_part (x ∷ xs) zero z = refl
set_part (x ∷ xs) (suc n) z = ap (λ (ys : List Image). x ∷ ys) (set_part xs n z)

-- a lower id comes first
pub places_rise : (xs : List Image) (a b i j : ℕ) → AreRising xs → IsPlaceOf xs a i → IsPlaceOf xs b j → a < b → i < j
places_rise [] a b i j rising first second lt = (let none = first.within in absurd (omega arith))
places_rise (x ∷ xs) a b i j rising first second lt = omega (arith, not_above)
  where
    not_above : j ≤ i → ⊥
    not_above le =
        let ids = ids_rise (x ∷ xs) rising j i x le first.within in
        let low = first.is x in
        let high = second.is x in omega arith

-- ---- the place of an image

pub found_at : (xs : List Image) (id : ℕ) (x : Image) → image_of xs id ≡ Some x → (at : ℕ) × IsPlaceOf xs id at
    × (x ≡ get_or xs at x)
found_at [] id x is = absurd (cc)
found_at (y ∷ ys) id x is = go (y.id == id) refl (found_at ys id x)
  where
    go : (t : Bool) → (y.id == id) ≡ t → (image_of ys id ≡ Some x → (at : ℕ) × IsPlaceOf ys id at
        × (x ≡ get_or ys at x))
        → (at : ℕ) × IsPlaceOf (y ∷ ys) id at × (x ≡ get_or (y ∷ ys) at x)
    go true test rest =
        let own : Some y ≡ Some x = rw test at is in
        let equal : x ≡ y = cc in
        (zero, record { within = omega arith; is = λ (d : Image). eqb-true y.id id test }, equal)
    go false test rest =
        let later : image_of ys id ≡ Some x = rw test at is in
        let found = rest later in
        let lt = found.1.within in
        (suc found.0, record { within = omega arith; is = λ (d : Image). found.1.is d }, found.2)

-- ---- a unit at the end of a whole image

-- it has memory for a whole segment
pub whole_room : (v : ImagesValue) (id : ℕ) → IsImages v → IsWhole v.images id
    → IsSomeAnd (image_of v.images id) (λ (x : Image). v.segment ≤ x.room)
whole_room v id valid whole = go (image_of v.images id) refl whole
  where
    go : (o : Option Image) → image_of v.images id ≡ o → IsSomeAnd o (λ (x : Image). x.is_whole ≡ true)
        → IsSomeAnd (image_of v.images id) (λ (x : Image). v.segment ≤ x.room)
    go None is none = absurd none
    go (Some x) is own =
        let found = found_at v.images id x is in
        subst (λ (o : Option Image). IsSomeAnd o (λ (y : Image). v.segment ≤ y.room)) (sym is)
        (read_memory v valid id found.0 found.1 x found.2 own)

pub grown : (v : ImagesValue) (id : ℕ) (unit : List Entry) → IsImages v → IsWhole v.images id
    → len_at v.images id + length (text_of unit) ≤ v.segment
    → (used_seglets v ≡ sum_by (count_of v.segment v.seglet) (changed v.images id (with_unit unit)))
    × IsImages (record v { images = changed v.images id (with_unit unit) })
grown v id unit valid whole fits = go (image_of v.images id) refl whole
  where
    grown_at : (x : Image) → image_of v.images id ≡ Some x → x.is_whole ≡ true
        → (used_seglets v ≡ sum_by (count_of v.segment v.seglet) (changed v.images id (with_unit unit)))
        × IsImages (record v { images = changed v.images id (with_unit unit) })
    grown_at x is own =
        let found = found_at v.images id x is in
        let at = found.0 in
        let place = found.1 in
        let read = found.2 in
        let same : count_of v.segment v.seglet (with_unit unit x) ≡ count_of v.segment v.seglet x =
        count_whole v.segment v.seglet (with_unit unit x) own ∙ sym (count_whole v.segment v.seglet x own) in
        let more = text_more x.segment unit in
        let len = len_is v valid id at place x read in
        let count = read_count v valid id at place x read in
        let most = valid.fits in
        let memory = read_memory v valid id at place x read in
        let parts = set_valid v valid id at place x read (with_unit unit x) refl (omega arith) memory (omega arith) in
        let total = parts.0 in
        subst (λ (zs : List Image). (used_seglets v ≡ sum_by (count_of v.segment v.seglet) zs)
        × IsImages (record v { images = zs }))
        (changed_is v valid id at place x read (with_unit unit)) (omega arith, parts.1)

    go : (o : Option Image) → image_of v.images id ≡ o → IsSomeAnd o (λ (x : Image). x.is_whole ≡ true)
        → (used_seglets v ≡ sum_by (count_of v.segment v.seglet) (changed v.images id (with_unit unit)))
        × IsImages (record v { images = changed v.images id (with_unit unit) })
    go None is none = absurd none
    go (Some x) is own = grown_at x is own

pub text_one : (e : Entry) → length (text_of (e ∷ [])) ≡ length (spelling e)
text_one e = ap (λ (bytes : List ℕ). length bytes) (append-nil (spelling e))

-- ---- the text of one entry

one_entry : (e : Entry) (bytes : List ℕ) → IsEntry e → bytes ≡ spelling e → entries_in bytes ≡ e ∷ []
one_entry e bytes valid is = ap entries_in (is ∙ sym (append-nil (spelling e))) ∙ entries_in-text (e ∷ []) (valid, tt)

-- an entry stands at an offset
module _ (text : List ℕ) (at n : ℕ) (e : Entry) (begins : Begins (drop at text) e n) where
  part_is : take (at + n - at) (drop at text) ≡ spelling e
  part_is =
      let size : at + n - at ≡ n = omega arith in
      ap (λ (k : ℕ). take k (drop at text)) size ∙ begins.text

  pub part_entry : entries_in (take (at + n - at) (drop at text)) ≡ e ∷ []
  part_entry = one_entry e (take (at + n - at) (drop at text)) begins.entry part_is

  pub part_data : is_data e ≡ true → IsDataText (take (at + n - at) (drop at text))
  part_data own = record {
    each = subst (λ (es : List Entry). AllByRecursion IsEntry es) (sym part_entry) (begins.entry, tt);
    order = ap are_data part_entry ∙ ap (λ (b : Bool). b && true) own;
    text = part_is ∙ sym (append-nil (spelling e)) ∙ ap text_of (sym part_entry);
  }

  pub ends_within : at + n ≤ length text
  ends_within =
      let len : n ≡ length (spelling e) =
      (let within = begins.within in omega (arith, length-take n (drop at text), ap length begins.text)) in
      omega (arith, begins.within, len, spelling-some e, length-drop at text)

-- an object or tombstone stands at an offset
pub stood : (text : List ℕ) (at n : ℕ) → StandsData text at n
    → (e : Entry) × (standing_at at text ≡ Some e) × (is_data e ≡ true) × Begins (drop at text) e n
stood text at n there = go (standing_at at text) refl there
  where
    go : (o : Option Entry) → standing_at at text ≡ o
        → IsSomeAnd o (λ (e : Entry). (is_data e ≡ true) × Begins (drop at text) e n)
        → (e : Entry) × (standing_at at text ≡ Some e) × (is_data e ≡ true) × Begins (drop at text) e n
    go None is none = absurd none
    go (Some e) is some = (e, is, some.0, some.1)

-- the entry of an image
pub data_of : (xs : List Image) (from at n : ℕ) → HasData xs from at n
    → IsSomeAnd (entry_at xs from at) (λ (e : Entry). is_data e ≡ true)
data_of xs from at n there = go (segment_of xs from) there
  where
    go : (o : Option (List Entry)) → IsSomeAnd o (λ (es : List Entry). StandsData (text_of es) at n)
        → IsSomeAnd (option_and_then (λ (es : List Entry). standing_at at (text_of es)) o)
        (λ (e : Entry). is_data e ≡ true)
    go None none = absurd none
    go (Some es) some =
        let s = stood (text_of es) at n some in
        subst (λ (o : Option Entry). IsSomeAnd o (λ (e : Entry). is_data e ≡ true)) (sym s.1) s.2

-- it is appended
pub one_more : (o : Option Entry) (r : Result ℕ AppendFault) (old new : Image) (more : List Entry)
    → IfSome o (λ (e : Entry). more ≡ e ∷ [])
    → OnOk r (new ≡ with_unit more old) → OnOk r (IfSome o (λ (e : Entry). new ≡ with_unit (e ∷ []) old))
one_more None (Ok n) old new more one ok = tt
one_more (Some e) (Ok n) old new more one ok = ok ∙ ap (λ (es : List Entry). with_unit es old) one
one_more o (Err fault) old new more one ok = tt

pub one_fits : (o : Option Entry) (r : Result ℕ AppendFault) (limit len : ℕ) (bytes : List ℕ) → IsDataText bytes
    → IfSome o (λ (e : Entry). entries_in bytes ≡ e ∷ []) → IsErrOf r Full ↔ (limit < len + length bytes)
    → IfSome o (λ (e : Entry). IsErrOf r Full ↔ (limit < len + length (spelling e)))
one_fits None r limit len bytes unit one full = tt
one_fits (Some e) r limit len bytes unit one full =
    subst (λ (n : ℕ). IsErrOf r Full ↔ (limit < len + n)) (ap length (unit.text ∙ ap text_of one) ∙ text_one e) full

-- ---- the copy of an entry

module _ (xs : List Image) (from to source target : ℕ) (rising : AreRising xs) (first : IsPlaceOf xs from source)
    (second : IsPlaceOf xs to target)
    (front back : List Image) (is_front : front ≡ take target xs) (is_back : back ≡ drop target xs) (x y : Image) where
  pub source_below : from < to → source < target
  source_below order = places_rise xs from to source target rising first second order

  source_is : from < to → segment_of xs from ≡ Some (get_or front source x).segment
  source_is order =
      let below = source_below order in
      let found : image_of xs from ≡ Some (get_or xs source x) =
      image_at xs from source x rising first.within (first.is x) in
      let same : get_or front source x ≡ get_or xs source x = ap (λ (zs : List Image). get_or zs source x) is_front
      ∙ get_or-take target xs source x below in
      ap (λ (o : Option Image). option_map (λ (z : Image). z.segment) o) found
      ∙ ap (λ (z : Image). Some z.segment) (sym same)

  pub entry_is : (at : ℕ) → from < to → entry_at xs from at ≡ standing_at at (text_of (get_or front source x).segment)
  entry_is at order = ap (λ (o : Option (List Entry)). option_and_then
      (λ (es : List Entry). standing_at at (text_of es)) o) (source_is order)

  pub data_is : (at n : ℕ) → from < to → HasData xs from at n
      → StandsData (text_of (get_or front source x).segment) at n
  data_is at n order there =
      subst (λ (o : Option (List Entry)). IsSomeAnd o (λ (es : List Entry). StandsData (text_of es) at n))
      (source_is order) there

  target_is : get_or back 0 y ≡ get_or xs target y
  target_is = ap (λ (zs : List Image). get_or zs 0 y) is_back ∙ get_or-drop target xs 0 y
      ∙ ap (λ (n : ℕ). get_or xs n y) (add-zero target)

  pub len_here : len_at xs to ≡ length (text_of (get_or back 0 y).segment)
  len_here =
      ap (λ (o : Option Image). option_map_or (λ (es : List Entry). length (text_of es))
      (option_map (λ (z : Image). z.segment) o) 0)
      (image_at xs to target y rising second.within (second.is y))
      ∙ ap (λ (z : Image). length (text_of z.segment)) (sym target_is)

  -- it has room
  pub room_here : (limit : ℕ) → IsSomeAnd (image_of xs to) (λ (z : Image). limit ≤ z.room)
      → limit ≤ (get_or back 0 y).room
  room_here limit some =
      let there : limit ≤ (get_or xs target y).room =
      subst (λ (o : Option Image). IsSomeAnd o (λ (z : Image). limit ≤ z.room))
      (image_at xs to target y rising second.within (second.is y)) some in
      subst (λ (z : Image). limit ≤ z.room) (sym target_is) there

  pub copied_is : (o : Option Entry) (r : Result ℕ AppendFault) (new : Image) (zs : List Image) → zs ≡ set xs target new
      → OnOk r (IfSome o (λ (e : Entry). new ≡ with_unit (e ∷ []) (get_or back 0 y)))
      → OnOk r (IfSome o (λ (e : Entry). zs ≡ changed xs to (with_unit (e ∷ []))))
  copied_is None (Ok n) new zs is ok = tt
  copied_is (Some e) (Ok n) new zs is ok =
      is ∙ ap (λ (z : Image). set xs target z) ok
      ∙ ap (λ (z : Image). set xs target (with_unit (e ∷ []) z)) target_is
      ∙ changed_by_id xs to target y (with_unit (e ∷ [])) rising second.within (second.is y)
  copied_is o (Err fault) new zs is ok = tt

-- the images stay valid, whatever comes of it
pub copied_valid : (v : ImagesValue) (from at to : ℕ) (zs : List Image) (r : Result ℕ AppendFault) → IsImages v
    → IsWhole v.images to
    → IsSomeAnd (entry_at v.images from at) (λ (e : Entry). is_data e ≡ true)
    → OnOk r (IfSome (entry_at v.images from at) (λ (e : Entry). zs ≡ changed v.images to (with_unit (e ∷ []))))
    → IfSome (entry_at v.images from at) (λ (e : Entry). IsErrOf r Full
    ↔ (v.segment < len_at v.images to + length (spelling e)))
    → OnErr r (zs ≡ v.images)
    → (used_seglets v ≡ sum_by (count_of v.segment v.seglet) zs) × IsImages (record v { images = zs })
copied_valid v from at to zs r valid whole some ok full err = go (entry_at v.images from at) r some ok full err
  where
    go : (o : Option Entry) (q : Result ℕ AppendFault) → IsSomeAnd o (λ (e : Entry). is_data e ≡ true)
        → OnOk q (IfSome o (λ (e : Entry). zs ≡ changed v.images to (with_unit (e ∷ []))))
        → IfSome o (λ (e : Entry). IsErrOf q Full ↔ (v.segment < len_at v.images to + length (spelling e)))
        → OnErr q (zs ≡ v.images)
        → (used_seglets v ≡ sum_by (count_of v.segment v.seglet) zs) × IsImages (record v { images = zs })
    go None q none is within same = absurd none
    go (Some e) (Ok n) some is within same =
        let fits : v.segment < len_at v.images to + length (spelling e) → ⊥ =
        (λ (over : v.segment < len_at v.images to + length (spelling e)). not_full n (within.1 over)) in
        let one = text_one e in
        subst (λ (ys : List Image). (used_seglets v ≡ sum_by (count_of v.segment v.seglet) ys)
        × IsImages (record v { images = ys })) (sym is)
        (grown v to (e ∷ []) valid whole (omega (arith, fits)))
    go (Some e) (Err fault) some is within same =
        subst (λ (ys : List Image). (used_seglets v ≡ sum_by (count_of v.segment v.seglet) ys)
        × IsImages (record v { images = ys })) (sym same)
        (refl, valid)

-- so they are with it
pub copied_value : (v w : ImagesValue) (o : Option Entry) (r : Result ℕ AppendFault) (zs : List Image)
    (f : Entry → List Image) → w ≡ record v { images = zs } → OnOk r (IfSome o (λ (e : Entry). zs ≡ f e))
    → OnOk r (IfSome o (λ (e : Entry). w ≡ record v { images = f e }))
copied_value v w None (Ok n) zs f is ok = tt
copied_value v w (Some e) (Ok n) zs f is ok = is ∙ ap (λ (xs : List Image). record v { images = xs }) ok
copied_value v w o (Err fault) zs f is ok = tt
