-- What stays true of the closed segments when the image of one is replaced by a shorter one.
use Rattle.std.proofs.Common.{◌≡◌, ℕ, ◌+◌, ◌*◌, ◌%◌, ◌≤◌, ◌<◌, Bool, true, false, List, [], ◌∷◌, length, refl, sym, ap}
use Rattle.std.proofs.Common.{subst, ◌∙◌, arith}
use Rattle.std.proofs.Math.Nat.{lt_of_mul-lt-mul_right}
use Rattle.std.specs.Prelude.{Option, Some, None, IsSome, ◌==◌, sum_by, if◌then◌else◌}
use Rattle.std.specs.Int.{div_ceil}
use Rattle.std.specs.List.{AllByRecursion}
use Rattle.std.specs.Option.{option_map, option_map_or}
use Rattle.std.proofs.lemmas.Bool.{eqb-true}
use Rattle.std.proofs.lemmas.Grind.{div_ceil_times}
use Rattle.std.proofs.lemmas.List.Sums.{sum_by-cons}
use Rattle.std.proofs.lemmas.Option.{same_Some}
use Rattle.entry.specs.declared.entry.Entry.{Entry}
use Rattle.entry.specs.Text.{text_of}
use Rattle.entry.proofs.ListLemmas.{all_weaker}
use Rattle.images.specs.Image.{Image}
use Rattle.images.specs.Images.{ImagesValue, IsImages, count_of, count_at, free_seglets}
use Rattle.images.specs.Sorted.{AreRising, image_of, segment_of, changed}
use Rattle.images.specs.Steps.{replaced_by}
use Rattle.images.proofs.Counts.{within_whole}
use Rattle.master_state.proofs.Imaging.{same_id, other_id, ids_in}

-- a shorter text fills no more seglets
div_ceil_le : (seglet a b : ℕ) → 0 < seglet → a ≤ b → div_ceil a seglet ≤ div_ceil b seglet
div_ceil_le seglet a b pos le =
    let short = (div_ceil_times a seglet pos).1 in
    let long = (div_ceil_times b seglet pos).0 in
    let more : (div_ceil b seglet + 1) * seglet ≡ div_ceil b seglet * seglet + seglet = omega arith in
    let lt : div_ceil a seglet * seglet < (div_ceil b seglet + 1) * seglet = omega arith in
    let below : div_ceil a seglet < div_ceil b seglet + 1 = lt_of_mul-lt-mul_right seglet lt in omega arith

module _ (id : ℕ) (es : List Entry) where
  -- each image keeps its id
  pub same_ids : (cs : List Image) → ids_in (changed cs id (replaced_by es)) ≡ ids_in cs
  same_ids [] = refl
  same_ids (c ∷ cs) = first (c.id == id) (same_ids cs) where
    first : (t : Bool) → ids_in (changed cs id (replaced_by es)) ≡ ids_in cs
        → ids_in ((if t then replaced_by es c else c) ∷ changed cs id (replaced_by es)) ≡ c.id ∷ ids_in cs
    first true later = ap (λ (ids : List ℕ). c.id ∷ ids) later
    first false later = ap (λ (ids : List ℕ). c.id ∷ ids) later

  abbrev then_of : List Image → ℕ → Option (List Entry)
  then_of cs s = segment_of (changed cs id (replaced_by es)) s

  pub changed_there : (cs : List Image) (s : ℕ) → (id ≡ s → ⊥)
      → segment_of (changed cs id (replaced_by es)) s ≡ segment_of cs s
  changed_there [] s other = refl
  changed_there (c ∷ cs) s other = first (c.id == id) refl (changed_there cs s other) where
    next : (x : Image) → (x.id ≡ c.id) → then_of cs s ≡ segment_of cs s → (t : Bool) → (c.id == s) ≡ t
        → x.segment ≡ c.segment
        → segment_of (x ∷ changed cs id (replaced_by es)) s ≡ segment_of (c ∷ cs) s
    next x same later true here own =
        let there : (x.id == s) ≡ true = ap (λ (z : ℕ). z == s) same ∙ here in rw (there, here) (ap Some own)
    next x same later false away own =
        let there : (x.id == s) ≡ false = ap (λ (z : ℕ). z == s) same ∙ away in rw (there, away) later

    first : (t : Bool) → (c.id == id) ≡ t → then_of cs s ≡ segment_of cs s
        → segment_of (changed (c ∷ cs) id (replaced_by es)) s ≡ segment_of (c ∷ cs) s
    first true here later =
        let away : (c.id == s) ≡ false = other_id c.id s (λ same. other (sym (eqb-true c.id id here) ∙ same)) in
        rw (here, away) later
    first false own later = rw own (next c refl later (c.id == s) refl refl)

  pub changed_here : (cs : List Image) → IsSome (segment_of cs id)
      → segment_of (changed cs id (replaced_by es)) id ≡ Some es
  changed_here [] some = absurd (cc)
  changed_here (c ∷ cs) some = first (c.id == id) refl (changed_here cs) where
    first : (t : Bool) → (c.id == id) ≡ t → (IsSome (segment_of cs id) → then_of cs id ≡ Some es)
        → segment_of (changed (c ∷ cs) id (replaced_by es)) id ≡ Some es
    first true here later = rw (here, here) refl
    first false away later = let rest : IsSome (segment_of cs id) = rw away at some in rw (away, away) (later rest)

  pub changed_each : (P : List Entry → Type 0) (cs : List Image) → AllByRecursion (λ (c : Image). P c.segment) cs → P es
      → AllByRecursion (λ (c : Image). P c.segment) (changed cs id (replaced_by es))
  changed_each P [] all new = tt
  changed_each P (c ∷ cs) all new = first (c.id == id) (changed_each P cs all.1 new) where
    first : (t : Bool) → AllByRecursion (λ (x : Image). P x.segment) (changed cs id (replaced_by es))
        → AllByRecursion (λ (x : Image). P x.segment) ((if t then replaced_by es c else c)
        ∷ changed cs id (replaced_by es))
    first true later = (new, later)
    first false later = (all.0, later)

  -- no more is counted if the new image is no longer than the old one
  module _ (segment seglet : ℕ) (pos : 0 < seglet) (multiple : segment % seglet ≡ 0) where
    replaced_count : (c : Image) → length (text_of es) ≤ length (text_of c.segment)
        → length (text_of c.segment) ≤ segment
        → count_of segment seglet (replaced_by es c) ≤ count_of segment seglet c
    replaced_count c le within = go c.is_whole refl where
      go : (t : Bool) → c.is_whole ≡ t → count_of segment seglet (replaced_by es c) ≤ count_of segment seglet c
      go true is = rw is (within_whole segment seglet (length (text_of es)) pos multiple (omega arith))
      go false is = rw is (div_ceil_le seglet (length (text_of es)) (length (text_of c.segment)) pos le)

    pub changed_count : (cs : List Image) → AllByRecursion
        (λ (c : Image). c.id ≡ id → length (text_of es) ≤ length (text_of c.segment)) cs
        → AllByRecursion (λ (c : Image). length (text_of c.segment) ≤ segment) cs
        → sum_by (count_of segment seglet) (changed cs id (replaced_by es)) ≤ sum_by (count_of segment seglet) cs
    changed_count [] shorter within = omega arith
    changed_count (c ∷ cs) shorter within = first (c.id == id) refl (changed_count cs shorter.1 within.1) where
      more : (x : Image) → count_of segment seglet x ≤ count_of segment seglet c
          → sum_by (count_of segment seglet) (changed cs id (replaced_by es)) ≤ sum_by (count_of segment seglet) cs
          → sum_by (count_of segment seglet) (x ∷ changed cs id (replaced_by es))
          ≤ sum_by (count_of segment seglet) (c ∷ cs)
      more x one later =
          let own = sum_by-cons (count_of segment seglet) x (changed cs id (replaced_by es)) in
          let was = sum_by-cons (count_of segment seglet) c cs in
          omega arith

      first : (t : Bool) → (c.id == id) ≡ t
          → sum_by (count_of segment seglet) (changed cs id (replaced_by es)) ≤ sum_by (count_of segment seglet) cs
          → sum_by (count_of segment seglet) (changed (c ∷ cs) id (replaced_by es))
          ≤ sum_by (count_of segment seglet) (c ∷ cs)
      first true here later =
          rw here (more (replaced_by es c) (replaced_count c (shorter.0 (eqb-true c.id id here)) within.0) later)
      first false away later = rw away (more c (omega arith) later)

-- each closed segment of this id is the one that is found
pub each_one : (cs : List Image) (id : ℕ) (es : List Entry) → AreRising cs → segment_of cs id ≡ Some es
    → AllByRecursion (λ (c : Image). c.id ≡ id → es ≡ c.segment) cs
each_one [] id es rising is = tt
each_one (c ∷ cs) id es rising is = first (c.id == id) refl (each_one cs id es rising.1) where
  first : (t : Bool) → (c.id == id) ≡ t → (segment_of cs id ≡ Some es
      → AllByRecursion (λ (x : Image). x.id ≡ id → es ≡ x.segment) cs)
      → AllByRecursion (λ (x : Image). x.id ≡ id → es ≡ x.segment) (c ∷ cs)
  first true here later =
      let same : c.id ≡ id = eqb-true c.id id here in
      let own : Some c.segment ≡ Some es = rw here at is in (
        (λ e. sym (same_Some c.segment es own)),
        all_weaker (λ (x : Image). c.id < x.id) (λ (x : Image). x.id ≡ id → es ≡ x.segment)
            (λ x lt e. absurd (omega arith)) cs rising.0,
      )
  first false away later =
      let rest : segment_of cs id ≡ Some es = rw away at is in (
        (λ e. (let here = same_id id in let test : (c.id == id) ≡ true = ap (λ (z : ℕ). z == id) e
            ∙ here in absurd (cc))),
        later rest,
      )

-- what is true of each closed segment is true of one that is there
pub closed_each : (P : List Entry → Type 0) (cs : List Image) (s : ℕ) (es : List Entry)
    → AllByRecursion (λ (c : Image). P c.segment) cs
    → segment_of cs s ≡ Some es → P es
closed_each P [] s es all is = absurd (cc)
closed_each P (c ∷ cs) s es all is = go (c.id == s) refl (closed_each P cs s es all.1) where
  go : (t : Bool) → (c.id == s) ≡ t → (segment_of cs s ≡ Some es → P es) → P es
  go true test later = let own : Some c.segment ≡ Some es = rw test at is in subst P (same_Some c.segment es own) all.0
  go false test later = let rest : segment_of cs s ≡ Some es = rw test at is in later rest

-- the image of a segment that is there
image_there : (cs : List Image) (id : ℕ) (es : List Entry) → segment_of cs id ≡ Some es
    → (x : Image) × (image_of cs id ≡ Some x) × (x.segment ≡ es)
image_there cs id es is = go (image_of cs id) refl is where
  go : (o : Option Image) → image_of cs id ≡ o → option_map (λ (x : Image). x.segment) o ≡ Some es
      → (x : Image) × (image_of cs id ≡ Some x) × (x.segment ≡ es)
  go None own is = absurd (cc)
  go (Some x) own is = (x, own, same_Some x.segment es is)

pub has_image : (cs : List Image) (id : ℕ) (es : List Entry) → segment_of cs id ≡ Some es → IsSome (image_of cs id)
has_image cs id es is = subst (λ (o : Option Image). IsSome o) (sym (image_there cs id es is).1) refl

-- a segment that is no longer than the old one is within the bytes of a segment
pub still_within : (v : ImagesValue) → IsImages v → (id : ℕ) (es old : List Entry) → segment_of v.images id ≡ Some old
    → length (text_of es) ≤ length (text_of old) → length (text_of es) ≤ v.segment
still_within v valid id es old is le =
    let within : length (text_of old) ≤ v.segment =
    closed_each (λ (fs : List Entry). length (text_of fs) ≤ v.segment) v.images id old valid.within is in
    omega arith

-- and is never refused
pub never_full : (v : ImagesValue) → IsImages v → (id : ℕ) (es old : List Entry) → segment_of v.images id ≡ Some old
    → length (text_of es) ≤ length (text_of old)
    → free_seglets v + count_at v id < div_ceil (length (text_of es)) v.seglet → ⊥
never_full v valid id es old is le over =
    let x = image_there v.images id old is in
    let count : count_at v id ≡ count_of v.segment v.seglet x.0 =
    ap (λ (o : Option Image). option_map_or (count_of v.segment v.seglet) o 0) x.1 in
    let within : length (text_of old) ≤ v.segment =
    closed_each (λ (fs : List Entry). length (text_of fs) ≤ v.segment) v.images id old valid.within is in
    let len : length (text_of x.0.segment) ≡ length (text_of old) = ap (λ (fs : List Entry). length (text_of fs)) x.2 in
    let least = valid.sizes.least_seglet in
    let shorter : div_ceil (length (text_of es)) v.seglet ≤ count_of v.segment v.seglet x.0 =
    replaced_count id es v.segment v.seglet (omega arith) valid.sizes.multiple x.0 (omega arith) (omega arith) in
    omega arith
