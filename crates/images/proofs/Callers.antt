-- What the images keep through each step, for callers.
use Rattle.std.proofs.Common.{◌≡◌, ℕ, ◌+◌, ◌<◌, ◌≤◌, Bool, true, false, List, [], ◌∷◌, refl, sym, ap, subst, ◌∙◌, arith}
use Rattle.std.specs.Prelude.{◌==◌, Option, Some, None, IsSomeAnd}
use Rattle.entry.specs.declared.entry.Entry.{Entry}
use Rattle.images.specs.Image.{Image}
use Rattle.images.specs.Images.{ImagesValue}
use Rattle.images.specs.Sorted.{AreBelow, IsWhole, image_of, added, changed, without}
use Rattle.images.specs.Steps.{with_unit}
use Rattle.images.proofs.Listing.{all_without}
use Rattle.images.proofs.Adding.{all_added, image_own}

-- ---- each id is below the next one

pub below_le : (xs : List Image) (m n : ℕ) → AreBelow m xs → m ≤ n → AreBelow n xs
below_le [] m n all le = tt
below_le (x ∷ xs) m n all le = (let lt = all.0 in (omega arith, below_le xs m n all.1 le))

pub below_added : (xs : List Image) (y : Image) → AreBelow y.id xs → AreBelow (y.id + 1) (added y xs)
below_added xs y all =
    all_added (λ (x : Image). x.id < y.id + 1) y xs (below_le xs y.id (y.id + 1) all (omega arith)) (omega arith)

pub below_changed : (xs : List Image) (id n : ℕ) (f : Image → Image) → ((x : Image) → (f x).id ≡ x.id) → AreBelow n xs
    → AreBelow n (changed xs id f)
below_changed [] id n f same all = tt
below_changed (x ∷ xs) id n f same all = go (x.id == id) refl (below_changed xs id n f same all.1)
  where
    go : (t : Bool) → (x.id == id) ≡ t → AreBelow n (changed xs id f) → AreBelow n (changed (x ∷ xs) id f)
    go true is rest = rw (is, same x) (all.0, rest)
    go false is rest = rw is (all.0, rest)

pub below_without : (xs : List Image) (id n : ℕ) → AreBelow n xs → AreBelow n (without xs id)
below_without xs id n all = all_without (λ (x : Image). x.id < n) xs id all

-- ---- the image of an id

-- what is changed is found changed
pub image_changed : (xs : List Image) (id : ℕ) (f : Image → Image) (y : Image) → ((x : Image) → (f x).id ≡ x.id)
    → image_of xs id ≡ Some y
    → image_of (changed xs id f) id ≡ Some (f y)
image_changed [] id f y same is = absurd (cc)
image_changed (x ∷ xs) id f y same is = go (x.id == id) refl (image_changed xs id f y same)
  where
    go : (t : Bool) → (x.id == id) ≡ t → (image_of xs id ≡ Some y → image_of (changed xs id f) id ≡ Some (f y))
        → image_of (changed (x ∷ xs) id f) id ≡ Some (f y)
    go true test rest =
        let own : Some x ≡ Some y = rw test at is in
        let found : ((f x).id == id) ≡ true = ap (λ (n : ℕ). n == id) (same x) ∙ test in
        let equal : x ≡ y = cc in
        rw (test, found) (ap (λ (z : Image). Some (f z)) equal)
    go false test rest =
        let later : image_of xs id ≡ Some y = rw test at is in
        rw (test, test) (rest later)

-- ---- what takes appends

-- the image that was added does if it is whole
pub whole_added : (xs : List Image) (y : Image) → image_of xs y.id ≡ None → y.is_whole ≡ true
    → IsWhole (added y xs) y.id
whole_added xs y none is = subst (λ (o : Option Image). IsSomeAnd o (λ (x : Image). x.is_whole ≡ true))
    (sym (image_own y xs none)) is

-- what did still does with a unit at its end
pub whole_grown : (xs : List Image) (id : ℕ) (unit : List Entry) → IsWhole xs id
    → IsWhole (changed xs id (with_unit unit)) id
whole_grown xs id unit whole = go (image_of xs id) refl whole
  where
    go : (o : Option Image) → image_of xs id ≡ o → IsSomeAnd o (λ (x : Image). x.is_whole ≡ true)
        → IsWhole (changed xs id (with_unit unit)) id
    go None is none = absurd none
    go (Some y) is own = subst (λ (o : Option Image). IsSomeAnd o (λ (x : Image). x.is_whole ≡ true))
        (sym (image_changed xs id (with_unit unit) y (λ (x : Image). refl) is)) own

-- an append keeps it whole, the ids and the size of a segment
pub append_keeps : (v w : ImagesValue) (id : ℕ) (unit : List Entry)
    → w ≡ record v { images = changed v.images id (with_unit unit) } → IsWhole v.images id
    → IsWhole w.images id × ((n : ℕ) → AreBelow n v.images → AreBelow n w.images) × (w.segment ≡ v.segment)
append_keeps v w id unit is whole =
    let images : w.images ≡ changed v.images id (with_unit unit) = ap (λ (u : ImagesValue). u.images) is in (
      subst (λ (xs : List Image). IsWhole xs id) (sym images) (whole_grown v.images id unit whole),
      (λ (n : ℕ) (all : AreBelow n v.images). subst (λ (xs : List Image). AreBelow n xs) (sym images)
          (below_changed v.images id n (with_unit unit) (λ (x : Image). refl) all)),
      ap (λ (u : ImagesValue). u.segment) is,
    )
