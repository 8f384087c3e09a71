-- What is true of a list of images after an image was added, changed or removed.
use Rattle.std.specs.Prelude.{◌≡◌, ℕ, ◌+◌, ◌<◌, ◌==◌, nat_lt, List, [], ◌∷◌, ◌++◌, map, sum_by}
use Rattle.std.specs.Prelude.{Some, None, if◌then◌else◌}
use Rattle.std.specs.Option.{option_map}
use Rattle.images.specs.Image.{Image}
use Rattle.images.specs.Images.{count_of}
use Rattle.images.specs.Sorted.{AreRising, AreBelow, image_of, segment_of, added, changed, without}

-- ---- one more image

-- If an image's id is above all ids of the list, the id is new there, and the image comes last.
abbrev pub NewestIsLast : Type 0
NewestIsLast = (image : Image) (images : List Image) → AreBelow image.id images
    → (image_of images image.id ≡ None) × (added image images ≡ images ++ image ∷ [])

-- If the id is new, the images are still in order after the image is added.
abbrev pub AddedRise : Type 0
AddedRise = (image : Image) (images : List Image) → AreRising images → image_of images image.id ≡ None
    → AreRising (added image images)

-- If all images of the list and the new one are below an id, all are below it after the new one is added.
abbrev pub AddedAreBelow : Type 0
AddedAreBelow = (image : Image) (images : List Image) (id : ℕ) → AreBelow id images → image.id < id
    → AreBelow id (added image images)

-- the ids with one more, in front of the first greater id
abbrev pub inserted : ℕ → List ℕ → List ℕ
inserted id [] = id ∷ []
inserted id (other ∷ ids) = if nat_lt id other then id ∷ other ∷ ids else other ∷ inserted id ids

-- Once an image is added, its id is added to the ids.
abbrev pub AddedHaveId : Type 0
AddedHaveId = (image : Image) (images : List Image)
    → map (λ (x : Image). x.id) (added image images) ≡ inserted image.id (map (λ (x : Image). x.id) images)

-- If the id is new, the added image is found by it, and all others are found as before.
abbrev pub AddedIsFound : Type 0
AddedIsFound = (image : Image) (images : List Image) (id : ℕ) → image_of images image.id ≡ None
    → image_of (added image images) id ≡ if image.id == id then Some image else image_of images id

-- the same of its segment
abbrev pub AddedSegmentIsFound : Type 0
AddedSegmentIsFound = (image : Image) (images : List Image) (id : ℕ) → image_of images image.id ≡ None
    → segment_of (added image images) id ≡ if image.id == id then Some image.segment else segment_of images id

-- The seglets of the added image are counted beside those of the others.
abbrev pub AddedCounts : Type 0
AddedCounts = (segment seglet : ℕ) (image : Image) (images : List Image)
    → sum_by (count_of segment seglet) (added image images)
    ≡ sum_by (count_of segment seglet) images + count_of segment seglet image

-- ---- one image changed

-- A change that keeps ids changes what is found by this id, and by no other.
abbrev pub ChangedIsFound : Type 0
ChangedIsFound = (images : List Image) (id other : ℕ) (change : Image → Image) → ((x : Image) → (change x).id ≡ x.id)
    → image_of (changed images id change) other
    ≡ if other == id then option_map change (image_of images id) else image_of images other

-- the same of its segment
abbrev pub ChangedSegmentIsFound : Type 0
ChangedSegmentIsFound = (images : List Image) (id other : ℕ) (change : Image → Image)
    → ((x : Image) → (change x).id ≡ x.id)
    → segment_of (changed images id change) other
    ≡ if other == id then option_map (λ (x : Image). (change x).segment) (image_of images id)
    else segment_of images other

-- A change that keeps ids leaves the list of ids, and so their order, as it was.
abbrev pub ChangedHaveIds : Type 0
ChangedHaveIds = (images : List Image) (id : ℕ) (change : Image → Image) → ((x : Image) → (change x).id ≡ x.id)
    → map (λ (x : Image). x.id) (changed images id change) ≡ map (λ (x : Image). x.id) images

abbrev pub ChangedRise : Type 0
ChangedRise = (images : List Image) (id : ℕ) (change : Image → Image) → ((x : Image) → (change x).id ≡ x.id)
    → AreRising images → AreRising (changed images id change)

-- ---- one image gone

-- The removed image is not found any more, and all others are found as before.
abbrev pub WithoutIsFound : Type 0
WithoutIsFound = (images : List Image) (id other : ℕ)
    → image_of (without images id) other ≡ if other == id then None else image_of images other

-- the same of its segment
abbrev pub WithoutSegmentIsFound : Type 0
WithoutSegmentIsFound = (images : List Image) (id other : ℕ)
    → segment_of (without images id) other ≡ if other == id then None else segment_of images other

-- The images are still in order after one is removed.
abbrev pub WithoutRise : Type 0
WithoutRise = (images : List Image) (id : ℕ) → AreRising images → AreRising (without images id)
