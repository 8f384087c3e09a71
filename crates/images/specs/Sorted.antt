-- Lists of images by rising id: which image an id has, and what a step makes of the list.
use Rattle.std.specs.Prelude.{◌≡◌, ℕ, zero, suc, ◌<◌, ◌==◌, List, [], ◌∷◌, map, filter, not, Option, IsSomeAnd, true}
use Rattle.std.specs.Prelude.{find, nat_lt, if◌then◌else◌, ⊤}
use Rattle.std.specs.List.{AllByRecursion}
use Rattle.std.specs.Option.{option_map, option_map_or}
use Rattle.entry.specs.declared.entry.Entry.{Entry}
use Rattle.images.specs.Image.{Image}

-- the id of each image is above the ids of all images before it
abbrev pub AreRising : List Image → Type 0
AreRising [] = ⊤
AreRising (image ∷ later) = AllByRecursion (λ (other : Image). image.id < other.id) later × AreRising later

-- the ids of all these images are below this id
abbrev pub AreBelow : ℕ → List Image → Type 0
AreBelow id images = AllByRecursion (λ (image : Image). image.id < id) images

-- the image of the segment of this id, if any
abbrev pub image_of : List Image → ℕ → Option Image
image_of images id = find (λ (image : Image). image.id == id) images

-- the entries of the segment of this id, if it has an image
abbrev pub segment_of : List Image → ℕ → Option (List Entry)
segment_of images id = option_map (λ (image : Image). image.segment) (image_of images id)

-- how many backups hold the segment of this id; 0 if it has no image
abbrev pub replicas_of : List Image → ℕ → ℕ
replicas_of images id = option_map_or (λ (image : Image). image.replicas) (image_of images id) 0

-- there is an image of this id, and it still takes appends
abbrev pub IsWhole : List Image → ℕ → Type 0
IsWhole images id = IsSomeAnd (image_of images id) (λ (image : Image). image.is_whole ≡ true)

-- the image of this id is changed, and no other
abbrev pub changed : List Image → ℕ → (Image → Image) → List Image
changed images id change = map (λ (image : Image). if image.id == id then change image else image) images

-- the image at this place is changed, and no other
abbrev pub changed_at : List Image → ℕ → (Image → Image) → List Image
changed_at [] at change = []
changed_at (image ∷ later) zero change = change image ∷ later
changed_at (image ∷ later) (suc at) change = image ∷ changed_at later at change

-- the first so many images are changed
abbrev pub changed_front : List Image → ℕ → (Image → Image) → List Image
changed_front [] count change = []
changed_front (image ∷ later) zero change = image ∷ later
changed_front (image ∷ later) (suc count) change = change image ∷ changed_front later count change

-- the list with one more image, in front of the first image that has a greater id
abbrev pub added : Image → List Image → List Image
added image [] = image ∷ []
added image (other ∷ later) =
    if nat_lt image.id other.id then image ∷ other ∷ later else other ∷ added image later

-- the list without the image of this id
abbrev pub without : List Image → ℕ → List Image
without images id = filter (λ (image : Image). not (image.id == id)) images
