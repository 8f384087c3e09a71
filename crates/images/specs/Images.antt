-- Images of segments in memory, and how many seglets they count.
use Rattle.std.specs.Prelude.{◌≡◌, ℕ, ◌-◌, ◌*◌, ◌/◌, ◌%◌, ◌^◌, ◌≤◌, List, length, sum_by, true, if◌then◌else◌}
use Rattle.std.specs.List.{AllByRecursion}
use Rattle.std.specs.Int.{div_ceil}
use Rattle.std.specs.Option.{option_map_or}
use Rattle.entry.specs.Text.{text_of}
use Rattle.images.specs.Image.{Image}
use Rattle.images.specs.Sorted.{AreRising, image_of}

pub record ImagesValue : Type 0 where
  -- the most bytes of a segment
  pub segment : ℕ
  -- the bytes of a seglet
  pub seglet : ℕ
  -- how many seglets there are
  pub seglets : ℕ
  -- the images, by rising id
  pub images : List Image
  -- for how many images the list is sure to have memory
  pub room : ℕ

-- how many seglets an image counts: those of a whole segment if it takes appends, else its own bytes, rounded up
abbrev pub count_of : ℕ → ℕ → Image → ℕ
count_of segment seglet image =
    if image.is_whole then segment / seglet else div_ceil (length (text_of image.segment)) seglet

-- how many seglets all images count together
abbrev pub used_seglets : ImagesValue → ℕ
used_seglets v = sum_by (count_of v.segment v.seglet) v.images

-- how many seglets are free
abbrev pub free_seglets : ImagesValue → ℕ
free_seglets v = v.seglets - used_seglets v

-- how many seglets the image of this id counts; 0 if there is no such image
abbrev pub count_at : ImagesValue → ℕ → ℕ
count_at v id = option_map_or (count_of v.segment v.seglet) (image_of v.images id) 0

-- the sizes that a configuration may have: bytes of a segment, bytes of a seglet, and the number of seglets
pub record AreSizes (segment seglet seglets : ℕ) : Type 0 where
  pub least_seglet : 64 ≤ seglet
  pub most_seglet : seglet ≤ 65536
  pub least_segment : 512 ≤ segment
  pub most_segment : segment ≤ 8388608
  pub multiple : segment % seglet ≡ 0
  pub least_seglets : 4 * (segment / seglet) ≤ seglets
  pub most_seglets : seglets ≤ 2 ^ 32

-- no image is longer than a segment
abbrev pub AreWithin : ℕ → List Image → Type 0
AreWithin segment images = AllByRecursion (λ (image : Image). length (text_of image.segment) ≤ segment) images

-- each image that takes appends has memory for a whole segment
abbrev pub HaveMemory : ℕ → List Image → Type 0
HaveMemory segment images = AllByRecursion (λ (image : Image). image.is_whole ≡ true → segment ≤ image.room) images

-- what is true of the images in memory before and after each call
pub record IsImages (v : ImagesValue) : Type 0 where
  pub sizes : AreSizes v.segment v.seglet v.seglets
  pub rising : AreRising v.images
  pub within : AreWithin v.segment v.images
  pub memory : HaveMemory v.segment v.images
  pub fits : used_seglets v ≤ v.seglets
  pub room : length v.images ≤ v.room
