-- The place of an image in a list.
use Rattle.std.specs.Prelude.{◌≡◌, ℕ, ◌<◌, List, length, slice_index_or}
use Rattle.images.specs.Image.{Image}

-- the list has an image at this place, and this image has this id
pub record IsPlaceOf (images : List Image) (id at : ℕ) : Type 0 where
  pub within : at < length images
  pub is : (d : Image) → (slice_index_or images at d).id ≡ id
