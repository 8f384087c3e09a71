use Rattle.images.specs.Images.{count_of}
use Rattle.images.proofs.Listing.{absent_from_none}
use Rattle.images.proofs.Adding.{newest_last, rising_added, all_added, ids_added, sum_added}
use Rattle.images.specs.Image.{Image}
use Rattle.std.proofs.Common.{◌<◌}
use Rattle.images.proofs.laws.images_are_added.Goals as goal

pub returns : goal.returns
returns c = record {
  newest = newest_last;
  rise = λ image images rising none. rising_added image images rising (absent_from_none images image.id none);
  below = λ image images id all lt. all_added (λ (x : Image). x.id < id) image images all lt;
  ids = ids_added;
  counts = λ segment seglet image images. sum_added (count_of segment seglet) image images;
}
