use Rattle.images.proofs.Listing.{rising_without}
use Rattle.images.proofs.Finding.{ids_changed, rising_changed}
use Rattle.images.proofs.laws.images_stay_in_order.Goals as goal

pub returns : goal.returns
returns c = record {
  ids = λ images id change same. ids_changed id change same images;
  changed = λ images id change same rising. rising_changed id change same images rising;
  without = rising_without;
}
