use Rattle.images.proofs.Adding.{image_found, segment_found}
use Rattle.images.proofs.Finding.{image_changed_is, segment_changed_is, image_without_is, segment_without_is}
use Rattle.images.proofs.laws.images_are_found.Goals as goal

pub returns : goal.returns
returns c = record {
  added = image_found;
  added_segment = segment_found;
  changed = λ images id other change same. image_changed_is id change same images other;
  changed_segment = λ images id other change same. segment_changed_is id change same images other;
  without = image_without_is;
  without_segment = segment_without_is;
}
