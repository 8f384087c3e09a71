use Rattle.std.proofs.Common.{◌≡◌, List, sym, ap, subst, ◌∙◌}
use Rattle.std.specs.Prelude.{Some}
use Rattle.images.specs.Image.{Image}
use Rattle.images.specs.Sorted.{AreRising, segment_of}
use Rattle.master_core.specs.master_state.Data.{MasterData}
use Rattle.master.proofs.SegmentRows.{read_there}
use Rattle.master.proofs.segments.closed_rows.Goals as goal

pub closed_row-requires : goal.closed_row-requires
closed_row-requires c =
    let images = c.as_slice-image-items.result.now in
    let same = c.as_slice-image-items.ensures.images in
    let closed = same ∙ ap (λ (m : MasterData). m.closed) c.core.view_is in
    let x = c.image-item.result in
    record {
      there = subst (λ (cs : List Image). segment_of cs x.id ≡ Some x.segment) closed
          (read_there images c.loop-image.image-index x
          (subst AreRising (sym same) c.as_slice-image-items.ensures.valid.rising)
          c.loop-image-test.true c.image-item.is);
    }
