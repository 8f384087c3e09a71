use Rattle.std.proofs.Common.{subst, sym}
use Rattle.images.specs.Images.{ImagesValue}
use Rattle.images.specs.Sorted.{IsWhole}
use Rattle.cleaner.proofs.Rooms.{now_whole, next_whole}
use Rattle.cleaner.proofs.treating.copy.Goals as goal

pub copy_to-requires-clause-whole : goal.copy_to-requires-clause-whole
copy_to-requires-clause-whole c =
    let images = c.args.images.now.images in
    subst (IsWhole images) (sym c.id-segment.ensures)
    (now_whole images c.args.place.segment c.args.place.at c.args.len c.args.images.now.segment c.args.survivors
    c.args.filling.now c.requires.of_data c.requires.whole c.requires.room)

pub copy_to-requires-2-clause-whole : goal.copy_to-requires-2-clause-whole
copy_to-requires-2-clause-whole c =
    let images = c.args.images.now.images in
    subst (λ (v : ImagesValue). IsWhole v.images c.id-segment-2.result) (sym c.in_default.ensures.same)
    (subst (IsWhole images) (sym c.id-segment-2.ensures)
    (next_whole images c.args.place.segment c.args.place.at c.args.len c.args.images.now.segment c.args.survivors
    c.args.filling.now c.requires.of_data c.requires.whole c.requires.room c.id-segment.result c.id-segment.ensures
    c.in_default.ensures.full))
