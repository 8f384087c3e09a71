use Rattle.std.proofs.Common.{ap, sym}
use Rattle.std.specs.Option.{option_map}
use Rattle.images.specs.Image.{Image}
use Rattle.images.proofs.Counts.{image_read}
use Rattle.images.proofs.images.Images.get.Goals as goal

pub returns : goal.returns
returns c =
    let place = rw c.as_slice.ensures.value at c.in_ok-at.ensures.found in
    let image = image_read c.self.inside.images.items c.args.id c.in_ok-at.at c.index.result.now
    c.self.invariant.1.rising place c.index.ensures in
    rw (← c.self.view_is, c.segment.ensures) (sym (ap (option_map (λ (x : Image). x.segment)) image))
