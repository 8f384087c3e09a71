use Rattle.std.proofs.Common.{ap, sym}
use Rattle.std.specs.Prelude.{Option}
use Rattle.std.specs.Option.{option_map_or}
use Rattle.images.specs.Image.{Image}
use Rattle.images.proofs.Counts.{image_read}
use Rattle.images.proofs.images.Images.replicas.Goals as goal

pub returns-in-Some : goal.returns-in-Some
returns-in-Some c =
    let place = rw c.as_slice.ensures.value at c.in-Some.ensures.found in
    let image = image_read c.self.inside.images.items c.args.id c.in-Some.at c.index.result.now
    c.self.invariant.1.rising place c.index.ensures in
    rw (← c.self.view_is, c.replicas.ensures.replicas)
    (sym (ap (λ (o : Option Image). option_map_or (λ (x : Image). x.replicas) o 0) image))
