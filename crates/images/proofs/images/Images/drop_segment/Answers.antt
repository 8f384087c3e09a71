use Rattle.std.proofs.Common.{List, ap, sym}
use Rattle.images.specs.contracts.images.Images.{the_view}
use Rattle.images.specs.Image.{Image}
use Rattle.images.proofs.Listing.{absent_from_none, without_absent}
use Rattle.images.proofs.Counts.{without_valid, without_is}
use Rattle.images.proofs.images.Images.drop_segment.Goals as goal

pub invariant_of-self : goal.invariant_of-self
invariant_of-self c =
    let place = rw c.as_slice.ensures.value at c.in-Some.ensures.found in
    rw (c.remove-image.ensures.items, c.remove-image.ensures.capacity, c.self.invariant.0, c.count_of.ensures)
    (without_valid (the_view c.self.inside) c.self.invariant.1 c.args.id c.in-Some.at place c.remove-image.result
    c.remove-image.ensures.value)

pub returns-in-Some : goal.returns-in-Some
returns-in-Some c =
    let place = rw c.as_slice.ensures.value at c.in-Some.ensures.found in
    let images = without_is (the_view c.self.inside) c.self.invariant.1 c.args.id c.in-Some.at place
    c.remove-image.result c.remove-image.ensures.value in
    rw (← c.self.view_is, c.remove-image.ensures.items, c.remove-image.ensures.capacity)
    (ap (λ (xs : List Image). record (the_view c.self.inside) { images = xs }) images)

pub returns-in_default : goal.returns-in_default
returns-in_default c =
    let none = rw c.as_slice.ensures.value at c.in_default.ensures.absent in
    rw (← c.self.view_is) (ap (λ (xs : List Image). record (the_view c.self.inside) { images = xs })
    (sym (without_absent c.self.inside.images.items c.args.id
    (absent_from_none c.self.inside.images.items c.args.id none))))
