use Rattle.std.proofs.Common.{List, ap, sym}
use Rattle.images.specs.contracts.images.Images.{the_view}
use Rattle.images.specs.Image.{Image}
use Rattle.images.specs.Steps.{trimmed}
use Rattle.images.proofs.Listing.{absent_from_none, changed_absent}
use Rattle.images.proofs.Counts.{trimmed_valid, changed_is}
use Rattle.images.proofs.images.Images.trim.Goals as goal

pub returns-in_default : goal.returns-in_default
returns-in_default c =
    let none = rw c.as_slice.ensures.value at c.in_default.ensures.absent in
    rw (← c.self.view_is) (ap (λ (xs : List Image). record (the_view c.self.inside) { images = xs })
    (sym (changed_absent c.self.inside.images.items c.args.id trimmed
    (absent_from_none c.self.inside.images.items c.args.id none))))

pub invariant_of-self : goal.invariant_of-self
invariant_of-self c =
    let place = rw c.as_slice.ensures.value at c.in-Some.ensures.found in
    rw (c.trim.ensures, c.self.invariant.0, c.count_of-before.ensures, c.seglets_of-count.ensures, c.bytes_len.ensures)
    (trimmed_valid (the_view c.self.inside) c.self.invariant.1 c.args.id c.in-Some.at place c.index_mut-image.result.now
    c.index_mut-image.ensures.value)

pub returns : goal.returns
returns c =
    let place = rw c.as_slice.ensures.value at c.in-Some.ensures.found in
    let images = changed_is (the_view c.self.inside) c.self.invariant.1 c.args.id c.in-Some.at place
    c.index_mut-image.result.now c.index_mut-image.ensures.value trimmed in
    rw (← c.self.view_is, c.trim.ensures) (ap (λ (xs : List Image). record (the_view c.self.inside)
    { images = xs }) images)
