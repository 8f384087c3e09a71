use Rattle.std.proofs.Common.{◌<◌, List, ap, subst, sym}
use Rattle.std.specs.Prelude.{Option, IsSomeAnd}
use Rattle.images.specs.contracts.images.Images.{the_view}
use Rattle.images.specs.Image.{Image}
use Rattle.images.specs.Images.{ImagesValue}
use Rattle.images.specs.Sorted.{image_of}
use Rattle.images.specs.Steps.{more_replicas}
use Rattle.images.proofs.Counts.{read_image, replicas_valid, changed_is}
use Rattle.images.proofs.images.Images.add_replica.Goals as goal

pub add_replica-requires : goal.add_replica-requires
add_replica-requires c =
    let place = rw c.as_slice.ensures.value at c.in-Some.ensures.found in
    let few = subst (λ (w : ImagesValue). IsSomeAnd (image_of w.images c.args.id) (λ (x : Image). x.replicas < 64))
    (sym c.self.view_is) c.requires in
    subst (λ (o : Option Image). IsSomeAnd o (λ (x : Image). x.replicas < 64))
    (read_image (the_view c.self.inside) c.self.invariant.1 c.args.id c.in-Some.at place c.index_mut.result.now
    c.index_mut.ensures.value) few

pub invariant_of-self : goal.invariant_of-self
invariant_of-self c =
    let place = rw c.as_slice.ensures.value at c.in-Some.ensures.found in
    let x = c.index_mut.result.now in
    rw (c.add_replica.ensures, c.self.invariant.0)
    (replicas_valid (the_view c.self.inside) c.self.invariant.1 c.args.id c.in-Some.at place x
    c.index_mut.ensures.value (more_replicas x).replicas)

pub returns : goal.returns
returns c =
    let place = rw c.as_slice.ensures.value at c.in-Some.ensures.found in
    let images = changed_is (the_view c.self.inside) c.self.invariant.1 c.args.id c.in-Some.at place
    c.index_mut.result.now c.index_mut.ensures.value more_replicas in
    rw (← c.self.view_is, c.add_replica.ensures) (ap (λ (xs : List Image). record (the_view c.self.inside)
    { images = xs }) images)
