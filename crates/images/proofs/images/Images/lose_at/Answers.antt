use Rattle.std.proofs.Common.{◌<◌, List, length, ap, sym, subst}
use Rattle.images.specs.contracts.images.Images.{the_view}
use Rattle.images.specs.Image.{Image}
use Rattle.images.specs.Images.{ImagesValue}
use Rattle.images.specs.Steps.{fewer_replicas}
use Rattle.images.proofs.Counts.{replicas_valid}
use Rattle.images.proofs.Fronts.{own_place, set_same}
use Rattle.images.proofs.images.Images.lose_at.Goals as goal

pub invariant_of-self : goal.invariant_of-self
invariant_of-self c =
    let v = the_view c.self.inside in
    let x = c.index_mut.result.now in
    let lt = subst (λ (w : ImagesValue). c.args.place < length w.images) (sym c.self.view_is) c.requires in
    rw (c.lose_replica.ensures, c.self.invariant.0)
    (replicas_valid v c.self.invariant.1 x.id c.args.place
    (own_place v.images c.args.place x lt c.index_mut.ensures.value) x c.index_mut.ensures.value
    (fewer_replicas x).replicas)

pub returns : goal.returns
returns c =
    let v = the_view c.self.inside in
    let x = c.index_mut.result.now in
    rw (← c.self.view_is, c.lose_replica.ensures) (ap (λ (xs : List Image). record v { images = xs })
    (set_same v.images c.args.place x fewer_replicas c.index_mut.ensures.value))
