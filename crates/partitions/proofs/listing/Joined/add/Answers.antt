use Rattle.std.proofs.Common.{◌++◌, subst}
use Rattle.claims.specs.Listed.{AreOrdered}
use Rattle.partitions.specs.Parted.{IsListed, bag_in}
use Rattle.partitions.proofs.PartLists.{joined_more}
use Rattle.partitions.proofs.listing.Joined.add.Goals as goal

pub invariant_of-self-2 : goal.invariant_of-self-2
invariant_of-self-2 g c =
    let qs = g.D.Division.parts in
    let segments = g.D.Division.segments in
    let recorded = g.D.Division.safe in
    let here = c.self.inside in
    let list = c.list.inside in
    let os = here.objects in
    let ps = list.objects in
    let next : IsListed (bag_in qs here.count segments) recorded ps list.safe =
    subst (λ n. IsListed (bag_in qs n segments) recorded ps list.safe) c.if-list-self.false c.list.invariant in
    let ordered : AreOrdered (os ++ ps) =
    c.follows.ensures c.if-not-follows.false in
    joined_more qs segments recorded here.count here.safe list.safe c.greater-self-inside.result os ps
    c.append.new.self c.self.invariant next ordered c.greater-self-inside.ensures c.in_ok-append.ensures.ok
