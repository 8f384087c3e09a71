use Rattle.partitions.proofs.PartLists.{joined_none}
use Rattle.partitions.proofs.listing.Joined.new.Goals as goal

pub invariant_of-result : goal.invariant_of-result
invariant_of-result g c =
    rw (c.new-2.ensures, c.new.ensures, c.requires)
    (joined_none g.D.Division.parts g.D.Division.segments g.D.Division.safe)
