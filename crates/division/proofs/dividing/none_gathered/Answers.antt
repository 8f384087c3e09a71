use Rattle.std.proofs.Common.{refl}
use Rattle.division.proofs.Gatherings.{empty_more}
use Rattle.division.proofs.dividing.none_gathered.Goals as goal

pub loop-partition-preserved : goal.loop-partition-preserved
loop-partition-preserved c =
    empty_more c.loop-partition.partition c.loop-partition.all.items c.push.new.self.items _
    c.in_ok-push.ensures.items refl c.new.ensures.items
    c.loop-partition.invariant
