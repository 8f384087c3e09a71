use Rattle.std.proofs.Common.{map}
use Rattle.claims.specs.Claims.{claimed, claims_of}
use Rattle.partitions.specs.Parted.{entries_in}
use Rattle.partitions.proofs.Parting.{parcel_claimed}
use Rattle.partitions.proofs.share.claims_in.Goals as goal

pub loop-parcel-preserved : goal.loop-parcel-preserved
loop-parcel-preserved g c =
    parcel_claimed c.args.parcels.now c.loop-parcel.parcel-index c.parcel-item.result c.entries.result.now
    (map claimed c.loop-parcel.claims.items) (map claimed c.add_claims.new.claims.items)
    (claims_of (entries_in c.args.parcels.now)) c.loop-parcel-test.true c.parcel-item.is c.entries.ensures.entries
    c.in_ok-add_claims.ensures.ok c.loop-parcel.invariant
