use Rattle.std.proofs.Common.{◌≡◌, ◌++◌, map, drop}
use Rattle.claims.specs.Claims.{claimed, claims_of}
use Rattle.partitions.specs.Parted.{entries_in}
use Rattle.partitions.proofs.share.claims_in.Given as goal

abbrev pub invariant-loop-parcel : goal.invariant-loop-parcel
invariant-loop-parcel g l =
    map claimed l.claims.items ++ claims_of (entries_in (drop l.parcel-index l.parcels))
    ≡ claims_of (entries_in l.parcels)
