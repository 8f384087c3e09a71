use Rattle.std.proofs.Common.{◌≡◌, ◌∙◌, ◌++◌, List, true, ap, set, subst, sym}
use Rattle.claims.specs.Claims.{Claimed, claims_of}
use Rattle.claims.proofs.GatheringLemmas.{claims_of-append}
use Rattle.partitions.specs.Parted.{AreGathered, IsParcel, entries_in}
use Rattle.partitions.proofs.Parting.{gathered_more}
use Rattle.partitions.proofs.share.Share.take.Goals as goal

pub invariant_of-self-2 : goal.invariant_of-self-2
invariant_of-self-2 g c =
    let qs = g.D.Division.parts in
    let segments = g.D.Division.segments in
    let here = c.self.inside in
    let parcel = c.args.parcel in
    let at = c.at-at.result in
    let valid : IsParcel qs segments at here.partition parcel.entries =
    subst (λ n. IsParcel qs segments n here.partition parcel.entries) (sym c.at-at.ensures.place)
    (subst (λ n. IsParcel qs segments parcel.at n parcel.entries) (sym c.partition.ensures ∙ c.if-partition-self.false)
    c.at-at.ensures.valid) in
    let before = entries_in here.parcels.items in
    let claims : claims_of (entries_in c.keep.new.parcels.items) ≡ claims_of before ++ claims_of parcel.entries =
    ap claims_of c.in_ok-keep.ensures.ok ∙ claims_of-append before parcel.entries in
    subst (λ (cs : List Claimed). AreGathered qs segments here.partition (set here.marks.items at true) cs)
    (sym claims) (gathered_more qs segments here.partition at here.marks.items (claims_of before) parcel.entries
    c.self.invariant valid)
