use Rattle.std.proofs.Common.{subst, sym}
use Rattle.rebuilding.specs.Rebuilds.{IsDouble, count_of}
use Rattle.rebuilding.proofs.Twins.{all_double, all_of}
use Rattle.rebuilding.proofs.checking.check_ids.Goals as goal

pub returns-in-Some-clause-fault : goal.returns-in-Some-clause-fault
returns-in-Some-clause-fault c =
    let segments = c.args.segments.now in
    let qs = c.args.will.now in
    let order = c.args.order.now in
    subst (λ id. IsDouble segments qs order id) (sym c.id_at.ensures)
    (all_double segments qs order c.partitions-partitions.ensures.valid.some c.in-Some.first c.in-Some.field-0-1
    c.in-Some.ensures.some (all_of (count_of segments qs) order c.requires))
