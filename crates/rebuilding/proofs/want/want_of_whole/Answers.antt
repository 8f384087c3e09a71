use Rattle.std.proofs.Common.{subst, sym}
use Rattle.rebuilding.specs.Rebuilds.{IsDouble}
use Rattle.rebuilding.proofs.Twins.{all_double, short_all}
use Rattle.rebuilding.proofs.want.want_of_whole.Goals as goal

pub returns-in-Some : goal.returns-in-Some
returns-in-Some c =
    let segments = c.args.segments.now in
    let qs = c.args.will.now in
    λ order names. subst (λ id. IsDouble segments qs order id) (sym c.id_at.ensures)
    (all_double segments qs order c.partitions-partitions.ensures.valid.some c.in-Some.first c.in-Some.field-0-1
    c.in-Some.ensures.some names)

pub returns-in-None : goal.returns-in-None
returns-in-None c =
    λ order names. short_all c.args.segments.now c.args.will.now order names c.in-None.ensures.none
