use Rattle.std.proofs.Common.{rules, ◌≡◌, ◌/◌, ◌∙◌, ap, subst, sym}
use Rattle.std.specs.Prelude.{slice_index}
use Rattle.rebuilding.specs.declared.naming.Misnamed.{Misnamed}
use Rattle.rebuilding.specs.Rebuilds.{IsDouble, count_of, ids_of}
use Rattle.rebuilding.specs.Turns.{IsMisnamed, IsTwice}
use Rattle.rebuilding.proofs.Twins.{twice_double}
use Rattle.rebuilding.proofs.checking.check_order.Goals as goal

pub returns-in-Twice-clause-fault : goal.returns-in-Twice-clause-fault
returns-in-Twice-clause-fault c =
    let segments = c.args.segments.now in
    let qs = c.args.will.now in
    let order = c.args.order.now in
    let count : c.in-Some.count ≡ count_of segments qs = search rules in
    let twice : IsTwice c.in-Some.count order c.in-Twice.n =
    subst (λ (m : Misnamed). IsMisnamed c.in-Some.count order m) c.in-Twice.is c.in-Err.ensures.fault in
    subst (λ id. IsDouble segments qs order id)
    (ap (λ p. slice_index (ids_of segments) (c.in-Twice.n / p)) (sym c.partitions-partitions.ensures.count)
    ∙ sym c.id_at.ensures)
    (twice_double segments qs order c.in-Twice.n (subst (λ n. IsTwice n order c.in-Twice.n) count twice))
