use Rattle.std.proofs.Common.{length, refl, sym, ◌∙◌, rules, arith}
use Rattle.std.proofs.lemmas.List.Sorted.{IsPartitionPoint-from_clause}
use Rattle.tablet_will.specs.declared.part.Part.{Part}
use Rattle.tablet_will.specs.Order.{is_below}
use Rattle.tablet_will.proofs.Finding.{parted, partition_found, partition_here, partition_past, is_there}
use Rattle.tablet_will.proofs.part.partition_at.Goals as goal

abbrev none : Part
none = record { table = 0; first = 0; last = 0; partition = 0 }

pub returns-then-at-parts : goal.returns-then-at-parts
returns-then-at-parts c =
    let qs = c.args.parts.now in
    let a = c.args.table in
    let b = c.args.place in
    let at = c.partition_point-at.result in
    let point = IsPartitionPoint-from_clause (λ (q : Part). is_below q.table q.last a b) qs at
    c.partition_point-at.ensures.partitioned (parted qs a b c.requires) (λ x r q k. search rules) in
    sym (partition_past qs at a b (partition_found qs at a b c.requires point.0 point.1)
    (let end = c.if-at-parts.true in omega (arith, end)))

pub returns-then-has : goal.returns-then-has
returns-then-has c =
    let qs = c.args.parts.now in
    let a = c.args.table in
    let b = c.args.place in
    let at = c.partition_point-at.result in
    let point = IsPartitionPoint-from_clause (λ (q : Part). is_below q.table q.last a b) qs at
    c.partition_point-at.ensures.partitioned (parted qs a b c.requires) (λ x r q k. search rules) in
    let lt = is_there at (length qs) c.partition_point-at.ensures.bound c.if-at-parts.false in
    sym (partition_here qs at a b none (partition_found qs at a b c.requires point.0 point.1) lt
    ∙ rw (sym c.has.ensures ∙ c.if-has.true) refl)

pub returns-else-has : goal.returns-else-has
returns-else-has c =
    let qs = c.args.parts.now in
    let a = c.args.table in
    let b = c.args.place in
    let at = c.partition_point-at.result in
    let point = IsPartitionPoint-from_clause (λ (q : Part). is_below q.table q.last a b) qs at
    c.partition_point-at.ensures.partitioned (parted qs a b c.requires) (λ x r q k. search rules) in
    let lt = is_there at (length qs) c.partition_point-at.ensures.bound c.if-at-parts.false in
    sym (partition_here qs at a b none (partition_found qs at a b c.requires point.0 point.1) lt
    ∙ rw (sym c.has.ensures ∙ c.if-has.false) refl)
