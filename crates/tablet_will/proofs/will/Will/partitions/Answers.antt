use Rattle.std.proofs.Common.{rules, sym}
use Rattle.tablet_will.proofs.Finding.{partitions_last}
use Rattle.tablet_will.proofs.will.Will.partitions.Goals as goal

pub overflow_add-result : goal.overflow_add-result
overflow_add-result c =
    rw c.as_slice-parts.ensures.value
    (let last = partitions_last c.self.inside.parts.items
    (record { table = 0; first = 0; last = 0; partition = 0 }) c.self.invariant.some in
    let limit = c.self.invariant.limit in
    rw (← last) (search rules))

pub returns-clause-count : goal.returns-clause-count
returns-clause-count c =
    rw (c.as_slice-parts.ensures.value, ← c.self.view_is)
    (sym (partitions_last c.self.inside.parts.items
    (record { table = 0; first = 0; last = 0; partition = 0 }) c.self.invariant.some))
