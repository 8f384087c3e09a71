use Rattle.std.proofs.Common.{ap, length, drop, ◌+◌, arith}
use Rattle.master_failover.specs.Left.{count_below}
use Rattle.master_failover.proofs.Counts.{here, below_here, not_below}
use Rattle.master_failover.proofs.left.lagging.Goals as goal
use Rattle.master_failover.proofs.left.lagging.Goals.{then-units_of-units, else-units_of-units}

pub loop-replica-preserved : goal.loop-replica-preserved
loop-replica-preserved c =
    let head = c.args.head.now in
    let units = length head.units in
    let later = drop (c.loop-replica.replica + 1) head.taken in
    let before = c.loop-replica.invariant.lagging in
    let few = c.loop-replica.invariant.few in
    let same = c.count-units.ensures in
    let split = ap (count_below units) (here head.taken c.loop-replica.replica c.units_of.result
    c.units_of.ensures.units) in
    elim c.if-units_of-units.branch [
      | then-units_of-units w ↦
          let more = w.lagging-is in
          let lt = w.if-units_of-units.true in
          let step = below_here units c.units_of.result later (omega arith) in
          record { lagging = omega arith; few = omega arith }
      | else-units_of-units w ↦
          let more = w.lagging-is in
          let le = w.if-units_of-units.false in
          let step = not_below units c.units_of.result later (omega arith) in
          record { lagging = omega arith; few = omega arith }
    ]
