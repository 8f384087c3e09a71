use Rattle.std.proofs.Common.{◌≡◌, ◌≤◌, ◌+◌, length, drop}
use Rattle.master_failover.specs.Left.{count_below}
use Rattle.master_failover.proofs.left.lagging.Given as goal

abbrev pub invariant-loop-replica : goal.invariant-loop-replica
invariant-loop-replica l = record {
  lagging : l.lagging + count_below (length l.head.units) (drop l.replica l.head.taken)
      ≡ count_below (length l.head.units) l.head.taken;
  few : l.lagging ≤ l.replica;
}
