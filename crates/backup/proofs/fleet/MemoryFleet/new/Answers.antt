use Rattle.std.proofs.Common.{arith}
use Rattle.backup.proofs.Empty.{pushed_empty, pushed_count, empty_fleet}
use Rattle.backup.proofs.fleet.MemoryFleet.new.Goals as goal

pub loop-preserved : goal.loop-preserved
loop-preserved c = record {
  count =
      pushed_count c.loop.list.items c.push.new.self.items c.new.result c.loop.counter c.in_ok-push.ensures.items
      c.loop.invariant.count;
  empty =
      pushed_empty c.loop.list.items c.push.new.self.items c.new.result c.in_ok-push.ensures.items
      c.loop.invariant.empty c.new.ensures;
}

pub returns-clause-new : goal.returns-clause-new
returns-clause-new c =
    empty_fleet c.args.backups c.loop.list.items c.new-2.result c.none.result.list (omega
    (arith, c.loop.invariant.count, c.loop-test.false, c.loop.auto.counter-end)) c.loop.invariant.empty c.new-2.ensures
    c.none.ensures
