use Rattle.locked_log.specs.Held.{held}
use Rattle.locked_log.proofs.Seeing.{settle_of}
use Rattle.locked_log.proofs.locking.StateLog.settle.Goals as goal

pub returns : goal.returns
returns g c = record {
  seat = settle_of (held g.F.Fleet.state c.args.self.now) (held g.F.Fleet.state c.settle_held.new.self) c.args.seat.now
      c.settle_held.new.seat c.args.place c.settle_held.result c.settle_held.ensures.settles;
  settles = c.settle_held.ensures.settles;
}
