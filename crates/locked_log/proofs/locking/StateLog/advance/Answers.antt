use Rattle.locked_log.specs.Held.{held}
use Rattle.locked_log.proofs.Advancing.{lasts_then}
use Rattle.locked_log.proofs.locking.StateLog.advance.Goals as goal

pub returns-clause-lasts : goal.returns-clause-lasts
returns-clause-lasts g c =
    lasts_then 1 0 (held g.F.Fleet.state c.args.self.now) (held g.F.Fleet.state c.push_held.new.self)
    (held g.F.Fleet.state c.proceed_held-2.new.self)
    (lasts_then 0 1 (held g.F.Fleet.state c.args.self.now) (held g.F.Fleet.state c.proceed_held.new.self)
    (held g.F.Fleet.state c.push_held.new.self) c.proceed_held.ensures.lasts c.push_held.ensures.lasts)
    c.proceed_held-2.ensures.lasts
