use Rattle.locked_log.specs.Held.{held}
use Rattle.locked_log.proofs.Advancing.{first_stays, lasts_then}
use Rattle.locked_log.proofs.state.State.enter_held.Goals as goal

pub settle_held-is_answered-requires : goal.settle_held-is_answered-requires
settle_held-is_answered-requires g c =
    first_stays (held g.F.Fleet.state c.args.self.now) (held g.F.Fleet.state c.apply_held.new.self) c.args.seat.now
    c.apply_held.new.seat c.args.command.now c.in-Ok.applied.0 c.in-Ok.applied.1 c.in-Ok.ensures.applies

pub returns-clause-enters : goal.returns-clause-enters
returns-clause-enters g c = (
  held g.F.Fleet.state c.apply_held.new.self,
  c.apply_held.new.seat,
  c.in-Ok.ensures.applies,
  c.settle_held-is_answered.ensures.settles,
)

pub returns-clause-lasts : goal.returns-clause-lasts
returns-clause-lasts g c =
    lasts_then 1 0 (held g.F.Fleet.state c.args.self.now) (held g.F.Fleet.state c.apply_held.new.self)
    (held g.F.Fleet.state c.settle_held-is_answered.new.self) c.apply_held.ensures.lasts
    c.settle_held-is_answered.ensures.lasts
