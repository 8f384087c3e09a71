use Rattle.locked_log.proofs.Handing.{owned_there, owned_here, kept_there, kept_here}
use Rattle.locked_log.proofs.state.State.owns_held.Goals as goal

pub returns : goal.returns
returns g c = (
  λ yes. let owned = c.owns.ensures.0 yes in (
    owned_there g.F.Fleet.state _ c.args.self.now c.self.view_is c.args.seat.now c.args.place _
        c.history.ensures.records _ c.history.ensures.forgotten owned.0,
    kept_there g.F.Fleet.state _ c.args.self.now c.self.view_is c.args.seat.now c.args.place _
        c.history.ensures.records _ c.history.ensures.forgotten owned.1,
  ),
  λ owned. c.owns.ensures.1 (
    owned_here g.F.Fleet.state _ c.args.self.now c.self.view_is c.args.seat.now c.args.place _
        c.history.ensures.records _ c.history.ensures.forgotten owned.0,
    kept_here g.F.Fleet.state _ c.args.self.now c.self.view_is c.args.seat.now c.args.place _
        c.history.ensures.records _ c.history.ensures.forgotten owned.1,
  ),
)
