use Rattle.std.proofs.Common.{inl, refl}
use Rattle.file_fleet.proofs.Kept.{still_shown}
use Rattle.file_fleet.proofs.fleet.FileFleetFleet.raise.Goals as goal

pub returns-then-self-clause-any_moment : goal.returns-then-self-clause-any_moment
returns-then-self-clause-any_moment g c =
    rw (← c.self.view_is) (λ goes_on files amid. inl (still_shown g.D.Device.contents g.D.Device.may_leave
    g.D.Device.has_failed g.R.FleetRegistry.noted g.R.FleetRegistry.is_sound g.D.Device.clock g.D.Device.left_since
    g.met.D.Device.just_now g.R.FleetRegistry.time g.R.FleetRegistry.left_of g.R.FleetRegistry.leaves
    g.met.R.FleetRegistry.just_now g.met.R.FleetRegistry.just_kept c.self.inside.members c.self.inside.members
    (c.self.invariant.1 goes_on) refl refl files amid))

pub returns-then-not-is_halted-clause-any_moment : goal.returns-then-not-is_halted-clause-any_moment
returns-then-not-is_halted-clause-any_moment g c =
    rw (← c.self.view_is) (λ goes_on files amid. inl (still_shown g.D.Device.contents g.D.Device.may_leave
    g.D.Device.has_failed g.R.FleetRegistry.noted g.R.FleetRegistry.is_sound g.D.Device.clock g.D.Device.left_since
    g.met.D.Device.just_now g.R.FleetRegistry.time g.R.FleetRegistry.left_of g.R.FleetRegistry.leaves
    g.met.R.FleetRegistry.just_now g.met.R.FleetRegistry.just_kept c.self.inside.members c.self.inside.members
    (c.self.invariant.1 goes_on) refl refl files amid))
