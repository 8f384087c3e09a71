use Rattle.file_fleet.proofs.Kept.{now_shown}
use Rattle.file_fleet.proofs.fleet.FileFleet.show_files.Goals as goal

pub returns : goal.returns
returns g c =
    rw (← c.self.view_is) (λ goes_on files left. now_shown g.D.Device.contents g.D.Device.may_leave
    g.D.Device.has_failed g.R.FleetRegistry.noted g.R.FleetRegistry.is_sound g.R.FleetRegistry.leaves
    g.met.R.FleetRegistry.just_kept c.self.inside.members (c.self.invariant.1 goes_on) files left)
