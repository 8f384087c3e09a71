use Rattle.file_fleet.proofs.Kept.{kept_more}
use Rattle.file_fleet.proofs.members.Members.add.Goals as goal

pub returns-in-Ok-clause-safe : goal.returns-in-Ok-clause-safe
returns-in-Ok-clause-safe g c goes_on =
    rw c.in-Ok.ensures.items (kept_more g.D.Device.contents g.D.Device.may_leave g.D.Device.has_failed
    g.R.FleetRegistry.noted g.R.FleetRegistry.is_sound c.args.self.now.list.items c.args.self.now.registry
    c.args.member (c.requires.safe goes_on) c.requires.member c.requires.under c.requires.named)
