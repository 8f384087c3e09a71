use Rattle.std.proofs.Common.{refl, ap, rules}
use Rattle.file_fleet.specs.Files.{Noted}
use Rattle.file_fleet.proofs.Kept.{kept_with, naming_leaves}
use Rattle.file_fleet.proofs.members.Members.name_master.Goals as goal

pub returns-in-Ok-clause-safe : goal.returns-in-Ok-clause-safe
returns-in-Ok-clause-safe g c goes_on =
    kept_with g.D.Device.contents g.D.Device.may_leave g.D.Device.has_failed g.R.FleetRegistry.noted
    g.R.FleetRegistry.is_sound c.args.self.now.list.items c.args.self.now.registry c.name_master.new.self
    (c.requires.safe goes_on) c.in-Ok.ensures.sound (λ b. ap (λ (n : Noted). n.span b) c.in-Ok.ensures.named)
    (λ b. ap (λ (n : Noted). n.file b) c.in-Ok.ensures.named)

pub returns-in-Ok-clause-named : goal.returns-in-Ok-clause-named
returns-in-Ok-clause-named g c = ap (λ (n : Noted). n.master) c.in-Ok.ensures.named

pub returns-in-Ok-clause-least : goal.returns-in-Ok-clause-least
returns-in-Ok-clause-least g c = ap (λ (n : Noted). n.least) c.in-Ok.ensures.named

pub returns-in-Ok-clause-any_moment : goal.returns-in-Ok-clause-any_moment
returns-in-Ok-clause-any_moment g c goes_on =
    naming_leaves g.D.Device.contents g.D.Device.may_leave g.D.Device.has_failed g.R.FleetRegistry.noted
    g.R.FleetRegistry.is_sound g.D.Device.clock g.D.Device.left_since g.met.D.Device.just_now
    g.R.FleetRegistry.time g.R.FleetRegistry.left_of c.args.self.now _ (c.requires.safe goes_on) refl
    c.args.master c.name_master.ensures.any_moment

pub returns-in-Err-NoMemory-clause-safe : goal.returns-in-Err-NoMemory-clause-safe
returns-in-Err-NoMemory-clause-safe g c goes_on =
    kept_with g.D.Device.contents g.D.Device.may_leave g.D.Device.has_failed g.R.FleetRegistry.noted
    g.R.FleetRegistry.is_sound c.args.self.now.list.items c.args.self.now.registry c.name_master.new.self
    (c.requires.safe goes_on) (search rules) (λ b. ap (λ (n : Noted). n.span b) c.in-Err-NoMemory.ensures.refused)
    (λ b. ap (λ (n : Noted). n.file b) c.in-Err-NoMemory.ensures.refused)

pub returns-in-Err-NoMemory-clause-any_moment : goal.returns-in-Err-NoMemory-clause-any_moment
returns-in-Err-NoMemory-clause-any_moment g c goes_on =
    naming_leaves g.D.Device.contents g.D.Device.may_leave g.D.Device.has_failed g.R.FleetRegistry.noted
    g.R.FleetRegistry.is_sound g.D.Device.clock g.D.Device.left_since g.met.D.Device.just_now
    g.R.FleetRegistry.time g.R.FleetRegistry.left_of c.args.self.now _ (c.requires.safe goes_on) refl
    c.args.master c.name_master.ensures.any_moment

pub returns-in-Err-Failed-clause-any_moment : goal.returns-in-Err-Failed-clause-any_moment
returns-in-Err-Failed-clause-any_moment g c goes_on =
    naming_leaves g.D.Device.contents g.D.Device.may_leave g.D.Device.has_failed g.R.FleetRegistry.noted
    g.R.FleetRegistry.is_sound g.D.Device.clock g.D.Device.left_since g.met.D.Device.just_now
    g.R.FleetRegistry.time g.R.FleetRegistry.left_of c.args.self.now _ (c.requires.safe goes_on) refl
    c.args.master c.name_master.ensures.any_moment
