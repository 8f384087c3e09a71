use Rattle.std.proofs.Common.{◌<◌, List, length, refl, ◌∙◌, ap, rules}
use Rattle.file_fleet.specs.Files.{Noted}
use Rattle.file_fleet.specs.Members.{device_at, picture_of, replicas_at}
use Rattle.file_fleet.specs.declared.member.Member.{Member}
use Rattle.file_fleet.proofs.Kept.{kept_put, kept_with, member_shows, put_leaves, unwritten}
use Rattle.file_fleet.proofs.Pictures.{put_picture}
use Rattle.file_fleet.proofs.members.Members.put.Goals as goal

pub returns-then-backup-backups-clause-any_moment : goal.returns-then-backup-backups-clause-any_moment
returns-then-backup-backups-clause-any_moment g c goes_on =
    put_leaves g.D.Device.contents g.D.Device.may_leave g.D.Device.has_failed g.R.FleetRegistry.noted
    g.R.FleetRegistry.is_sound g.R.FleetRegistry.time g.R.FleetRegistry.left_of c.args.self.now
    c.args.self.now.registry
    c.args.backup (device_at c.args.next) c.args.next.id (replicas_at c.args.next) (c.requires.safe goes_on)
    (member_shows g.D.Device.contents g.D.Device.may_leave g.D.Device.has_failed g.R.FleetRegistry.noted
    g.R.FleetRegistry.is_sound c.args.next c.requires.member c.requires.goes_on)
    (unwritten g.D.Device.contents g.D.Device.may_leave g.D.Device.has_failed g.R.FleetRegistry.noted
    g.R.FleetRegistry.is_sound g.D.Device.clock g.D.Device.left_since
    g.met.D.Device.just_now g.R.FleetRegistry.time g.R.FleetRegistry.left_of g.R.FleetRegistry.leaves
    g.met.R.FleetRegistry.just_now g.met.R.FleetRegistry.just_kept c.args.self.now.registry
    (c.requires.safe goes_on).registry_is _)

pub returns-in-Ok-clause-safe : goal.returns-in-Ok-clause-safe
returns-in-Ok-clause-safe g c goes_on =
    let within : c.args.backup < length c.args.self.now.list.items = search rules in
    rw c.exchange.ensures (kept_put g.D.Device.contents g.D.Device.may_leave g.D.Device.has_failed
    g.R.FleetRegistry.noted
    g.R.FleetRegistry.is_sound c.args.self.now.list.items c.args.self.now.registry c.name_file.new.self
    c.args.backup c.args.next (c.requires.safe goes_on) within c.requires.member c.requires.goes_on
    c.in-Ok.ensures.sound c.in-Ok.ensures.named)

pub returns-in-Ok-clause-put : goal.returns-in-Ok-clause-put
returns-in-Ok-clause-put g c =
    let within : c.args.backup < length c.args.self.now.list.items = search rules in
    ap (λ (l : List (Member g.row.D.Denot)). picture_of l) c.exchange.ensures
    ∙ put_picture c.args.self.now.list.items c.args.backup c.args.next within

pub returns-in-Ok-clause-any_moment : goal.returns-in-Ok-clause-any_moment
returns-in-Ok-clause-any_moment g c goes_on =
    put_leaves g.D.Device.contents g.D.Device.may_leave g.D.Device.has_failed g.R.FleetRegistry.noted
    g.R.FleetRegistry.is_sound g.R.FleetRegistry.time g.R.FleetRegistry.left_of c.args.self.now c.name_file.new.self
    c.args.backup (device_at c.args.next) c.args.next.id (replicas_at c.args.next) (c.requires.safe goes_on)
    (member_shows g.D.Device.contents g.D.Device.may_leave g.D.Device.has_failed g.R.FleetRegistry.noted
    g.R.FleetRegistry.is_sound c.args.next c.requires.member c.requires.goes_on) c.name_file.ensures.any_moment

pub returns-in-Err-NoMemory-clause-safe : goal.returns-in-Err-NoMemory-clause-safe
returns-in-Err-NoMemory-clause-safe g c goes_on =
    kept_with g.D.Device.contents g.D.Device.may_leave g.D.Device.has_failed g.R.FleetRegistry.noted
    g.R.FleetRegistry.is_sound c.args.self.now.list.items c.args.self.now.registry c.name_file.new.self
    (c.requires.safe goes_on) (search rules)
    (λ b. ap (λ (n : Noted). n.span b) c.in-Err-NoMemory.ensures.refused)
    (λ b. ap (λ (n : Noted). n.file b) c.in-Err-NoMemory.ensures.refused)

pub returns-in-Err-NoMemory-clause-any_moment : goal.returns-in-Err-NoMemory-clause-any_moment
returns-in-Err-NoMemory-clause-any_moment g c goes_on =
    put_leaves g.D.Device.contents g.D.Device.may_leave g.D.Device.has_failed g.R.FleetRegistry.noted
    g.R.FleetRegistry.is_sound g.R.FleetRegistry.time g.R.FleetRegistry.left_of c.args.self.now c.name_file.new.self
    c.args.backup (device_at c.args.next) c.args.next.id (replicas_at c.args.next) (c.requires.safe goes_on)
    (member_shows g.D.Device.contents g.D.Device.may_leave g.D.Device.has_failed g.R.FleetRegistry.noted
    g.R.FleetRegistry.is_sound c.args.next c.requires.member c.requires.goes_on) c.name_file.ensures.any_moment

pub returns-in-Err-NoMemory-clause-refused : goal.returns-in-Err-NoMemory-clause-refused
returns-in-Err-NoMemory-clause-refused g c = (refl, refl)

pub returns-in-Err-Failed-clause-refused : goal.returns-in-Err-Failed-clause-refused
returns-in-Err-Failed-clause-refused g c = (refl, refl)

pub returns-in-Err-Failed-clause-any_moment : goal.returns-in-Err-Failed-clause-any_moment
returns-in-Err-Failed-clause-any_moment g c goes_on =
    put_leaves g.D.Device.contents g.D.Device.may_leave g.D.Device.has_failed g.R.FleetRegistry.noted
    g.R.FleetRegistry.is_sound g.R.FleetRegistry.time g.R.FleetRegistry.left_of c.args.self.now c.name_file.new.self
    c.args.backup (device_at c.args.next) c.args.next.id (replicas_at c.args.next) (c.requires.safe goes_on)
    (member_shows g.D.Device.contents g.D.Device.may_leave g.D.Device.has_failed g.R.FleetRegistry.noted
    g.R.FleetRegistry.is_sound c.args.next c.requires.member c.requires.goes_on) c.name_file.ensures.any_moment
