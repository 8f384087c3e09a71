use Rattle.std.proofs.Common.{◌≡◌, Some, refl, sym, ap, subst, rules}
use Rattle.std.specs.List.{slice_get}
use Rattle.std.proofs.lemmas.Option.{slice_get_read, slice_get_within}
use Rattle.file_backup.specs.Mirror.{IsJournalOf}
use Rattle.file_backup.specs.Replay.{Replicas}
use Rattle.file_fleet.specs.Files.{Noted, with_file}
use Rattle.file_fleet.proofs.Kept.{kept_put, kept_with, switch_leaves, unwritten}
use Rattle.file_fleet.proofs.Pictures.{same_picture, seen, set_there}
use Rattle.file_fleet.proofs.members.Members.switch.Goals as goal

pub go_on_with-requires-clause-copied : goal.go_on_with-requires-clause-copied
go_on_with-requires-clause-copied g c =
    let list = c.args.self.now.list in
    let found = c.in-Some.ensures in
    let at : slice_get list.items c.args.backup ≡ Some c.in-Some.member.now =
    slice_get_read _ _ c.args.backup _ list.ok.0 (found.variant.0 refl) found.value in
    subst (λ (p : Replicas). IsJournalOf g.D.Device.contents g.D.Device.may_leave g.D.Device.has_failed p
    c.args.journal)
    (seen list.items c.args.backup c.in-Some.member.now at) c.requires.copied

pub returns-in_default-clause-any_moment : goal.returns-in_default-clause-any_moment
returns-in_default-clause-any_moment g c goes_on =
    switch_leaves g.D.Device.contents g.D.Device.may_leave g.D.Device.has_failed g.R.FleetRegistry.noted
    g.R.FleetRegistry.is_sound g.R.FleetRegistry.time g.R.FleetRegistry.left_of c.args.self.now
    c.args.self.now.registry
    c.args.backup c.args.id c.args.journal (c.requires.safe goes_on) c.requires.copied
    (unwritten g.D.Device.contents g.D.Device.may_leave g.D.Device.has_failed g.R.FleetRegistry.noted
    g.R.FleetRegistry.is_sound g.D.Device.clock g.D.Device.left_since
    g.met.D.Device.just_now g.R.FleetRegistry.time g.R.FleetRegistry.left_of g.R.FleetRegistry.leaves
    g.met.R.FleetRegistry.just_now g.met.R.FleetRegistry.just_kept c.args.self.now.registry
    (c.requires.safe goes_on).registry_is _)

pub returns-in-Ok-clause-safe : goal.returns-in-Ok-clause-safe
returns-in-Ok-clause-safe g c goes_on =
    let list = c.args.self.now.list in
    let found = c.in-Some.ensures in
    let at : slice_get list.items c.args.backup ≡ Some c.in-Some.member.now =
    slice_get_read _ _ c.args.backup _ list.ok.0 (found.variant.0 refl) found.value in
    kept_put g.D.Device.contents g.D.Device.may_leave g.D.Device.has_failed g.R.FleetRegistry.noted
    g.R.FleetRegistry.is_sound list.items c.args.self.now.registry c.name_file.new.self c.args.backup
    c.go_on_with.new.self
    (c.requires.safe goes_on) (slice_get_within list.items c.args.backup c.in-Some.member.now at)
    c.go_on_with.ensures.member c.go_on_with.ensures.goes_on c.in-Ok.ensures.sound
    (subst (λ i. g.R.FleetRegistry.noted c.name_file.new.self
    ≡ with_file (g.R.FleetRegistry.noted c.args.self.now.registry) c.args.backup i)
    (sym c.go_on_with.ensures.id) c.in-Ok.ensures.named)

pub returns-in-Ok-clause-same : goal.returns-in-Ok-clause-same
returns-in-Ok-clause-same g c =
    let list = c.args.self.now.list in
    let found = c.in-Some.ensures in
    let at : slice_get list.items c.args.backup ≡ Some c.in-Some.member.now =
    slice_get_read _ _ c.args.backup _ list.ok.0 (found.variant.0 refl) found.value in
    same_picture list.items c.args.backup c.in-Some.member.now c.go_on_with.new.self at c.go_on_with.ensures.same

pub returns-in-Ok-clause-any_moment : goal.returns-in-Ok-clause-any_moment
returns-in-Ok-clause-any_moment g c goes_on =
    switch_leaves g.D.Device.contents g.D.Device.may_leave g.D.Device.has_failed g.R.FleetRegistry.noted
    g.R.FleetRegistry.is_sound g.R.FleetRegistry.time g.R.FleetRegistry.left_of c.args.self.now c.name_file.new.self
    c.args.backup c.args.id c.args.journal (c.requires.safe goes_on) c.requires.copied c.name_file.ensures.any_moment

pub returns-in-Err-NoMemory-clause-safe : goal.returns-in-Err-NoMemory-clause-safe
returns-in-Err-NoMemory-clause-safe g c goes_on =
    let list = c.args.self.now.list in
    let found = c.in-Some.ensures in
    let at : slice_get list.items c.args.backup ≡ Some c.in-Some.member.now =
    slice_get_read _ _ c.args.backup _ list.ok.0 (found.variant.0 refl) found.value in
    rw (set_there list.items c.args.backup c.in-Some.member.now at)
    (kept_with g.D.Device.contents g.D.Device.may_leave g.D.Device.has_failed g.R.FleetRegistry.noted
    g.R.FleetRegistry.is_sound c.args.self.now.list.items c.args.self.now.registry c.name_file.new.self
    (c.requires.safe goes_on) (search rules)
    (λ b. ap (λ (n : Noted). n.span b) c.in-Err-NoMemory.ensures.refused)
    (λ b. ap (λ (n : Noted). n.file b) c.in-Err-NoMemory.ensures.refused))

pub returns-in-Err-NoMemory-clause-refused : goal.returns-in-Err-NoMemory-clause-refused
returns-in-Err-NoMemory-clause-refused g c = refl

pub returns-in-Err-Failed-clause-refused : goal.returns-in-Err-Failed-clause-refused
returns-in-Err-Failed-clause-refused g c = refl

pub returns-in-Err-NoMemory-clause-any_moment : goal.returns-in-Err-NoMemory-clause-any_moment
returns-in-Err-NoMemory-clause-any_moment g c goes_on =
    switch_leaves g.D.Device.contents g.D.Device.may_leave g.D.Device.has_failed g.R.FleetRegistry.noted
    g.R.FleetRegistry.is_sound g.R.FleetRegistry.time g.R.FleetRegistry.left_of c.args.self.now c.name_file.new.self
    c.args.backup c.args.id c.args.journal (c.requires.safe goes_on) c.requires.copied c.name_file.ensures.any_moment

pub returns-in-Err-Failed-clause-any_moment : goal.returns-in-Err-Failed-clause-any_moment
returns-in-Err-Failed-clause-any_moment g c goes_on =
    switch_leaves g.D.Device.contents g.D.Device.may_leave g.D.Device.has_failed g.R.FleetRegistry.noted
    g.R.FleetRegistry.is_sound g.R.FleetRegistry.time g.R.FleetRegistry.left_of c.args.self.now c.name_file.new.self
    c.args.backup c.args.id c.args.journal (c.requires.safe goes_on) c.requires.copied c.name_file.ensures.any_moment
