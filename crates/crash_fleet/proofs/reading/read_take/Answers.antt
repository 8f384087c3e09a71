use Rattle.std.proofs.Common.{◌≡◌, ◌+◌, Some, inl, inr, refl, sym, ◌∙◌, ap, subst}
use Rattle.std.specs.List.{slice_get}
use Rattle.std.proofs.lemmas.Option.{slice_get_read}
use Rattle.registry_file.specs.File.{Shows, kept_by}
use Rattle.registry_file.specs.declared.file.RegistryFile.{RegistryFile}
use Rattle.file_fleet.specs.Noting.{file_of}
use Rattle.file_fleet.specs.declared.members.Members.{Members}
use Rattle.crash_fleet.proofs.Sames.{untrue}
use Rattle.crash_fleet.proofs.Showing.{reads_take}
use Rattle.crash_fleet.proofs.reading.read_take.Goals as goal

pub returns-then-is_same : goal.returns-then-is_same
returns-then-is_same g c =
    let found = c.in-Some.ensures.lookup in
    let at : slice_get c.args.files.now.members.list.items c.args.backup ≡ Some c.in-Some.left.now =
    subst (λ (m : Members g.row.D.Denot (RegistryFile g.row.D.Denot)). slice_get m.list.items c.args.backup
    ≡ Some c.in-Some.left.now) c.members-members.ensures
    (rw c.list.ensures at (slice_get_read _ _ c.args.backup c.in-Some.left.now refl found.3.0 found.1)) in
    let keeps : Shows (kept_by c.in-Some-registry_in_image.registry)
    (g.D.CrashImage.crash_image (file_of c.args.files.now.members.registry)) =
    subst (λ (r : RegistryFile g.row.D.Denot). Shows (kept_by c.in-Some-registry_in_image.registry)
    (g.D.CrashImage.crash_image (file_of r)))
    (c.registry.ensures ∙ ap (λ (m : Members g.row.D.Denot (RegistryFile g.row.D.Denot)). m.registry)
    c.members-members.ensures) c.in-Some-registry_in_image.ensures.shows in
    reads_take g.D.CrashImage.crash_image c.args.files.now c.args.backup c.in-Some.left.now
    c.in-Some-member_in_image.found c.in-Some-registry_in_image.registry c.takes-takes.result at keeps
    c.in-Some-member_in_image.ensures.shows
    (inl (c.in-Some-hold_same.ensures.0 c.if-is_same.true, c.takes-takes.ensures))

pub returns : goal.returns
returns g c =
    let found = c.in-Some.ensures.lookup in
    let at : slice_get c.args.files.now.members.list.items c.args.backup ≡ Some c.in-Some.left.now =
    subst (λ (m : Members g.row.D.Denot (RegistryFile g.row.D.Denot)). slice_get m.list.items c.args.backup
    ≡ Some c.in-Some.left.now) c.members-members.ensures
    (rw c.list.ensures at (slice_get_read _ _ c.args.backup c.in-Some.left.now refl found.3.0 found.1)) in
    let keeps : Shows (kept_by c.in-Some-registry_in_image.registry)
    (g.D.CrashImage.crash_image (file_of c.args.files.now.members.registry)) =
    subst (λ (r : RegistryFile g.row.D.Denot). Shows (kept_by c.in-Some-registry_in_image.registry)
    (g.D.CrashImage.crash_image (file_of r)))
    (c.registry.ensures ∙ ap (λ (m : Members g.row.D.Denot (RegistryFile g.row.D.Denot)). m.registry)
    c.members-members.ensures) c.in-Some-registry_in_image.ensures.shows in
    reads_take g.D.CrashImage.crash_image c.args.files.now c.args.backup c.in-Some.left.now
    c.in-Some-member_in_image.found c.in-Some-registry_in_image.registry (c.takes-takes.result + 1) at keeps
    c.in-Some-member_in_image.ensures.shows
    (inr (
      (λ same. untrue c.in-Some-hold_same.is_same c.if-is_same.false (c.in-Some-hold_same.ensures.1 same)),
      ap (λ n. n + 1) c.takes-takes.ensures,
    ))
