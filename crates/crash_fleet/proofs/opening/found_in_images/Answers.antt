use Rattle.std.specs.Prelude.{◌↔◌, Contains}
use Rattle.std.proofs.Common.{◌≡◌, ℕ, true, ◌+◌, ◌<◌, ◌∷◌, ◌++◌, [], List, length, Some, refl, sym, ◌∙◌, ap, subst}
use Rattle.std.specs.List.{slice_get}
use Rattle.std.proofs.lemmas.Option.{slice_get_read}
use Rattle.file_fleet.specs.Noting.{noted_by}
use Rattle.file_fleet.specs.declared.member.Member.{Member}
use Rattle.fleet_start.specs.Found.{AreRead}
use Rattle.registry_file.specs.declared.file.RegistryFile.{RegistryFile}
use Rattle.crash_fleet.specs.Images.{images_of}
use Rattle.crash_fleet.specs.Opened.{IsOpened}
use Rattle.crash_fleet.proofs.Openings.{count_more, kept_more, read_more}
use Rattle.crash_fleet.proofs.opening.found_in_images.Goals as goal

pub loop-member-preserved : goal.loop-member-preserved
loop-member-preserved g c =
    let image = g.D.CrashImage.crash_image in
    let list = c.args.members.now.list.items in
    let old = c.loop-member.found.places.items in
    let noted = noted_by c.loop-member.found.registry in
    let opened : IsOpened image noted c.member-item.result c.is_listed-is_kept.result old
    c.add_image.new.found.places.items =
    c.add_image.ensures.opened c.if-not-add_image.false in
    let files = images_of image c.args.members.now in
    let listed = c.list-member-items.ensures in
    let count = c.loop-member.invariant.count in
    let at : slice_get list (length old) ≡ Some c.member-item.result =
    subst (λ n. slice_get list n ≡ Some c.member-item.result) (sym count)
    (subst (λ (hs : List (Member g.row.D.Denot)). slice_get hs c.loop-member.member-index ≡ Some c.member-item.result)
    listed (slice_get_read c.list-member-items.result.now _ c.loop-member.member-index c.member-item.result refl
    c.loop-member-test.true c.member-item.is)) in
    record {
      found = c.add_image.ensures.found;
      read = subst (λ (r : RegistryFile g.row.D.Denot). AreRead (noted_by r) c.add_image.new.found.places.items files)
          (sym c.add_image.ensures.registry)
          (read_more image list files noted c.member-item.result c.is_listed-is_kept.result old
          c.add_image.new.found.places.items opened at (λ b. refl) c.loop-member.invariant.read);
      count = count_more image list files noted c.member-item.result c.is_listed-is_kept.result old
          c.add_image.new.found.places.items opened at ∙ ap (λ n. n + 1) count;
      kept = kept_more image list files noted c.member-item.result c.is_listed-is_kept.result old
          c.add_image.new.found.places.items opened at c.args.kept.now
          (subst (λ (n : ℕ). (c.is_listed-is_kept.result ≡ true) ↔ Contains c.args.kept.now n) c.backups.ensures
          c.is_listed-is_kept.ensures) c.loop-member.invariant.kept;
    }
