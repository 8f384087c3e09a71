use Rattle.std.proofs.Common.{◌≡◌, length}
use Rattle.file_fleet.specs.Noting.{IsSound, noted_by}
use Rattle.fleet_start.specs.Found.{AreFound, AreRead}
use Rattle.crash_fleet.specs.Images.{images_of}
use Rattle.crash_fleet.specs.Opened.{AreKept}
use Rattle.crash_fleet.proofs.opening.found_in_images.Given as goal

abbrev pub invariant-loop-member : goal.invariant-loop-member
invariant-loop-member g l = record {
  found : AreFound g.D.Device.contents g.D.Device.may_leave g.D.Device.has_failed (λ r. noted_by r)
      (λ r. IsSound g.D.Device.contents g.D.Device.may_leave g.D.Device.has_failed r) l.found.places.items
      l.found.registry;
  read : AreRead (noted_by l.found.registry) l.found.places.items (images_of g.D.CrashImage.crash_image l.members);
  count : length l.found.places.items ≡ l.member-index;
  kept : AreKept l.kept l.found.places.items;
}
