use Rattle.crash_fleet.specs.Images.{images_of}
use Rattle.crash_fleet.proofs.Cuts.{known_shown}
use Rattle.crash_fleet.proofs.Showing.{images_now}
use Rattle.crash_fleet.proofs.fleet.CrashFleet.show_images.Goals as goal

pub returns : goal.returns
returns g c =
    let image = g.D.CrashImage.crash_image in
    let members = c.self.inside.files.members in
    rw (← c.self.view_is) (λ known. known_shown image c.self.inside.files c.self.inside.power c.self.invariant known
    (λ goes_on. c.show_files.ensures goes_on (images_of image members)
    (images_now g.D.Device.may_leave image g.met.D.CrashImage.may_be members)))
