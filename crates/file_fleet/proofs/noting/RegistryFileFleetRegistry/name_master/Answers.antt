use Rattle.std.proofs.Common.{refl, ap}
use Rattle.registry_file.specs.Kept.{Kept}
use Rattle.registry_text.specs.declared.record.Record.TheVariants as says
use Rattle.file_fleet.specs.Noting.{noted_in}
use Rattle.file_fleet.proofs.Records.{put_leaves}
use Rattle.file_fleet.proofs.noting.RegistryFileFleetRegistry.name_master.Goals as goal

pub returns-in-Ok-clause-named : goal.returns-in-Ok-clause-named
returns-in-Ok-clause-named g c = ap (λ (k : Kept). noted_in k) c.in-Ok.ensures.put

pub returns-in-Ok-clause-any_moment : goal.returns-in-Ok-clause-any_moment
returns-in-Ok-clause-any_moment g c =
    put_leaves g.D.Device.clock g.D.Device.left_since c.args.self.now c.put.new.self (says.Master c.args.master) _ refl
    (c.put.ensures.any_moment c.requires.sound.goes_on)

pub returns-in-Err-Failed-clause-any_moment : goal.returns-in-Err-Failed-clause-any_moment
returns-in-Err-Failed-clause-any_moment g c =
    put_leaves g.D.Device.clock g.D.Device.left_since c.args.self.now c.put.new.self (says.Master c.args.master) _ refl
    (c.put.ensures.any_moment c.requires.sound.goes_on)

pub returns-in-Err-clause-any_moment : goal.returns-in-Err-clause-any_moment
returns-in-Err-clause-any_moment g c =
    put_leaves g.D.Device.clock g.D.Device.left_since c.args.self.now c.put.new.self (says.Master c.args.master) _ refl
    (c.put.ensures.any_moment c.requires.sound.goes_on)
