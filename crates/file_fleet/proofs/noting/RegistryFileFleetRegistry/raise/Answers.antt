use Rattle.std.proofs.Common.{refl, ap}
use Rattle.registry_file.specs.Kept.{Kept}
use Rattle.registry_text.specs.declared.record.Record.TheVariants as says
use Rattle.file_fleet.specs.Noting.{noted_in}
use Rattle.file_fleet.proofs.Records.{put_leaves}
use Rattle.file_fleet.proofs.noting.RegistryFileFleetRegistry.raise.Goals as goal

pub returns-in-Ok-clause-raised : goal.returns-in-Ok-clause-raised
returns-in-Ok-clause-raised g c = ap (λ (k : Kept). noted_in k) c.in-Ok.ensures.put

pub returns-in-Ok-clause-any_moment : goal.returns-in-Ok-clause-any_moment
returns-in-Ok-clause-any_moment g c =
    put_leaves g.D.Device.clock g.D.Device.left_since c.args.self.now c.put.new.self
    (says.Raise c.args.master c.args.id) _ refl (c.put.ensures.any_moment c.requires.sound.goes_on)

pub returns-in-Err-Failed-clause-any_moment : goal.returns-in-Err-Failed-clause-any_moment
returns-in-Err-Failed-clause-any_moment g c =
    put_leaves g.D.Device.clock g.D.Device.left_since c.args.self.now c.put.new.self
    (says.Raise c.args.master c.args.id) _ refl (c.put.ensures.any_moment c.requires.sound.goes_on)
