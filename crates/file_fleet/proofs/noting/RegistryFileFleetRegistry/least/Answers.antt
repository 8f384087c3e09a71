use Rattle.std.proofs.Common.{◌∙◌, ap}
use Rattle.registry_file.specs.Kept.{Kept}
use Rattle.file_fleet.proofs.noting.RegistryFileFleetRegistry.least.Goals as goal

pub returns : goal.returns
returns g c = c.least.ensures ∙ ap (λ (k : Kept). k.least c.args.master) c.registry.ensures
