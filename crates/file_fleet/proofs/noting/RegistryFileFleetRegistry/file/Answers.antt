use Rattle.std.proofs.Common.{Option, ◌∙◌, ap}
use Rattle.registry_file.specs.Kept.{Kept}
use Rattle.registry_file.specs.declared.registry.JournalFile.{JournalFile}
use Rattle.file_fleet.specs.Noting.{id_of}
use Rattle.file_fleet.proofs.noting.RegistryFileFleetRegistry.file.Goals as goal

pub returns : goal.returns
returns g c =
    c.id_of.ensures ∙ ap (λ (j : Option JournalFile). id_of j)
    (c.journal.ensures ∙ ap (λ (k : Kept). k.journal c.args.backup) c.registry.ensures)
