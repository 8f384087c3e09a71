use Rattle.std.proofs.Common.{Option, ◌∙◌, ap}
use Rattle.registry_file.specs.Kept.{Kept}
use Rattle.registry_file.specs.declared.registry.JournalFile.{JournalFile}
use Rattle.file_fleet.specs.Noting.{span_of}
use Rattle.file_fleet.proofs.noting.RegistryFileFleetRegistry.span.Goals as goal

pub returns : goal.returns
returns g c =
    c.span_of.ensures ∙ ap (λ (j : Option JournalFile). span_of j)
    (c.journal.ensures ∙ ap (λ (k : Kept). k.journal c.args.backup) c.registry.ensures)
