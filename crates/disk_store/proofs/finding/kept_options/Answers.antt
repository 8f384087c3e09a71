use Rattle.std.proofs.Common.{ap, ◌∙◌, subst}
use Rattle.std.specs.Prelude.{Option, IfSome}
use Rattle.store_folders.specs.Files.{IsSoundHere}
use Rattle.disk_store.specs.Opened.{RegistryHere}
use Rattle.disk_store.proofs.Openings.{kept_in}
use Rattle.disk_store.proofs.finding.kept_options.Goals as goal

pub returns-in-Ok-Some : goal.returns-in-Ok-Some
returns-in-Ok-Some c =
    kept_in c.in-Ok-Some.registry c.deref.result.now
    (subst (λ (o : Option RegistryHere). IfSome o IsSoundHere) c.in-Ok-Some.field-0-is c.in-Ok-Some.ensures.sound)
    (c.deref.ensures.value ∙ ap (λ f. f.options) c.fleet.ensures ∙ ap (λ k. k.fleet.options) c.registry.ensures)
    c.options_in.result c.options_in.ensures
