use Rattle.std.proofs.Common.{◌∙◌, ap}
use Rattle.registry_text.specs.RecordText.{FleetValue}
use Rattle.registry_file.specs.Kept.{Kept}
use Rattle.registry_file.specs.File.{kept_by}
use Rattle.store_folders.proofs.Own.{begins_own}
use Rattle.store_folders.proofs.backups.member_in.Goals as goal

pub returns-in-Ok-clause-own : goal.returns-in-Ok-clause-own
returns-in-Ok-clause-own c =
    begins_own c.fleet.result.now.id (kept_by c.args.registry.now).fleet.id c.args.backup c.file-id.result
    c.in-Ok.member.id c.deref.result.now c.args.opened.bytes.items
    (ap (λ (f : FleetValue). f.id) c.fleet.ensures ∙ ap (λ (k : Kept). k.fleet.id) c.registry.ensures)
    (c.file-id.ensures ∙ c.in-Ok.ensures.named) c.deref.ensures.value
    (c.is_journal_of.ensures c.if-not-is_journal_of.false)
