use Rattle.std.proofs.Common.{◌≡◌, Option, sym, ◌∙◌, ap, rules}
use Rattle.registry_file.specs.File.{kept_by}
use Rattle.registry_file.specs.Kept.{Kept}
use Rattle.registry_text.specs.declared.record.Record.TheVariants as says
use Rattle.registry_file.specs.declared.registry.JournalFile.{JournalFile}
use Rattle.file_fleet.specs.Noting.{id_of, noted_in}
use Rattle.file_fleet.proofs.Records.{ended_noted, put_leaves}
use Rattle.file_fleet.proofs.noting.RegistryFileFleetRegistry.end_journal.Goals as goal

pub returns-in-Ok-clause-ended : goal.returns-in-Ok-clause-ended
returns-in-Ok-clause-ended g c =
    let live : c.in-Some.file.id ≡ 0 → ⊥ = search rules in
    let same : id_of ((kept_by c.args.self.now).journal c.args.backup) ≡ c.in-Some.file.id =
    ap (λ (j : Option JournalFile). id_of j)
    (sym (c.journal.ensures ∙ ap (λ (k : Kept). k.journal c.args.backup) c.registry.ensures) ∙ c.in-Some.is) in
    ap (λ (k : Kept). noted_in k) c.in-Ok.ensures.put
    ∙ ended_noted (kept_by c.args.self.now) c.args.backup c.in-Some.file.id c.args.frames live c.requires.limit same

pub returns-in-Ok-clause-any_moment : goal.returns-in-Ok-clause-any_moment
returns-in-Ok-clause-any_moment g c =
    let live : c.in-Some.file.id ≡ 0 → ⊥ = search rules in
    let same : id_of ((kept_by c.args.self.now).journal c.args.backup) ≡ c.in-Some.file.id =
    ap (λ (j : Option JournalFile). id_of j)
    (sym (c.journal.ensures ∙ ap (λ (k : Kept). k.journal c.args.backup) c.registry.ensures) ∙ c.in-Some.is) in
    put_leaves g.D.Device.clock g.D.Device.left_since c.args.self.now c.put.new.self
    (says.Journal c.args.backup c.in-Some.file.id c.args.frames) _
    (ended_noted (kept_by c.args.self.now) c.args.backup c.in-Some.file.id c.args.frames live c.requires.limit same)
    (c.put.ensures.any_moment c.requires.sound.goes_on)

pub returns-in-Err-clause-any_moment : goal.returns-in-Err-clause-any_moment
returns-in-Err-clause-any_moment g c =
    let live : c.in-Some.file.id ≡ 0 → ⊥ = search rules in
    let same : id_of ((kept_by c.args.self.now).journal c.args.backup) ≡ c.in-Some.file.id =
    ap (λ (j : Option JournalFile). id_of j)
    (sym (c.journal.ensures ∙ ap (λ (k : Kept). k.journal c.args.backup) c.registry.ensures) ∙ c.in-Some.is) in
    put_leaves g.D.Device.clock g.D.Device.left_since c.args.self.now c.put.new.self
    (says.Journal c.args.backup c.in-Some.file.id c.args.frames) _
    (ended_noted (kept_by c.args.self.now) c.args.backup c.in-Some.file.id c.args.frames live c.requires.limit same)
    (c.put.ensures.any_moment c.requires.sound.goes_on)
