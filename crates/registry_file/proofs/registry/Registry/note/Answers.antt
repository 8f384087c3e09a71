use Rattle.std.proofs.Common.{sym, ◌∙◌, ap}
use Rattle.registry_file.specs.Kept.{Kept, after, kept_in}
use Rattle.registry_text.specs.declared.record.Record.{Record}
use Rattle.registry_file.proofs.registry.Registry.note.Goals as goal

pub returns-in-Journal : goal.returns-in-Journal
returns-in-Journal c =
    let old = kept_in c.args.self.now in
    (λ i. let k : Kept = record {
      fleet = old.fleet;
      journal = c.put_journal.ensures i;
      least = old.least;
      master = old.master;
      format = old.format;
    } in k)
    ∙ ap (λ (r : Record). after old r) (sym c.in-Journal.is)

pub returns-in-Raise : goal.returns-in-Raise
returns-in-Raise c =
    let old = kept_in c.args.self.now in
    (λ i. let k : Kept = record {
      fleet = old.fleet;
      journal = old.journal;
      least = c.raise.ensures i;
      master = old.master;
      format = old.format;
    } in k)
    ∙ ap (λ (r : Record). after old r) (sym c.in-Raise.is)
