use Rattle.std.proofs.Common.{◌≡◌, ℕ, List, Bool, ap, ◌∙◌}
use Rattle.std.specs.List.{insert}
use Rattle.replica.specs.Picture.{Replica}
use Rattle.backup.specs.Slots.{Slots, found_in}
use Rattle.backup.proofs.Acting.{add_refused, add_fits, add_acts, add_keeps}
use Rattle.backup.proofs.memory.MemoryBackup.add.Goals as goal

abbrev replica_of : Bool → List ℕ → Replica
replica_of is_open bytes = record { bytes = bytes; is_open = is_open }

pub returns-in_default-clause-named : goal.returns-in_default-clause-named
returns-in_default-clause-named c = (
  add_refused c.args.bytes.now c.args.is_open c.args.self.now.replicas c.find.ensures.ordered c.args.place
      c.in_default.field-0 c.in_default.ensures.found,
  ap (λ (slots : Slots). found_in slots c.args.place) c.find.ensures.same,
)

pub returns-in_default-copy-clause-named : goal.returns-in_default-copy-clause-named
returns-in_default-copy-clause-named c = (
  add_fits c.args.bytes.now c.args.is_open c.args.self.now.replicas c.find.ensures.ordered c.args.place c.in-Err.at
      c.in-Err.ensures.absent,
  ap (λ (slots : Slots). found_in slots c.args.place) (c.copy.ensures.same ∙ c.find.ensures.same),
)

after : (c : goal.In-Ok-insert)
    → c.insert.new.self ≡ insert c.args.self.now.replicas c.in-Err.at (c.args.place, c.new.result)
after c =
    c.in-Ok-insert.ensures.ok
    ∙ ap (λ (slots : Slots). insert slots c.in-Err.at (c.args.place, c.new.result))
    (c.copy.ensures.same ∙ c.find.ensures.same)

pub returns-in-Ok-insert-clause-named : goal.returns-in-Ok-insert-clause-named
returns-in-Ok-insert-clause-named c =
    let copied : c.new.result ≡ record { bytes = c.args.bytes.now; is_open = c.args.is_open } =
    c.new.ensures
    ∙ ap (replica_of c.args.is_open) c.in-Ok.ensures.copy in
    add_acts c.args.bytes.now c.args.is_open c.args.self.now.replicas c.find.ensures.ordered c.args.place c.in-Err.at
    c.in-Err.ensures.absent c.insert.new.self c.new.result (after c) copied

pub returns-in-Ok-insert-clause-others : goal.returns-in-Ok-insert-clause-others
returns-in-Ok-insert-clause-others c =
    add_keeps c.args.bytes.now c.args.is_open c.args.self.now.replicas c.find.ensures.ordered c.args.place c.in-Err.at
    c.in-Err.ensures.absent c.insert.new.self c.new.result (after c)

pub returns-in-Err-insert-clause-named : goal.returns-in-Err-insert-clause-named
returns-in-Err-insert-clause-named c = (
  add_fits c.args.bytes.now c.args.is_open c.args.self.now.replicas c.find.ensures.ordered c.args.place c.in-Err.at
      c.in-Err.ensures.absent,
  ap (λ (slots : Slots). found_in slots c.args.place)
      (c.in-Err-insert.ensures.err ∙ c.copy.ensures.same ∙ c.find.ensures.same),
)
