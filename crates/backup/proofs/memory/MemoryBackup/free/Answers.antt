use Rattle.std.proofs.Common.{◌≡◌, refl, ap, ◌∙◌}
use Rattle.std.specs.List.{remove}
use Rattle.replica.specs.Op.{Free}
use Rattle.backup.specs.Slots.{Slots, found_in}
use Rattle.backup.proofs.Acting.{free_acts, free_keeps, refused}
use Rattle.backup.proofs.memory.MemoryBackup.free.Goals as goal
use Rattle.backup.proofs.memory.MemoryBackup.free.Goals.{After-spare}

after : (c : After-spare) → c.spare.new.self.replicas ≡ remove c.args.self.now.replicas c.in-Ok.found
after c =
    c.spare.ensures
    ∙ c.remove-stored.ensures
    ∙ ap (λ (slots : Slots). remove slots c.in-Ok.found) c.find.ensures.same

pub returns-in-Ok-clause-named : goal.returns-in-Ok-clause-named
returns-in-Ok-clause-named c =
    free_acts c.args.self.now.replicas c.find.ensures.ordered c.args.place c.in-Ok.found c.in-Ok.ensures.found
    c.spare.new.self.replicas (after c)

pub returns-in-Ok-clause-others : goal.returns-in-Ok-clause-others
returns-in-Ok-clause-others c =
    free_keeps c.args.self.now.replicas c.find.ensures.ordered c.args.place c.in-Ok.found c.in-Ok.ensures.found
    c.spare.new.self.replicas (after c)

pub returns-in-Err-clause-named : goal.returns-in-Err-clause-named
returns-in-Err-clause-named c = (
  refused Free refl c.args.self.now.replicas c.find.ensures.ordered c.args.place c.in-Err.field-0
      c.in-Err.ensures.absent,
  ap (λ (slots : Slots). found_in slots c.args.place) c.find.ensures.same,
)
