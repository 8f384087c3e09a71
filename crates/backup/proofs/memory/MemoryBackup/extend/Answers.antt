use Rattle.std.proofs.Common.{refl, ap}
use Rattle.replica.specs.Op.{Extend}
use Rattle.backup.specs.Slots.{Slots, found_in}
use Rattle.backup.proofs.Acting.{change_acts, change_keeps, refused}
use Rattle.backup.proofs.memory.MemoryBackup.extend.Goals as goal

pub returns-else-not-has_room-clause-named : goal.returns-else-not-has_room-clause-named
returns-else-not-has_room-clause-named c =
    change_acts c.args.self.now.replicas c.find.ensures.ordered c.args.place c.in-Ok.found c.in-Ok.ensures.found
    c.find.new.self c.find.ensures.same c.extend.new.self
    (Extend c.args.at c.args.bytes.now) c.extend.result c.stored_mut.result.now
    c.stored_mut.ensures.value c.extend.ensures

pub returns-else-not-has_room-clause-others : goal.returns-else-not-has_room-clause-others
returns-else-not-has_room-clause-others c =
    change_keeps c.args.self.now.replicas c.find.ensures.ordered c.args.place c.in-Ok.found c.in-Ok.ensures.found
    c.find.new.self c.find.ensures.same c.extend.new.self

pub returns-in-Err-clause-named : goal.returns-in-Err-clause-named
returns-in-Err-clause-named c = (
  refused (Extend c.args.at c.args.bytes.now) refl c.args.self.now.replicas c.find.ensures.ordered c.args.place
      c.in-Err.field-0
      c.in-Err.ensures.absent,
  ap (λ (slots : Slots). found_in slots c.args.place) c.find.ensures.same,
)
