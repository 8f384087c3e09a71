use Rattle.std.proofs.Common.{◌∙◌}
use Rattle.hash_index.proofs.Packing.{free_slot}
use Rattle.hash_index.proofs.slots.Slots.first_free.Goals as goal

pub returns-clause-slot : goal.returns-clause-slot
returns-clause-slot c = c.first_tagged.ensures.slot ∙ free_slot c.args.self.now
