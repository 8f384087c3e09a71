use Rattle.std.proofs.Common.{◌≡◌, ◌++◌, drop, vec_capacity}
use Rattle.master_state.specs.Images.{leaving}
use Rattle.master_rolls.proofs.ending.add_leaving.Given as goal

abbrev pub invariant-loop-image : goal.invariant-loop-image
invariant-loop-image l = record {
  added : l.waiting.items ++ leaving l.victims (drop l.image-index l.images)
      ≡ l.fn.waiting.items ++ leaving l.victims l.images;
  capacity : vec_capacity l.waiting ≡ vec_capacity l.fn.waiting;
}
