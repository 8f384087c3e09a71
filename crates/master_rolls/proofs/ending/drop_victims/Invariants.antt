use Rattle.std.proofs.Common.{◌≡◌, drop}
use Rattle.master_state.specs.Images.{staying}
use Rattle.master_rolls.proofs.ending.drop_victims.Given as goal

abbrev pub invariant-loop-id : goal.invariant-loop-id
invariant-loop-id l = record {
  left : staying (drop l.id-index l.victims) l.closed.images ≡ staying l.victims l.fn.closed.images;
  same : l.closed ≡ record l.fn.closed { images = l.closed.images };
}
