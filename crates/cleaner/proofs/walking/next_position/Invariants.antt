use Rattle.std.proofs.Common.{length, ◌-◌}
use Rattle.cleaner.specs.Passes.{images_in}
use Rattle.cleaner.proofs.Cursors.{IsGoing}
use Rattle.cleaner.proofs.walking.next_position.Given as goal

abbrev pub invariant-loop-position : goal.invariant-loop-position
invariant-loop-position l = IsGoing (images_in l.images.images) l.victims l.fn.from l.position

abbrev pub decreases-loop-position : goal.decreases-loop-position
decreases-loop-position l = length l.victims - l.position.victim
