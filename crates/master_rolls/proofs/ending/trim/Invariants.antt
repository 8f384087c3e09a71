use Rattle.std.proofs.Common.{◌≡◌}
use Rattle.std.specs.List.{range_with_len}
use Rattle.master_state.specs.Images.{all_trimmed}
use Rattle.master_rolls.proofs.ending.trim.Given as goal

abbrev pub invariant-loop-at : goal.invariant-loop-at
invariant-loop-at l =
    l.closed ≡ record l.fn.closed { images = all_trimmed (range_with_len l.survivors.first l.at) l.fn.closed.images }
