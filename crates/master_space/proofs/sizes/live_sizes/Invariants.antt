use Rattle.std.proofs.Common.{◌≡◌, ◌++◌, drop, map}
use Rattle.master_state.specs.Sizes.{size_of, live_closed}
use Rattle.master_space.proofs.sizes.live_sizes.Given as goal

abbrev pub invariant-loop-image : goal.invariant-loop-image
invariant-loop-image l =
    l.sizes.items ++ map size_of (live_closed l.core.index (drop l.image-index l.image-items))
    ≡ map size_of (live_closed l.core.index l.image-items)
