use Rattle.std.proofs.Common.{◌≡◌, ◌++◌, drop, map}
use Rattle.entry.specs.View.{shown_object}
use Rattle.master_space.specs.Objects.{of_table}
use Rattle.master_state.specs.Sizes.{live_closed}
use Rattle.master_space.proofs.objects.objects_in.Given as goal

abbrev pub invariant-loop-image : goal.invariant-loop-image
invariant-loop-image l =
    map shown_object l.objects.items ++ of_table l.table (live_closed l.core.index (drop l.image-index l.image-items))
    ≡ of_table l.table (live_closed l.core.index l.image-items)
