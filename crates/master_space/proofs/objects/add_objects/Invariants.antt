use Rattle.std.proofs.Common.{length, map, ◌-◌, ◌≤◌}
use Rattle.entry.specs.View.{shown_object}
use Rattle.master_space.proofs.ObjectWalk.{IsListed}
use Rattle.master_space.proofs.objects.add_objects.Given as goal

abbrev pub invariant-loop-at : goal.invariant-loop-at
invariant-loop-at l = record {
  listed : IsListed l.index.held l.table l.id l.segment (map shown_object l.initial.objects.items) l.at
      (map shown_object l.objects.items);
  within : l.at ≤ length l.text;
}

abbrev pub decreases-loop-at : goal.decreases-loop-at
decreases-loop-at l = length l.text - l.at
