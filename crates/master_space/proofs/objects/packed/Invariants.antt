use Rattle.std.proofs.Common.{◌≡◌, ◌++◌, drop, map}
use Rattle.entry.specs.View.{shown_object}
use Rattle.master_space.proofs.objects.packed.Given as goal

abbrev pub invariant-loop-object : goal.invariant-loop-object
invariant-loop-object l =
    l.list ++ map shown_object (drop l.object-index l.objects) ≡ map shown_object l.objects
