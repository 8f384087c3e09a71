use Rattle.std.proofs.Common.{◌≡◌, ◌++◌}
use Rattle.rebuilding.proofs.rebuilding.append.Given as goal

abbrev pub invariant-loop-group : goal.invariant-loop-group
invariant-loop-group l = l.all.items ≡ l.initial.all.items ++ l.yielded
