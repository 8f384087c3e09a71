use Rattle.std.proofs.Common.{◌≡◌, ◌≤◌, [], List, length, drop}
use Rattle.std.specs.List.{flat_map}
use Rattle.entry.specs.declared.entry.Object.{Object}
use Rattle.claims.proofs.objects.Objects.last.Given as goal

abbrev pub invariant-loop-n : goal.invariant-loop-n
invariant-loop-n l = record {
  within : l.n ≤ length l.self-inside.others.items;
  empty : flat_map (λ (os : List Object). os) (drop l.n l.self-inside.others.items) ≡ [];
}

abbrev pub decreases-loop-n : goal.decreases-loop-n
decreases-loop-n l = l.n
