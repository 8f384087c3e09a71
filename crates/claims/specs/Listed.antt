-- What is true of each list that a log is rebuilt to.
use Rattle.std.specs.Prelude.{ℕ, ◌<◌, List, map, All}
use Rattle.std.specs.List.Sorted.{IsStrictlySortedBy}
use Rattle.entry.specs.declared.entry.Object.{Object}
use Rattle.entry.specs.Order.{key_cmp}

-- the objects are sorted by table and then by key bytes, and each key is there once
abbrev pub AreOrdered : List Object → Type 0
AreOrdered os = IsStrictlySortedBy key_cmp (map (λ (o : Object). o.key) os)

-- the version of each object is below the safe version
abbrev pub AreBelow : ℕ → List Object → Type 0
AreBelow safe os = All (λ (o : Object). o.version < safe) os
