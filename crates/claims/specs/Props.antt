-- Facts that have at most one proof.
use Rattle.std.specs.Prelude.{List, map}
use Rattle.std.proofs.lemmas.Map.Keys.{IsStrictlySortedBy-prop}
use Rattle.entry.specs.declared.entry.Object.{Object}
use Rattle.entry.specs.Order.{key_cmp}
use Rattle.claims.specs.Listed.{AreOrdered}

pub AreOrdered-prop : (os : List Object) → IsProp (AreOrdered os)
AreOrdered-prop os = IsStrictlySortedBy-prop key_cmp (map (λ (o : Object). o.key) os)
