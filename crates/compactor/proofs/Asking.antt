-- Sums over objects whose places an index is asked for.
use Rattle.std.proofs.Common.{◌≡◌, ◌+◌, ℕ, List, [], ◌∷◌, ◌++◌, arith, if◌then◌else◌}
use Rattle.places.specs.Map.{Places}
use Rattle.places.specs.Relocation.{holds}
use Rattle.compactor.specs.declared.keeping.Asked.{Asked}
use Rattle.compactor.specs.Asked.{asked_of, asked_bytes, held_bytes}

pub asked_append : (xs : List Asked) (a : Asked) → asked_bytes (xs ++ a ∷ []) ≡ asked_bytes xs + a.len
asked_append [] a = omega arith
asked_append (x ∷ xs) a = omega (arith, asked_append xs a)

pub held_append : (held : Places) (id : ℕ) (xs : List Asked) (a : Asked)
    → held_bytes held id (xs ++ a ∷ []) ≡ held_bytes held id xs + (if holds held (asked_of id a) then a.len else 0)
held_append held id [] a = omega arith
held_append held id (x ∷ xs) a = omega (arith, held_append held id xs a)
