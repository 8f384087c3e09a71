-- Limits of partitions, and sizes of objects.
use Rattle.std.specs.Prelude.{ℕ, ◌&&◌, Bool, true, nat_lt, List, [], ◌∷◌}
use Rattle.std.specs.List.{list_all}
use Rattle.entry.specs.declared.tablet.Tablet.{Tablet}
use Rattle.entry.specs.declared.tablet.Size.{Size}
use Rattle.tablet_will.specs.Order.{is_up_to}
use Rattle.tablet_will.specs.Parts.{is_in_one}

-- both limits are at least 1
abbrev pub are_limits : ℕ → ℕ → Bool
are_limits max_bytes max_objects = nat_lt 0 max_bytes && nat_lt 0 max_objects

-- the sizes are sorted by table, then by place
abbrev pub are_in_order : List Size → Bool
are_in_order [] = true
are_in_order (s ∷ []) = true
are_in_order (s ∷ r ∷ ss) = is_up_to s.table s.place r.table r.place && are_in_order (r ∷ ss)

-- the sizes are sorted, and the place of each is in a tablet
abbrev pub are_sizes : List Tablet → List Size → Bool
are_sizes ts ss = are_in_order ss && list_all (λ (s : Size). is_in_one ts s.table s.place) ss
