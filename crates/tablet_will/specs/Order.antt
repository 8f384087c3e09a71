-- The order of places: by table, then by place.
use Rattle.std.specs.Prelude.{ℕ, ◌==◌, ◌&&◌, ◌||◌, Bool, nat_lt, nat_le}

-- the first place comes before the second one: its table is lower, or the place is lower in the same table
abbrev pub is_below : ℕ → ℕ → ℕ → ℕ → Bool
is_below table place other_table other_place =
    nat_lt table other_table || ((table == other_table) && nat_lt place other_place)

-- the first place comes before the second one, or both are the same
abbrev pub is_up_to : ℕ → ℕ → ℕ → ℕ → Bool
is_up_to table place other_table other_place =
    nat_lt table other_table || ((table == other_table) && nat_le place other_place)

-- both tables are the same, and the place lies from 'first' to 'last', both included
abbrev pub is_within : ℕ → ℕ → ℕ → ℕ → ℕ → Bool
is_within table first last other_table place = (table == other_table) && (nat_le first place && nat_le place last)
