-- A table that is divided into parts. Each hash belongs to one part.
use Rattle.std.specs.Prelude.{ℕ, suc, List, [], ◌∷◌, Bool, ◌==◌}
use Rattle.std.specs.List.{flat_map}
use Rattle.places.specs.declared.place.Held.{Held}
use Rattle.place_index.specs.Steps.{HashesPass}

-- the hash belongs to this part
abbrev pub belongs : (ℕ → ℕ) → ℕ → ℕ → Bool
belongs part_of i hash = part_of hash == i

-- the places of all parts
abbrev pub places_in : List (List Held) → List Held
places_in parts = flat_map (λ (part : List Held). part) parts

-- each part of the list has only places whose hashes belong to it; the first part of the list has number i
abbrev pub AreInParts : (ℕ → ℕ) → ℕ → List (List Held) → Type 0
AreInParts part_of i [] = Unit {0}
AreInParts part_of i (p ∷ ps) = HashesPass (belongs part_of i) p × AreInParts part_of (suc i) ps
