-- The definitions about the places of an index, for a bare list of held places.
use Rattle.std.specs.Prelude.{ℕ, List, map, Bool}
use Rattle.std.specs.List.{AllByRecursion}
use Rattle.entry.specs.declared.key.Key.{Key}
use Rattle.places.specs.declared.place.Place.{Place}
use Rattle.places.specs.declared.place.Held.{Held}
use Rattle.places.specs.Lists.{holds_in, relocated_in}

abbrev pub names_in : (Key → ℕ) → List Held → Key → Place → Bool
names_in hash_of hs k p = holds_in hs (record { hash = hash_of k; place = p })

abbrev pub moved_in : (Key → ℕ) → List Held → Key → Place → Place → List Held
moved_in hash_of hs k p to = relocated_in (record { hash = hash_of k; place = p }) to hs

abbrev pub goes_all_in : (Place → Place) → List Held → List Held
goes_all_in goes hs = map (λ (h : Held). record h { place = goes h.place }) hs

abbrev pub AllHeld : (Place → Type 0) → List Held → Type 0
AllHeld P hs = AllByRecursion (λ (h : Held). P h.place) hs
