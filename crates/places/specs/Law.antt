-- Laws about the places at which keys are found.
use Rattle.std.specs.Prelude.{◌≡◌, ◌↔◌, Bool, true, Option, Some}
use Rattle.std.specs.Option.{option_map}
use Rattle.entry.specs.declared.key.Key.{Key}
use Rattle.places.specs.declared.place.Place.{Place}
use Rattle.places.specs.Map.{Places, found, AreKept, IsSet}
use Rattle.places.specs.Relocation.{names, moved, goes_all, AllPlaces}

-- the two resolvers give the same key at each of the places
abbrev pub AreToldAgain : (Place → Option Key) → (Place → Option Key) → Places → Type 0
AreToldAgain keys again ps = AllPlaces (λ (p : Place). again p ≡ keys p) ps

-- If two resolvers give the same key at each place, then the places are a map for both, and each key is found at the
-- same place.
abbrev pub KeepsFound : Type 0
KeepsFound = (keys again : Place → Option Key) (ps : Places) → AreKept keys ps → AreToldAgain keys again ps
    → AreKept again ps × ((k : Key) → found again k ps ≡ found keys k ps)

-- A key stands at the place where it is found. This place passes any test that all places pass.
abbrev pub FindsTold : Type 0
FindsTold = (keys : Place → Option Key) (ps : Places) (k : Key) (p : Place) → found keys k ps ≡ Some p
    → (keys p ≡ Some k) × ((test : Place → Bool) → AllPlaces (λ (q : Place). test q ≡ true) ps → test p ≡ true)

-- If a key stands at a place, then the index names the place for the key exactly if the key is found there.
abbrev pub NamesFound : Type 0
NamesFound = (keys : Place → Option Key) (ps : Places) (k : Key) (p : Place) → AreKept keys ps → keys p ≡ Some k
    → (names ps k p ≡ true) ↔ (found keys k ps ≡ Some p)

-- If a key's place moves to a place where the key also stands, then the key is found there, and every other key where
-- it was.
abbrev pub MovesFound : Type 0
MovesFound = (keys : Place → Option Key) (ps : Places) (k : Key) (p to : Place) → AreKept keys ps
    → found keys k ps ≡ Some p → keys to ≡ Some k → IsSet keys ps k (Some to) (moved ps k p to)

-- If all places move, and the same key stands at each new place, then each key is found at its new place.
abbrev pub GoesFound : Type 0
GoesFound = (keys again : Place → Option Key) (goes : Place → Place) (ps : Places) → AreKept keys ps
    → AllPlaces (λ (p : Place). again (goes p) ≡ keys p) ps
    → AreKept again (goes_all goes ps)
    × ((k : Key) → found again k (goes_all goes ps) ≡ option_map goes (found keys k ps))
