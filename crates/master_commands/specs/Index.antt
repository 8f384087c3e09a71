-- What becomes of the index when a command changes its key.
use Rattle.std.specs.Prelude.{◌≡◌, Option, Some, None}
use Rattle.entry.specs.declared.key.Key.{Key}
use Rattle.places.specs.declared.place.Place.{Place}
use Rattle.places.specs.Map.{Places, found, AreKept, IsSet}
use Rattle.master_commands.specs.declared.change.Change.{Change}
use Rattle.master_commands.specs.declared.change.Change.TheVariants as change

-- the index gets this place for a key for which it found none, whatever resolver tells the keys at places
abbrev pub IsAdded : Places → Key → Place → Places → Type 0
IsAdded old k p new = (keys : Place → Option Key) → AreKept keys old → found keys k old ≡ None → keys p ≡ Some k
    → IsSet keys old k (Some p) new

-- The index follows a change of the key. The old object, if there is one, was found at the first place. The new object,
-- if there is one, is at the second place.
abbrev pub IsMoved : Places → Change → Key → Place → Place → Places → Type 0
IsMoved old change.Nothing k was p new = new ≡ old
IsMoved old (change.Create version) k was p new = IsAdded old k p new
IsMoved old (change.Replace dead version) k was p new =
    (keys : Place → Option Key) → AreKept keys old → found keys k old ≡ Some was → keys p ≡ Some k
    → IsSet keys old k (Some p) new
IsMoved old (change.Delete dead) k was p new =
    (keys : Place → Option Key) → AreKept keys old → found keys k old ≡ Some was → IsSet keys old k None new
