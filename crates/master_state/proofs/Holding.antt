-- Which entries are kept if the index changes.
use Rattle.std.proofs.Common.{◌≡◌, ℕ, true, List, refl}
use Rattle.entry.specs.declared.key.Key.{Key}
use Rattle.entry.specs.declared.entry.Entry.{Entry}
use Rattle.entry.specs.declared.entry.Entry.TheVariants as entry
use Rattle.places.specs.declared.place.Place.{Place}
use Rattle.places.specs.Map.{Places}
use Rattle.places.specs.Relocation.{names}
use Rattle.cleaner.specs.compactor.Kept.{kept}

-- an entry is kept only if it was before, if the index names its place only for keys for which it did before
pub kept_again : (ids : List ℕ) (old new : Places) (p : Place) (e : Entry)
    → ((k : Key) → names new k p ≡ true → names old k p ≡ true) → kept ids new p e ≡ true → kept ids old p e ≡ true
kept_again ids old new p (entry.Header h) named is = refl
kept_again ids old new p (entry.Digest l) named is = refl
kept_again ids old new p (entry.Safe version) named is = refl
kept_again ids old new p (entry.Object o) named is = named o.key is
kept_again ids old new p (entry.Tombstone t) named is = is
