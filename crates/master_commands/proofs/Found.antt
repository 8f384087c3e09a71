-- What a key has, by the object that was found.
use Rattle.std.proofs.Common.{◌≡◌, ℕ, List, Option, Some, None, refl, ap, ◌∙◌}
use Rattle.std.specs.Prelude.{IfSome}
use Rattle.std.specs.Option.{option_map}
use Rattle.entry.specs.declared.key.Key.{Key}
use Rattle.entry.specs.declared.entry.Entry.{Entry}
use Rattle.entry.specs.declared.view.ObjectRef.{ObjectRef}
use Rattle.entry.specs.Meaning.{versioned}
use Rattle.entry.specs.View.{shown_object}
use Rattle.master_state.specs.compactor.Places.{object_there}
use Rattle.places.specs.declared.place.Place.{Place}
use Rattle.places.specs.Map.{Places}
use Rattle.master_state.specs.Index.{FindsObject, place_found, object_found}
use Rattle.master_commands.specs.Change.{version_in, found_at}

-- the object that was found stands at its place
abbrev pub StandsThere : (ℕ → List Entry) → Option (Place × ObjectRef) → Type 0
StandsThere images r = IfSome r (λ f. object_there images f.0 ≡ Some (shown_object f.1))

pub finds_there : (images : ℕ → List Entry) (index : Places) (k : Key) (r : Option (Place × ObjectRef))
    → FindsObject images index k r → StandsThere images r
finds_there images index k None finds = tt
finds_there images index k (Some f) finds = finds.1

pub stands_found : (images : ℕ → List Entry) (r : Option (Place × ObjectRef)) (p : Place) → StandsThere images r
    → ((q : Place) → place_found r ≡ Some q → p ≡ q)
    → found_at images (version_in (object_found r)) p ≡ object_found r
stands_found images None p there place = refl
stands_found images (Some f) p there place =
    ap (λ (q : Place). option_map versioned (object_there images q)) (place f.0 refl)
    ∙ ap (option_map versioned) there
