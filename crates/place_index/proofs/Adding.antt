-- Lists of places with one place more, wherever it stands, or with one less.
use Rattle.std.proofs.Common.{◌≡◌, List, [], ◌∷◌, ◌++◌, subst, ◌∙◌, ℕ}
use Rattle.std.specs.Prelude.{Option, Some, None}
use Rattle.entry.specs.declared.key.Key.{Key}
use Rattle.places.specs.declared.place.Place.{Place}
use Rattle.places.specs.declared.place.Held.{Held}
use Rattle.place_index.specs.Steps.{IsShuffled}
use Rattle.places.proofs.FoundPlaces.{last_set, without_set}
use Rattle.places.specs.Lists.{AreKeptIn, IsSetIn, found_in, without}

module _ (hash_of : Key → ℕ) (keys : Place → Option Key) (k : Key) where
  pub shuffled_set : (hs new : List Held) (h : Held) → IsShuffled (hs ++ h ∷ []) new → AreKeptIn hash_of keys hs
      → found_in keys k hs ≡ None
      → keys h.place ≡ Some k → h.hash ≡ hash_of k → IsSetIn hash_of keys hs k (Some h.place) new
  shuffled_set hs new h shuffled all none there of =
      let set = last_set keys k hs h all none there of in
      let same = shuffled.same hash_of keys set.kept in
      record { kept = same.kept; finds = λ q. same.finds q ∙ set.finds q }

  -- a place less
  pub taken_set : (hs mid new : List Held) (h : Held) → mid ≡ without h hs → IsShuffled mid new
      → AreKeptIn hash_of keys hs
      → found_in keys k hs ≡ Some h.place → h.hash ≡ hash_of k → IsSetIn hash_of keys hs k None new
  taken_set hs mid new h taken shuffled all is of =
      let set = without_set keys k hs h all is of in
      let whole : IsShuffled (without h hs) new = subst (λ (xs : List Held). IsShuffled xs new) taken shuffled in
      let same = whole.same hash_of keys set.kept in
      record { kept = same.kept; finds = λ q. same.finds q ∙ set.finds q }
