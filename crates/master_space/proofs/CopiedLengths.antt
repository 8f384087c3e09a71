-- What the code of a copy tells: the victim in which the next entry lies.
use Rattle.std.proofs.Common.{◌≡◌, ℕ, ◌+◌, false, List, ◌∷◌}
use Rattle.std.proofs.Common.{drop, sym, ap, ◌∙◌}
use Rattle.std.proofs.lemmas.List.{drop_more}
use Rattle.places.specs.declared.place.Place.{Place}
use Rattle.images.specs.Image.{Image}
use Rattle.cleaner.specs.declared.pass.Pass.{Pass}
use Rattle.cleaner.specs.Passes.{images_in, rest_of, places_on, is_at_end}
use Rattle.cleaner.specs.Passes.{IsPass}
use Rattle.cleaner.specs.Walks.{IsAtData}
use Rattle.cleaner.proofs.Places.{place_at, on_data}
use Rattle.cleaner.proofs.Reading.{ahead_data}
use Rattle.cleaner.proofs.Steps.{lt, own_ahead}
use Rattle.master_space.specs.Counting.{next_victim}

-- the next entry lies in the victim at which the cursor is
module _ (seed : List ℕ) (images : List Image) (p : Pass) (pass : IsPass seed images p)
    (more : is_at_end p ≡ false) where
  there : IsAtData (images_in images (next_victim p)) p.cursor.at
  there =
      ahead_data seed (images_in images (next_victim p)) p.cursor.at p.cursor.ahead
      (own_ahead seed p images pass more)

  pub victim_is : (place : Place) (later : List Place) → rest_of (images_in images) p ≡ place ∷ later
      → next_victim p ≡ place.segment
  victim_is place later is =
      let split = drop_more p.victims p.cursor.victim 0 (lt seed p images pass more) in
      let first = ap (λ (ids : List ℕ). places_on (images_in images) ids p.cursor.at) (sym split) ∙ is in
      let next = on_data (images_in images) (next_victim p) (drop (p.cursor.victim + 1) p.victims) p.cursor.at
      there.0 there.1 there.2 in
      let same = sym next ∙ first in
      let here : place_at (next_victim p) p.cursor.at ≡ place = cc in
      ap (λ (q : Place). q.segment) here
