-- Memory is the same if only the replicas of closed segments are counted anew.
use Rattle.std.proofs.Common.{◌≡◌, ℕ, List, [], map}
use Rattle.std.specs.Prelude.{unwrap_or, ◌==◌, if◌then◌else◌, Some}
use Rattle.std.specs.Option.{option_map, option_map_or}
use Rattle.master_core.specs.cleaner.Passes.{rest_of}
use Rattle.entry.specs.declared.entry.Entry.{Entry}
use Rattle.master_core.specs.log_laws.Memory.{Place as EntryPlace}
use Rattle.places.specs.declared.place.Place.{Place}
use Rattle.places.specs.Map.{found}
use Rattle.images.specs.Image.{Image}
use Rattle.images.specs.Sorted.{segment_of}
use Rattle.master_core.specs.compactor.Places.{keys_in}
use Rattle.master_core.specs.master_state.Budget.{victims_of, survivors_of, is_committing}
use Rattle.master_core.specs.master_state.Data.{MasterData}
use Rattle.master_core.specs.master_state.Images.{new_image_or}
use Rattle.master_core.specs.master_state.Log.{images_of, position_of, memory_of, spots_in}

-- the closed segments are others with the same entries
module _ (d : MasterData) (cs : List Image) (same : (s : ℕ) → segment_of cs s ≡ segment_of d.closed s) where
  images_same : images_of (record d { closed = cs }) ≡ images_of d
  images_same = λ i s.
      unwrap_or (if d.head.id == s then Some d.head.image else new_image_or d.head.roll s (same s i)) []

  abbrev place_by : (ℕ → List Entry) → Place → EntryPlace
  place_by images p = record { segment = p.segment; position = position_of (images p.segment) p.at }

  pub memory_recounted : memory_of (record d { closed = cs }) ≡ memory_of d
  memory_recounted = λ i. record {
    images = images_same i;
    index = λ k. option_map (place_by (images_same i)) (found (keys_in (images_same i)) k d.index);
    pass = record { victims = victims_of d.pass; survivors = survivors_of d.pass };
    rest = map (place_by (images_same i)) (option_map_or (rest_of (λ s. unwrap_or (same s i) [])) d.pass []);
    commits = is_committing d;
    waiting = spots_in d.config d.failed d.waiting;
  }
