-- What images and replicas of the log set together say of the map.
use Rattle.std.specs.Prelude.{◌≡◌, ℕ, ◌⊎◌, Some}
use Rattle.entry.specs.declared.entry.Object.{Object}
use Rattle.entry.specs.declared.entry.Tombstone.{Tombstone}
use Rattle.entry.specs.declared.entry.Entry.{Entry}
use Rattle.entry.specs.declared.entry.Entry.TheVariants as entry
use Rattle.entry.specs.Bag.{IsAmong}
use Rattle.entry.specs.Meaning.{Contents, IsMeaning, IsClean, among}
use Rattle.log_bytes.specs.log_laws.Covered.{IsDead}
use Rattle.log_bytes.specs.log_laws.Memory.{ImagesHave}
use Rattle.log_bytes.specs.log_laws.Text.{Replica}
use Rattle.log_bytes.specs.log_laws.Shown.{Shown}
use Rattle.log_bytes.specs.log_laws.Data.{FailData, state_of}
use Rattle.log_memory.specs.Memory.{FailMemory, log_ids}

-- the map after the history
abbrev pub map_of : FailData → Contents
map_of d = (state_of d).contents

-- An entry of a replica of a segment of the log set.
pub record IsInReplica (d : FailData) (m : FailMemory) (p : Shown) (s : ℕ) (e : Entry) : Type 0 where
  pub counts : IsAmong s (log_ids d m)
  pub backup : ℕ
  pub replica : Replica
  pub there : p.holds backup s ≡ Some replica
  pub held : among replica.text.entries e

-- an entry of the image or a replica of a segment of the log set
abbrev pub IsInLogBag : FailData → FailMemory → Shown → ℕ → Entry → Type 0
IsInLogBag d m p s e = (IsAmong s (log_ids d m) × among (m.images s) e) ⊎ IsInReplica d m p s e

-- an entry of an image of a segment of the log set
abbrev pub image_bag : FailData → FailMemory → Entry → Type 0
image_bag d m e = ImagesHave (log_ids d m) m.images e

-- an entry of an image or of a replica of some segment of the log set
abbrev pub log_bag : FailData → FailMemory → Shown → Entry → Type 0
log_bag d m p e = (s : ℕ) × IsInLogBag d m p s e

-- The tombstone of an object that is in segment `s` may name `s`. If `s` is a victim, it may also name the survivor
-- whose image has a copy of the object.
abbrev pub MayName : FailMemory → ℕ → Object → ℕ → Type 0
MayName m s o named = (named ≡ s)
    ⊎ (IsAmong s m.pass.victims × IsAmong named m.pass.survivors × among (m.images named) (entry.Object o))

-- The object's own tombstone is in an image, and names the object's segment or the survivor that has its copy.
pub record HasGrave (d : FailData) (m : FailMemory) (s : ℕ) (o : Object) : Type 0 where
  pub grave : Tombstone
  pub of_key : grave.key ≡ o.key
  pub of_version : grave.version ≡ o.version
  pub stands : image_bag d m (entry.Tombstone grave)
  pub names : MayName m s o grave.segment

-- The log is covered: images alone, and images with replicas, mean the map, and each dead object has its tombstone in
-- an image.
pub record IsCovered (d : FailData) (m : FailMemory) (p : Shown) : Type 0 where
  -- no two different objects share key and version
  pub image_clean : IsClean (image_bag d m)
  pub log_clean : IsClean (log_bag d m p)
  -- both mean the map after the history
  pub image_meaning : IsMeaning (image_bag d m) (map_of d)
  pub log_meaning : IsMeaning (log_bag d m p) (map_of d)
  -- each dead object has its tombstone in an image
  pub dead : (s : ℕ) (o : Object) → IsInLogBag d m p s (entry.Object o) → IsDead (map_of d) o → HasGrave d m s o
