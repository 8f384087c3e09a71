-- What stays true of images, texts and index through every step.
use Rattle.std.specs.Prelude.{◌≡◌, ℕ, ◌*◌, ◌<◌, ◌≤◌, ◌⊎◌, List, Some, None}
use Rattle.entry.specs.declared.key.Key.{Key}
use Rattle.entry.specs.declared.entry.Object.{Object}
use Rattle.entry.specs.declared.entry.Tombstone.{Tombstone}
use Rattle.entry.specs.declared.entry.Entry.{Entry}
use Rattle.entry.specs.declared.entry.Entry.TheVariants as entry
use Rattle.entry.specs.Bag.{IsAmong}
use Rattle.entry.specs.Meaning.{Versioned, Contents, IsOfKey, version_of, rank_of, object_at, IsClean, among}
use Rattle.log_laws.specs.Covered.{IsDead}
use Rattle.log_laws.specs.Memory.{Place, Index, Images, Pass, LogSet, StandsAt, ImagesHave, SegmentHas, LogHas}

-- ---- images and index

-- The object of victim `s` was copied to survivor `z`: the survivor's image has it.
pub record IsCopied (image : Images) (pass : Pass) (s z : ℕ) (o : Object) : Type 0 where
  pub victim : IsAmong s pass.victims
  pub survivor : IsAmong z pass.survivors
  pub copy : among (image z) (entry.Object o)

-- The object's own tombstone is in an image, and names the object's segment or the survivor that has its copy.
pub record IsBuried (ids : List ℕ) (image : Images) (pass : Pass) (s : ℕ) (o : Object) : Type 0 where
  pub grave : Tombstone
  pub of_key : grave.key ≡ o.key
  pub of_version : grave.version ≡ o.version
  pub stands : ImagesHave ids image (entry.Tombstone grave)
  pub names : (grave.segment ≡ s) ⊎ IsCopied image pass s grave.segment o

-- The index leads from the key to a place in a segment of the log set, where the key's object stands.
pub record IsFound (ids : List ℕ) (image : Images) (index : Index) (k : Key) (x : Versioned) : Type 0 where
  pub place : Place
  pub indexed : index k ≡ Some place
  pub counts : IsAmong place.segment ids
  pub stands : StandsAt image place (object_at k x)

-- no entry that the log set has of the key ranks above this
abbrev pub RanksUpTo : LogSet → Key → ℕ → Type 0
RanksUpTo log k top = (s : ℕ) (f : Entry) → SegmentHas log s f → IsOfKey k f → rank_of f ≤ top

-- Each segment of the log set that has the key's object is the segment of this place, or a victim whose object was
-- copied to the segment of this place.
abbrev pub LiesAt : LogSet → Pass → Place → Key → Versioned → Type 0
LiesAt log pass p k x = (s : ℕ) (o : Object) → SegmentHas log s (entry.Object o) → entry.Object o ≡ object_at k x
    → (p.segment ≡ s) ⊎ IsCopied log.image pass s p.segment o

-- each dead object that the log set has is buried: some image has its tombstone
abbrev pub AreBuried : LogSet → Pass → Contents → Type 0
AreBuried log pass contents = (s : ℕ) (o : Object) → SegmentHas log s (entry.Object o) → IsDead contents o
    → IsBuried log.ids log.image pass s o

-- Memory is tracked: the index finds each key's object and nothing else, and copies and tombstones of objects are
-- where they should be.
pub record IsTracked (log : LogSet) (pass : Pass) (index : Index) (contents : Contents) : Type 0 where
  pub clean : IsClean (LogHas log)
  -- no entry of a key ranks above the key's object
  pub highest : (k : Key) (x : Versioned) → contents k ≡ Some x → RanksUpTo log k (2 * x.version)
  pub found : (k : Key) (x : Versioned) → contents k ≡ Some x → IsFound log.ids log.image index k x
  pub unindexed : (k : Key) → contents k ≡ None → index k ≡ None
  pub lies : (k : Key) (x : Versioned) (p : Place) → contents k ≡ Some x → index k ≡ Some p → LiesAt log pass p k x
  pub buried : AreBuried log pass contents

-- ---- an open pass

-- Each tombstone in a victim that names a segment of the log set lies ahead of the cursor, or some survivor's image
-- has it.
abbrev pub AreCarried : List ℕ → Images → Pass → List Place → Type 0
AreCarried ids image pass rest = (p : Place) (t : Tombstone) → IsAmong p.segment pass.victims
    → StandsAt image p (entry.Tombstone t) → IsAmong t.segment ids
    → IsAmong p rest ⊎ ImagesHave pass.survivors image (entry.Tombstone t)

-- each object and tombstone in a survivor's image is in a victim's image too
abbrev pub AreCopies : Images → Pass → Type 0
AreCopies image pass = (s : ℕ) (e : Entry) (k : Key) → IsAmong s pass.survivors → among (image s) e → IsOfKey k e
    → ImagesHave pass.victims image e

-- What is true of an open pass. `rest` has the places ahead of its cursor.
pub record IsPassing (ids : List ℕ) (image : Images) (pass : Pass) (index : Index) (rest : List Place) : Type 0 where
  pub victims_count : (s : ℕ) → IsAmong s pass.victims → IsAmong s ids
  pub survivors_count : (s : ℕ) → IsAmong s pass.survivors → IsAmong s ids
  pub disjoint : (s : ℕ) → IsAmong s pass.survivors → IsAmong s pass.victims → ⊥
  pub copies : AreCopies image pass
  -- a place in a victim that the index names lies ahead of the cursor
  pub live : (k : Key) (p : Place) → index k ≡ Some p → IsAmong p.segment pass.victims → IsAmong p rest
  pub carried : AreCarried ids image pass rest

-- ---- ids and versions

-- each tombstone in an image of the log set names a segment with an id below this
abbrev pub NamesBelow : LogSet → ℕ → Type 0
NamesBelow log unused = (s : ℕ) (t : Tombstone) → IsAmong s log.ids → among (log.image s) (entry.Tombstone t)
    → t.segment < unused

-- each entry that the log set has of the key has a version below this
abbrev pub VersionsBelow : LogSet → Key → ℕ → Type 0
VersionsBelow log k top = (s : ℕ) (f : Entry) → SegmentHas log s f → IsOfKey k f → version_of f < top

-- Each object and tombstone in the image of a segment is in the segment's text too. The segment is one of the log set
-- and no survivor.
abbrev pub AreTexted : LogSet → Pass → Type 0
AreTexted log pass = (s : ℕ) (e : Entry) (k : Key) → IsAmong s log.ids → (IsAmong s pass.survivors → ⊥) → IsOfKey k e
    → among (log.image s) e → among (log.text s) e

-- Ids and versions in use are below the next ones. Ids of the log set, and those that tombstones name, are below
-- `next`. Versions of keys without an object are below `safe`.
pub record IsAround (log : LogSet) (pass : Pass) (contents : Contents) (safe next : ℕ) : Type 0 where
  pub below : (s : ℕ) → IsAmong s log.ids → s < next
  pub named_below : NamesBelow log next
  pub versions : (k : Key) → contents k ≡ None → VersionsBelow log k safe
  pub texted : AreTexted log pass
