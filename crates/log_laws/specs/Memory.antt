-- Images, the index and a pass, and which entries the images and texts of a log set have.
use Rattle.std.specs.Prelude.{ℕ, zero, suc, ◌≡◌, ◌⊎◌, ◌==◌, List, [], ◌∷◌, ◌++◌, Option, Some, None, if◌then◌else◌}
use Rattle.entry.specs.declared.key.Key.{Key}
use Rattle.entry.specs.declared.entry.Entry.{Entry}
use Rattle.entry.specs.Bag.{IsAmong}
use Rattle.log_laws.specs.Heads.{Start}
use Rattle.log_laws.specs.Rising.{Texts}

-- ---- data

-- The place of an entry: its segment, and its position in the segment's image, from 0.
pub record Place : Type 0 where
  pub segment : ℕ
  pub position : ℕ

-- the index: the place of each key's object, or None for a key without an object
abbrev pub Index : Type 0
Index = Key → Option Place

-- the image of each segment: the entries that the master's memory has of it
abbrev pub Images : Type 0
Images = ℕ → List Entry

-- The victims and survivors of the open pass. Both lists are empty if no pass is open.
pub record Pass : Type 0 where
  pub victims : List ℕ
  pub survivors : List ℕ

-- no pass is open
abbrev pub no_pass : Pass
no_pass = record { victims = []; survivors = [] }

-- ---- the log set

-- the id of the head that a roll is opening
abbrev pub new_ids : Option Start → List ℕ
new_ids None = []
new_ids (Some n) = n.id ∷ []

-- A log set: the ids of its segments, and the image and the text as replicated of each.
pub record LogSet : Type 0 where
  pub ids : List ℕ
  pub image : Images
  pub text : Texts

-- ---- what images and texts have

-- the element is at this place of the list
abbrev pub IsAt : {X : Type 0} → List X → ℕ → X → Type 0
IsAt [] n x = ⊥
IsAt (y ∷ ys) zero x = y ≡ x
IsAt (y ∷ ys) (suc n) x = IsAt ys n x

-- the entry is at this place of the images
abbrev pub StandsAt : Images → Place → Entry → Type 0
StandsAt image p e = IsAt (image p.segment) p.position e

-- The segment is one of `ids`, and its image has the entry.
pub record ImageHas (ids : List ℕ) (image : Images) (s : ℕ) (e : Entry) : Type 0 where
  pub counts : IsAmong s ids
  pub among : IsAmong e (image s)

-- the image of one of these segments has the entry
abbrev pub ImagesHave : List ℕ → Images → Entry → Type 0
ImagesHave ids image e = (s : ℕ) × ImageHas ids image s e

-- The segment is in the log set, and its image or its text has the entry.
pub record SegmentHas (log : LogSet) (s : ℕ) (e : Entry) : Type 0 where
  pub counts : IsAmong s log.ids
  pub among : IsAmong e (log.image s) ⊎ IsAmong e (log.text s)

-- the image or the text of some segment of the log set has the entry
abbrev pub LogHas : LogSet → Entry → Type 0
LogHas log e = (s : ℕ) × SegmentHas log s e

-- ---- changes

-- the images with one of them replaced
abbrev pub with_image : Images → ℕ → List Entry → Images
with_image image s es z = if z == s then es else image z

-- the images with one more entry at the end of that of segment `s`
abbrev pub grown : Images → ℕ → Entry → Images
grown image s e = with_image image s (image s ++ e ∷ [])

-- the log set with one image replaced
abbrev pub replaced : LogSet → ℕ → List Entry → LogSet
replaced log s es = record log { image = with_image log.image s es }

-- the log set with one more entry at the end of the image of segment `s`
abbrev pub copied : LogSet → ℕ → Entry → LogSet
copied log s e = record log { image = grown log.image s e }

-- the log set with the same images and texts, and other ids
abbrev pub counting : LogSet → List ℕ → LogSet
counting log ids = record log { ids = ids }

-- the log set with the same ids and images, and other texts
abbrev pub telling : LogSet → Texts → LogSet
telling log text = record log { text = text }
