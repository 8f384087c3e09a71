-- Tallies stay right as a log goes on.
use Rattle.std.specs.Prelude.{◌≡◌, ◌⊎◌, ℕ, ◌≤◌, List, [], ◌++◌, length, filter, Option, Some, None, true, false}
use Rattle.entry.specs.declared.key.Key.{Key}
use Rattle.entry.specs.declared.entry.Object.{Object}
use Rattle.entry.specs.declared.entry.Tombstone.{Tombstone}
use Rattle.entry.specs.declared.entry.Entry.{Entry}
use Rattle.entry.specs.declared.entry.Entry.TheVariants as entry
use Rattle.entry.specs.Bag.{IsAmong}
use Rattle.entry.specs.Format.{spelling}
use Rattle.entry.specs.Text.{text_of, is_data, IsSegment}
use Rattle.places.specs.declared.place.Place.{Place}
use Rattle.places.specs.Map.{Places, found, AreKept, IsSet}
use Rattle.compactor.specs.Kept.{has_id, kept_of, moved_all}
use Rattle.compactor.specs.Places.{LiesAt}
use Rattle.tally.specs.declared.tallies.Tally.{Tally}
use Rattle.tally.specs.Live.{live_from, stone_bytes}
use Rattle.tally.specs.Rows.{more, less, of_nothing, AreRight, IsChangedAt, IsCommitted, WithOne}

-- ---- nothing is appended

-- the same tombstones of these images name the log
abbrev pub NameSame : List ℕ → List ℕ → (ℕ → List Entry) → Type 0
NameSame ids again images = (s : ℕ) (t : Tombstone) → IsAmong (entry.Tombstone t) (images s)
    → has_id again t.segment ≡ has_id ids t.segment

-- the image stays, or there was none and it begins without objects and tombstones
abbrev pub StaysOrBegins : List Entry → List Entry → Type 0
StaysOrBegins es again = (again ≡ es) ⊎ ((es ≡ []) × (filter is_data again ≡ []))

abbrev pub StayRight : Type 0
StayRight = (ids ids_again : List ℕ) (held : Places) (images again : ℕ → List Entry) (rows : List Tally)
    → ((s : ℕ) → StaysOrBegins (images s) (again s)) → NameSame ids ids_again images
    → AreRight ids held images rows → AreRight ids_again held again rows

-- Segments leave the log, and others stay as they were.
abbrev pub LeaveRight : Type 0
LeaveRight = (ids fewer victims : List ℕ) (held : Places) (images again : ℕ → List Entry) (old new : List Tally)
    → ((s : ℕ) → has_id fewer s ≡ true → has_id ids s ≡ true)
    → ((s : ℕ) → has_id victims s ≡ false → again s ≡ images s)
    → IsCommitted victims old new → AreRight ids held images old → AreRight fewer held again new

-- A segment begins with its opening.
abbrev pub BeginRight : Type 0
BeginRight = (ids : List ℕ) (held : Places) (images : ℕ → List Entry) (s : ℕ) (old new : List Tally)
    → filter is_data (images s) ≡ []
    → WithOne (of_nothing s) old new → AreRight ids held images old → AreRight ids held images new

-- ---- a segment grows

-- One image has more entries, and the key's new place, if it has one, is behind those that it had.
pub record IsAppended (images again : ℕ → List Entry) (head : ℕ) (unit : List Entry) (x : Option Place) : Type 0 where
  pub grown : again head ≡ images head ++ unit
  pub others : (s : ℕ) → (s ≡ head → ⊥) → again s ≡ images s
  pub place : (p : Place) → x ≡ Some p → (p.segment ≡ head) × (length (text_of (images head)) ≤ p.at)

-- so many bytes of the unit live, and so many are those of kept tombstones
pub record Grows (ids : List ℕ) (held : Places) (image : List Entry) (head : ℕ) (unit : List Entry) (live stones : ℕ)
    : Type 0 where
  pub objects : live_from held head (length (text_of image)) unit ≡ live
  pub tombstones : stone_bytes ids unit ≡ stones

-- an absent key gets an object, or none
pub record Creates (ids : List ℕ) (keys : Place → Option Key) (old new : Places) (k : Key) (x : Option Place)
    (images again : ℕ → List Entry) (head : ℕ) (unit : List Entry) (live stones : ℕ) : Type 0 where
  pub all : AreKept keys old
  pub set : IsSet keys old k x new
  pub appended : IsAppended images again head unit x
  pub grows : Grows ids new (images head) head unit live stones
  pub none : found keys k old ≡ None

-- a key whose object lies at a place gets another one, or none
pub record Replaces (ids : List ℕ) (keys : Place → Option Key) (old new : Places) (k : Key) (x : Option Place)
    (images again : ℕ → List Entry) (head : ℕ) (unit : List Entry) (live stones : ℕ) (was : Place) (o : Object)
    : Type 0 where
  pub all : AreKept keys old
  pub set : IsSet keys old k x new
  pub appended : IsAppended images again head unit x
  pub grows : Grows ids new (images head) head unit live stones
  pub is : found keys k old ≡ Some was
  pub lies : LiesAt (images was.segment) was.at (entry.Object o)
  pub key : o.key ≡ k

abbrev pub CreateIsRight : Type 0
CreateIsRight = (ids : List ℕ) (keys : Place → Option Key) (old new : Places) (k : Key) (x : Option Place)
    (images again : ℕ → List Entry) (head : ℕ) (unit : List Entry) (live stones : ℕ) (rows next : List Tally)
    → Creates ids keys old new k x images again head unit live stones
    → IsChangedAt head (more live stones) rows next
    → AreRight ids old images rows → AreRight ids new again next

-- The tally of the segment in which the object lay has its bytes less.
abbrev pub ReplaceIsRight : Type 0
ReplaceIsRight = (ids : List ℕ) (keys : Place → Option Key) (old new : Places) (k : Key) (x : Option Place)
    (images again : ℕ → List Entry) (head : ℕ) (unit : List Entry) (live stones : ℕ) (was : Place) (o : Object)
    (rows mid next : List Tally)
    → Replaces ids keys old new k x images again head unit live stones was o
    → IsChangedAt was.segment (less (length (spelling (entry.Object o)))) rows mid
    → IsChangedAt head (more live stones) mid next
    → AreRight ids old images rows → AreRight ids new again next

-- Entries are appended that the index doesn't lead to.
abbrev pub CarryIsRight : Type 0
CarryIsRight = (ids : List ℕ) (held : Places) (images again : ℕ → List Entry) (head : ℕ) (unit : List Entry)
    (stones : ℕ) (rows next : List Tally)
    → IsAppended images again head unit None → Grows ids held (images head) head unit 0 stones
    → IsChangedAt head (more 0 stones) rows next
    → AreRight ids held images rows → AreRight ids held again next

-- ---- a segment is compacted

abbrev pub CompactIsRight : Type 0
CompactIsRight = (ids : List ℕ) (held : Places) (images again : ℕ → List Entry) (segment : ℕ) (rows : List Tally)
    → IsSegment (images segment)
    → again segment ≡ kept_of ids held segment (images segment)
    → ((s : ℕ) → (s ≡ segment → ⊥) → again s ≡ images s)
    → AreRight ids held images rows
    → AreRight ids (moved_all ids held segment (images segment)) again rows
