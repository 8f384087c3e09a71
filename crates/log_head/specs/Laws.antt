-- How a head's image stays that of the log's head through each step.
use Rattle.std.specs.Prelude.{◌≡◌, ℕ, ◌+◌, ◌-◌, ◌<◌, ◌≤◌, List, [], ◌∷◌, ◌++◌, length, take, drop, Option}
use Rattle.std.specs.List.Sorted.{IsStrictlyIncreasing}
use Rattle.entry.specs.Bag.{IsAmong}
use Rattle.entry.specs.declared.digest.Listed.{Listed}
use Rattle.entry.specs.declared.entry.Entry.{Entry}
use Rattle.entry.specs.Limits.{ids_in}
use Rattle.entry.specs.Text.{text_of, IsSegment}
use Rattle.log_laws.specs.Heads.{Start, Head, entries_of, head_entries}
use Rattle.log_laws.specs.HeadSteps.{units_between, new_head}
use Rattle.log_head.specs.declared.head.Roll.{Roll}
use Rattle.log_head.specs.declared.rolling.Leaving.{Leaving}
use Rattle.log_head.specs.Head.{HeadValue, digest_of, end_of}
use Rattle.log_head.specs.Steps.{fresh_head, with_unit_end, settled, start_after, others_after, fresh_roll, in_force}
use Rattle.log_head.specs.Steps.{counts_without, lost}
use Rattle.log_head.specs.Log.{HasLens, head_of, settled_head, start_of, IsImageOf, IsNewImage}

-- An image holds only one head of the log: the head that is read from it.
abbrev pub HeadIsRead : Type 0
HeadIsRead = (master : ℕ) (h : HeadValue) (l : Head) → IsImageOf master h l → IsSegment h.image → head_of h ≡ l

-- The first units end where the text of a head with just these units ends.
abbrev pub EndsAreLengths : Type 0
EndsAreLengths = (master : ℕ) (h : HeadValue) (l : Head) (n : ℕ) → IsImageOf master h l
    → end_of h.base h.units n ≡ length (text_of (head_entries master l n))

-- The image up to the end of a unit is the text of a head with the units up to there.
abbrev pub FrontsAreTexts : Type 0
FrontsAreTexts = (master : ℕ) (h : HeadValue) (l : Head) (n : ℕ) → IsImageOf master h l
    → take (end_of h.base h.units n) (text_of h.image) ≡ text_of (head_entries master l n)

-- The bytes of the image between two ends are the units between them, each whole.
abbrev pub PartsAreUnits : Type 0
PartsAreUnits = (master : ℕ) (h : HeadValue) (l : Head) (m n : ℕ) → IsImageOf master h l → m ≤ n
    → take (end_of h.base h.units n - end_of h.base h.units m)
    (drop (end_of h.base h.units m) (text_of h.image))
    ≡ text_of (entries_of (units_between l.units m n))

-- The image of a new head holds a head of the log without units. Each unit that is appended adds one unit.
abbrev pub FreshIsImage : Type 0
FreshIsImage = (master replicas : ℕ) (start : Start) → HasLens start
    → IsImageOf master (fresh_head master replicas start)
    (record { start = start; loaded = []; units = []; taken = [] })

abbrev pub UnitIsImage : Type 0
UnitIsImage = (master : ℕ) (h : HeadValue) (l : Head) (number : ℕ) (unit : List Entry) → IsImageOf master h l
    → IsImageOf master (with_unit_end h number unit)
    (record l { units = l.units ++ record { number = number; entries = unit } ∷ [] })

-- If the counts of what replicas have change, the image holds the head with the new counts.
abbrev pub CountsAreImage : Type 0
CountsAreImage = (master : ℕ) (h : HeadValue) (l : Head) (ks : List ℕ) → IsImageOf master h l
    → IsImageOf master (record h { taken = ks }) (record l { taken = ks })

-- If a replica is lost, the image holds the head without this replica's count.
abbrev pub LostIsImage : Type 0
LostIsImage = (master : ℕ) (h : HeadValue) (l : Head) (replica : Option ℕ) → IsImageOf master h l
    → IsImageOf master (lost h replica) (record l { taken = counts_without h.taken replica })

-- Once each replica is open, a settled head is the log's head for which all that it held counts as loaded.
abbrev pub SettledIsImage : Type 0
SettledIsImage = (master : ℕ) (h : HeadValue) (l : Head) → IsImageOf master h l → IsSegment h.image
    → length h.taken ≡ h.replicas
    → (head_of (settled h) ≡ settled_head h.replicas l) × IsImageOf master (settled h) (head_of (settled h))

-- ---- rolls

-- A new roll is to a head with this start, and its image is the opening of that head.
abbrev pub RollBegins : Type 0
RollBegins = (master : ℕ) (n : Start) → HasLens n
    → (start_of (fresh_roll master n) ≡ n) × IsNewImage master (fresh_roll master n)

-- Without victims and survivors the new head's digest lists the ids of the digest in force before its own.
abbrev pub OrdinaryKeeps : Type 0
OrdinaryKeeps = (h : HeadValue) (id safe : ℕ) → (start_after h [] [] id safe).others ≡ digest_of h.image

-- The ids of the survivors rise. They are below the new head's id, and the digest in force has none of them.
pub record AreOthers (image : List Entry) (survivors : List Listed) (id : ℕ) : Type 0 where
  pub rise : IsStrictlyIncreasing (ids_in survivors)
  pub outside : (s : ℕ) → IsAmong s (ids_in survivors) → IsAmong s (digest_of image) → ⊥
  pub below : (s : ℕ) → IsAmong s (ids_in survivors) → s < id

-- The ids of the new head's digest rise, if the ids of the digest in force and then the new id rise, and the survivors
-- are others.
abbrev pub DigestRises : Type 0
DigestRises = (image : List Entry) (l : Leaving) (id : ℕ) → IsStrictlyIncreasing (digest_of image ++ id ∷ [])
    → AreOthers image l.survivors.now id → IsStrictlyIncreasing (others_after image l ++ id ∷ [])

-- Besides the survivors, the new digest lists at most as many other ids as the digest in force has.
abbrev pub DigestIsFew : Type 0
DigestIsFew = (image : List Entry) (l : Leaving)
    → length (others_after image l) ≤ length (digest_of image) + length l.survivors.now

-- Once the new head is in force, its image holds the log's new head.
abbrev pub RollEnds : Type 0
RollEnds = (master : ℕ) (h : HeadValue) (r : Roll) → IsNewImage master r → IsSegment r.image
    → (head_of (in_force h r) ≡ new_head h.replicas (start_of r))
    × IsImageOf master (in_force h r) (head_of (in_force h r))
