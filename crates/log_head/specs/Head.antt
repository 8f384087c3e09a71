-- The head of the log.
use Rattle.std.specs.Prelude.{◌≡◌, ℕ, zero, suc, ◌+◌, ◌<◌, ◌≤◌, ◌==◌, ◌&&◌, List, [], ◌∷◌, length, take, Bool, false}
use Rattle.std.specs.Prelude.{Option, Some, None, IfSome, is_none, slice_get, nat_le, nat_lt, if◌then◌else◌}
use Rattle.entry.specs.declared.digest.Digest.{Digest}
use Rattle.entry.specs.declared.digest.Digest.TheVariants as digest
use Rattle.entry.specs.declared.entry.Entry.{Entry}
use Rattle.entry.specs.Text.{Opening, text_of, opening_of, IsSegment, listed_ids}
use Rattle.std.specs.List.{AllByRecursion}
use Rattle.std.specs.Option.{option_map, option_map_or}
use Rattle.log_laws.specs.Heads.{fewest}
use Rattle.log_head.specs.declared.head.Roll.{Roll}
use Rattle.log_head.specs.declared.head.UnitEnd.{UnitEnd}

pub record HeadValue : Type 0 where
  pub id : ℕ
  -- how many replicas the head will have
  pub replicas : ℕ
  -- what the image holds
  pub image : List Entry
  -- the offset in bytes at which the units begin in the image, behind the opening and what was loaded
  pub base : ℕ
  pub units : List UnitEnd
  -- how many units each opened replica has
  pub taken : List ℕ
  -- the roll that is under way
  pub roll : Option Roll

-- the digest in an image; an image without an opening counts as one whose digest lists nothing
abbrev pub digest_in : List Entry → Digest
digest_in image = option_map_or (λ (o : Opening). o.digest) (opening_of image) (digest.Ids [])

-- the ids of the digest in an image
abbrev pub digest_of : List Entry → List ℕ
digest_of image = listed_ids (digest_in image)

-- true if all replicas are open and no roll is under way
abbrev pub is_open : HeadValue → Bool
is_open h = (length h.taken == h.replicas) && is_none h.roll

-- the offset at which the first units end: the length of a replica that has just these units
abbrev pub end_of : ℕ → List UnitEnd → ℕ → ℕ
end_of from us zero = from
end_of from [] (suc n) = from
end_of from (u ∷ us) (suc n) = end_of u.end us n

-- the number of the record of the unit at this place; None if no unit is there
abbrev pub record_at : List UnitEnd → ℕ → Option ℕ
record_at us place = option_map (λ (u : UnitEnd). u.number) (slice_get us place)

-- the length in bytes of the image once this unit is at its end
abbrev pub len_with : List Entry → List Entry → ℕ
len_with image unit = length (text_of image) + length (text_of unit)

-- each unit ends no earlier than the one before it, and the last ends where the image ends
abbrev pub EndAt : ℕ → List UnitEnd → ℕ → Type 0
EndAt from [] len = from ≡ len
EndAt from (u ∷ us) len = (from ≤ u.end) × EndAt u.end us len

-- what is true of every roll of a head that will have so many replicas and has opened so many
pub record IsRollValue (replicas count : ℕ) (r : Roll) : Type 0 where
  pub segment : IsSegment r.image
  pub limit : length (text_of r.image) ≤ 8388608
  pub whole : count ≡ replicas
  pub opened : r.opened ≤ replicas
  pub closed : r.closed < replicas

-- what is true of every head
pub record IsHeadValue (h : HeadValue) : Type 0 where
  pub segment : IsSegment h.image
  pub limit : length (text_of h.image) ≤ 8388608
  pub units : EndAt h.base h.units (length (text_of h.image))
  pub opened : length h.taken ≤ h.replicas
  pub few : h.replicas ≤ 64
  -- each replica has some of the first units
  pub taken : AllByRecursion (λ n. n ≤ length h.units) h.taken
  pub roll : IfSome h.roll (IsRollValue h.replicas (length h.taken))

-- the replica that has the fewest units, and of several the first; None if each replica has all units
abbrev pub IsLagging : ℕ → List ℕ → Option ℕ → Type 0
IsLagging units ns None = AllByRecursion (λ m. units ≤ m) ns
IsLagging units ns (Some j) =
    (n : ℕ) × (slice_get ns j ≡ Some n) × (n < units) × AllByRecursion (λ m. n ≤ m) ns
    × AllByRecursion (λ m. n < m) (take j ns)

-- how many of the first units every replica has; none while a replica isn't open yet
abbrev pub everywhere : HeadValue → ℕ
everywhere h = if nat_lt (length h.taken) h.replicas then 0 else fewest (length h.units) h.taken

-- true if there is a record and its number is at most this one
abbrev pub is_up_to : ℕ → Option ℕ → Bool
is_up_to number first = option_map_or (λ (n : ℕ). nat_le n number) first false

-- true if some replica lacks a unit of a record up to this number
abbrev pub lacks_to : HeadValue → ℕ → Bool
lacks_to h number = is_up_to number (record_at h.units (everywhere h))
