-- What a master whose backups may fail knows of its log, without what the backups hold.
use Rattle.std.specs.Prelude.{◌≡◌, ℕ, ◌⊎◌, List, [], ◌++◌, length, map, take, Bool, true, false, Option, Some, None}
use Rattle.std.specs.Prelude.{if◌then◌else◌}
use Rattle.entry.specs.declared.tablet.Tablet.{Tablet}
use Rattle.entry.specs.declared.entry.Entry.{Entry}
use Rattle.entry.specs.Bag.{IsAmong}
use Rattle.entry.specs.Text.{Opening}
use Rattle.versioned_map.specs.declared.command.Record.{Record}
use Rattle.versioned_map.specs.History.{commands_of}
use Rattle.versioned_map.specs.Versioned.{State, after}
use Rattle.log_laws.specs.Heads.{Start, digest_for, LogUnit, entries_of, records_before, fewest}
use Rattle.log_laws.specs.Ids.{has, without}
use Rattle.log_laws.specs.Text.{Text, Replica}

-- ---- heads

-- the opening of a head, as its replicas have it
abbrev pub opening_for : Start → Opening
opening_for n = record { digest = digest_for n; safe = n.safe }

-- The segment that is appended to. Id 0 means that there is no head yet: no backup holds it, and its digest lists no
-- other ids.
pub record Head : Type 0 where
  pub start : Start
  -- the entries that were loaded before the history began
  pub loaded : List Entry
  pub units : List LogUnit

-- the head's loaded entries and those of its first `count` units
abbrev pub front_entries : Head → ℕ → List Entry
front_entries h count = h.loaded ++ entries_of (take count h.units)

-- the head's text with its first `count` units
abbrev pub front : Head → ℕ → Text
front h count = record { opening = Some (opening_for h.start); entries = front_entries h count }

-- the text of a head with nothing but its opening
abbrev pub bare : Start → Text
bare n = record { opening = Some (opening_for n); entries = [] }

abbrev pub bare_replica : Start → Replica
bare_replica n = record { text = bare n; is_open = true }

-- ---- data

-- The configuration of a log.
pub record FailConfig : Type 0 where
  pub master : ℕ
  -- how many backups there are, numbered from 0
  pub backups : ℕ
  -- how many replicas a segment has
  pub replicas : ℕ
  -- how many ids a digest may have
  pub most : ℕ
  pub tablets : List Tablet
  -- 1 or 2: under format 2 digests list the lengths of segments, and backups may fail
  pub format : ℕ

-- What the next pushes do.
pub data Mode : Type 0 where
  -- they extend the head: no roll is under way, and no failover is open
  Calm : Mode
  -- a roll opens this head on its backups, and then closes the old one
  Rolls : Start → Mode
  -- a failover: each home of the head gets all its units, and each lost replica of it is opened anew
  Mends : Mode
  -- a failover: this new head is opened on its backups, and then the registry is raised to it
  Opens : Start → Mode
  -- a failover: the old head is closed on its homes
  Closes : Start → Mode
  -- a failover: each lost replica of another segment is sealed anew
  Repairs : Mode

-- All that a master knows of its log.
pub record FailData : Type 0 where
  pub config : FailConfig
  -- the state that the history begins with
  pub opening : State
  pub history : List Record
  pub head : Head
  -- how many units of the head each of its backups took, by takes that answered Ok
  pub counts : ℕ → ℕ
  -- the backups on which a roll or a failover closed the head in force
  pub shut : List ℕ
  pub mode : Mode
  -- the heads that a roll was opening as a failover began
  pub abandoned : List Start
  -- the backups that took an Open or a Seal of each segment
  pub took : ℕ → List ℕ
  -- the backups that failed
  pub failed : List ℕ
  -- the durable count as the failover began
  pub frozen : ℕ
  -- the first id that no segment had yet
  pub next : ℕ

-- ---- words

-- the backup took an Open or a Seal of the segment
abbrev pub HasTaken : FailData → ℕ → ℕ → Type 0
HasTaken d s b = has (d.took s) b ≡ true

-- the backup is a home of the segment: it took an Open or a Seal of the segment, and hasn't failed
abbrev pub IsHome : FailData → ℕ → ℕ → Type 0
IsHome d s b = HasTaken d s b × (has d.failed b ≡ false)

-- the segment's homes
abbrev pub homes : FailData → ℕ → List ℕ
homes d s = without d.failed (d.took s)

-- the head that a roll or a failover is opening, until it is in force
abbrev pub new_of : Mode → Option Start
new_of Calm = None
new_of (Rolls n) = Some n
new_of Mends = None
new_of (Opens n) = Some n
new_of (Closes n) = Some n
new_of Repairs = None

-- true if a failover is open
abbrev pub is_failing : Mode → Bool
is_failing Calm = false
is_failing (Rolls n) = false
is_failing Mends = true
is_failing (Opens n) = true
is_failing (Closes n) = true
is_failing Repairs = true

-- the new head of a failover, until it is in force
abbrev pub failover_head_of : Mode → Option Start
failover_head_of Calm = None
failover_head_of (Rolls n) = None
failover_head_of Mends = None
failover_head_of (Opens n) = Some n
failover_head_of (Closes n) = Some n
failover_head_of Repairs = None

-- true if the head in force was opened after the last failure of a backup
abbrev pub is_settled : Mode → Bool
is_settled Calm = true
is_settled (Rolls n) = true
is_settled Mends = false
is_settled (Opens n) = false
is_settled (Closes n) = false
is_settled Repairs = true

-- a new head: one that a roll or a failover is opening, or one that a roll was opening as a failover began
abbrev pub IsNew : FailData → Start → Type 0
IsNew d n = (new_of d.mode ≡ Some n) ⊎ IsAmong n d.abandoned

-- ---- history

-- the versioned map's state after the first records
abbrev pub state_after : FailData → ℕ → State
state_after d count = after d.opening (take count (commands_of d.history))

-- the versioned map's state after all records
abbrev pub state_of : FailData → State
state_of d = after d.opening (commands_of d.history)

-- how many records come before the record of the unit at this place of the head; all records, if no unit is there
abbrev pub before : FailData → ℕ → ℕ
before d place = records_before d.head.units (length d.history) place

-- how many of the head's units were taken by every backup that took the head's Open
abbrev pub everywhere : FailData → ℕ
everywhere d = fewest (length d.head.units) (map d.counts (d.took d.head.start.id))

-- how many records come before the first unit that some backup of the head didn't take
abbrev pub taken_records : FailData → ℕ
taken_records d = before d (everywhere d)

-- The durable count: how many of the first records are durable. While a failover is open, the count stays what it was
-- as the failover began.
abbrev pub durable_of : FailData → ℕ
durable_of d = if is_failing d.mode then d.frozen else taken_records d
