-- What the backups hold of a log, in bytes.
use Rattle.std.specs.Prelude.{◌≡◌, ℕ, ◌<◌, Some, slice_get}
use Rattle.entry.specs.declared.entry.Entry.{Entry}
use Rattle.entry.specs.Meaning.{among}
use Rattle.entry.specs.Text.{data_in}
use Rattle.replica.specs.Picture.{Replica, Shown}
use Rattle.log_laws.specs.Heads.{LogUnit}
use Rattle.log_laws.specs.Shown.{Shown as ModelShown}
use Rattle.log_laws.specs.Data.{FailData, HasTaken, durable_of}
use Rattle.log_laws.specs.Log.{IsKept}
use Rattle.log_bytes.specs.Spelled.{IsSpelled}

-- the backup's replica of the segment has the unit
abbrev pub HoldsUnit : Shown → ℕ → ℕ → ℕ → LogUnit → Type 0
HoldsUnit shown master b s u = (r : Replica) × (shown.holds b master s ≡ Some r)
    × ((e : Entry) → among u.entries e → among (data_in r.bytes) e)

-- ---- laws

-- Each backup that took the head's Open holds each durable unit of it.
abbrev pub UnitsAreHeld : Type 0
UnitsAreHeld = (master : ℕ) (d : FailData) (shown : Shown) (p : ModelShown) (place b : ℕ) (u : LogUnit)
    → IsSpelled master shown p → IsKept d p → slice_get d.head.units place ≡ Some u → u.number < durable_of d
    → HasTaken d d.head.start.id b → HoldsUnit shown master b d.head.start.id u
