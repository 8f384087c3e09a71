-- The backups of a fleet, each with its file.
use Rattle.std.specs.Prelude.{◌≡◌, ◌⊎◌, ℕ, ◌<◌, ◌==◌, Bool, true, false, List, length, Option, Some, None}
use Rattle.std.specs.Prelude.{⊤, if◌then◌else◌}
use Rattle.std.specs.List.{slice_get}
use Rattle.replica.specs.Op.{OpValue}
use Rattle.replica.specs.Picture.{Picture, Replica, with_replica}
use Rattle.replica.specs.Take.{effect, no_limit}
use Rattle.take_journal.specs.Frames.{recovered}
use Rattle.take_journal.specs.Journal.{device_of}
use Rattle.file_backup.specs.Mirror.{IsBacked, TellsFirst, TellsWhy, is_out, journal_of, replicas_of}
use Rattle.file_backup.specs.declared.fault.BackupFault.{BackupFault}
use Rattle.file_backup.specs.Replay.{Replicas}
use Rattle.file_fleet.specs.Files.{Noted, ShowsUnder}
use Rattle.file_fleet.specs.declared.registry.Span.{Span}
use Rattle.file_fleet.specs.declared.registry.Span.TheVariants.{First, Nothing, Whole}
use Rattle.file_fleet.specs.declared.member.Member.{Member}
use Rattle.file_fleet.specs.declared.members.Members.{Members}

-- ---- what they hold

abbrev pub device_at : {D : Type 0} → Member D → D
device_at h = device_of (journal_of h.backup)

abbrev pub replicas_at : {D : Type 0} → Member D → Replicas
replicas_at h = replicas_of h.backup

-- the replica of a master's segment on a backup, if there is that backup
abbrev pub replica_on : {D : Type 0} → Option (Member D) → ℕ → ℕ → Option Replica
replica_on None m s = None
replica_on (Some h) m s = replicas_at h m s

-- the backups are numbered by their order
abbrev pub picture_of : {D : Type 0} → List (Member D) → Picture
picture_of members = λ b m s. replica_on (slice_get members b) m s

-- the picture in which this backup holds these replicas
abbrev pub with_backup : Picture → ℕ → Replicas → Picture
with_backup p b q = λ c. if b == c then q else p c

-- The backup of this number takes the op, and no other one changes.
pub record TakesOn (backups : ℕ) (old : Picture) (b : ℕ) (op : OpValue) (new : Picture) : Type 0 where
  pub within : b < backups
  pub replica : Option Replica
  pub does : effect op.act (old b op.master op.segment) ≡ Some replica
  pub makes : new ≡ with_replica old b op.master op.segment replica

-- there is no such backup, or the op doesn't fit
abbrev pub MissesOn : ℕ → Picture → ℕ → OpValue → Type 0
MissesOn backups picture b op = b < backups → effect op.act (picture b op.master op.segment) ≡ None

-- ---- what their files show

-- If the backup isn't out, its journal shows what it holds, and has so many frames.
pub record IsMember {D : Type 0} (contents : D → List ℕ) (may_leave : D → List ℕ → Type 0) (has_failed : D → Bool)
    (h : Member D) : Type 0 where
  pub backed : IsBacked contents may_leave has_failed h.backup
  pub counted : is_out h.backup ≡ false → h.frames ≡ length (recovered (contents (device_at h)))
  pub limit : h.frames < no_limit

-- The backup holds nothing, and goes on in a file of its own.
pub record IsFresh {D : Type 0} (contents : D → List ℕ) (may_leave : D → List ℕ → Type 0) (has_failed : D → Bool)
    (h : Member D) : Type 0 where
  pub member : IsMember contents may_leave has_failed h
  pub goes_on : is_out h.backup ≡ false
  pub live : h.id ≡ 0 → ⊥
  pub nothing : (m s : ℕ) → replicas_at h m s ≡ None

-- Whatever a crash leaves of the backup's file now, it shows what the backup holds if so much of it counts. All of it
-- counts while the backup isn't out.
pub record IsUnder {D : Type 0} (may_leave : D → List ℕ → Type 0) (span : Span) (h : Member D) : Type 0 where
  pub whole : is_out h.backup ≡ false → span ≡ Whole
  pub shows : (file : List ℕ) → may_leave (device_at h) file → ShowsUnder span (replicas_at h) file

-- The files show what the backups hold, the registry has the id of each file, and its own file is on the disk.
pub record AreKept {D R : Type 0} (contents : D → List ℕ) (may_leave : D → List ℕ → Type 0) (has_failed : D → Bool)
    (noted : R → Noted) (is_sound : R → Type 0) (members : List (Member D)) (registry : R) : Type 0 where
  pub registry_is : is_sound registry
  pub each : (b : ℕ) (h : Member D) → slice_get members b ≡ Some h
      → IsMember contents may_leave has_failed h × IsUnder may_leave ((noted registry).span b) h
  pub named : (b : ℕ) (h : Member D) → slice_get members b ≡ Some h → (noted registry).file b ≡ h.id

-- why a backup's file isn't opened of which so much counts
abbrev pub TellsUnder : Span → BackupFault → List ℕ → Type 0
TellsUnder Nothing fault file = ⊤
TellsUnder Whole fault file = TellsWhy fault file
TellsUnder (First n) fault file = TellsFirst n fault file

-- the files show what the backups hold, unless the fleet is halted
abbrev pub AreSafe : {D R : Type 0} → (D → List ℕ) → (D → List ℕ → Type 0) → (D → Bool) → (R → Noted) → (R → Type 0)
    → Members D R → Type 0
AreSafe contents may_leave has_failed noted is_sound f =
    f.is_halted ≡ false → AreKept contents may_leave has_failed noted is_sound f.list.items f.registry

-- this backup is there, and it is out
abbrev pub IsOutAt : {D : Type 0} → List (Member D) → ℕ → Type 0
IsOutAt {D} members b = (h : Member D) × (slice_get members b ≡ Some h) × (is_out h.backup ≡ true)
