-- What is found in the files of a store's folder.
use Rattle.std.specs.Prelude.{◌≡◌, ◌⊎◌, ℕ, false, List, [], length, set, Option, Some}
use Rattle.take_journal.specs.Device.{LeavesJust}
use Rattle.take_journal.specs.Journal.{device_of}
use Rattle.take_journal.specs.declared.journal.Journal.{Journal}
use Rattle.disk_file.specs.Disk.{contents, has_failed, history, may_leave}
use Rattle.disk_file.specs.Standing.{LeftSince}
use Rattle.disk_file.specs.declared.disk.DiskFile.{DiskFile}
use Rattle.disk_file.specs.declared.folder.Opened.{Opened}
use Rattle.registry_file.specs.declared.file.RegistryFile.{RegistryFile}
use Rattle.file_backup.specs.Mirror.{IsJournalOf}
use Rattle.file_fleet.specs.Files.{Files, Noted, ShowsFleet}
use Rattle.file_fleet.specs.Fleet.{FleetValue, ShowsState, fleet_state}
use Rattle.file_fleet.specs.Members.{AreSafe, IsFresh, IsMember, IsUnder, picture_of}
use Rattle.file_fleet.specs.Moments.{AreLeftByPut}
use Rattle.file_fleet.specs.Noting.{IsIn, IsSound, file_of, noted_by}
use Rattle.file_fleet.specs.declared.member.Member.{Member}
use Rattle.file_fleet.specs.declared.members.Members.{Members}
use Rattle.fleet_start.specs.Found.{AreFound}

-- These are the bytes of the file, and all of them are on the disk.
pub record IsRead (o : Opened) : Type 0 where
  pub bytes : contents o.file ≡ o.bytes.items
  pub durable : LeavesJust o.bytes.items (may_leave o.file)
  pub unfailed : has_failed o.file ≡ false

-- The file has no bytes, also after a crash.
pub record IsEmpty (f : DiskFile) : Type 0 where
  pub bytes : contents f ≡ []
  pub durable : LeavesJust [] (may_leave f)
  pub unfailed : has_failed f ≡ false

-- ---- the words of a fleet, for files on the disk

abbrev pub IsSoundHere : RegistryFile DiskFile → Type 0
IsSoundHere r = IsSound contents may_leave has_failed r

abbrev pub AreFoundHere : List (Option (Member DiskFile)) → RegistryFile DiskFile → Type 0
AreFoundHere places registry = AreFound contents may_leave has_failed noted_by IsSoundHere places registry

abbrev pub AreSafeHere : Members DiskFile (RegistryFile DiskFile) → Type 0
AreSafeHere m = AreSafe contents may_leave has_failed noted_by IsSoundHere m

-- the present moment of the registry's file
abbrev pub time : RegistryFile DiskFile → ℕ
time r = length (history (file_of r))

-- what a crash may have left of it at any moment from this one on
abbrev pub left_of : RegistryFile DiskFile → ℕ → Noted → Type 0
left_of r moment left = IsIn (LeftSince (history (file_of r)) moment) left

-- ---- one backup

-- The backup is the one that the registry names, over its file.
pub record IsOf (registry : RegistryFile DiskFile) (b : ℕ) (h : Member DiskFile) : Type 0 where
  pub member : IsMember contents may_leave has_failed h
  pub under : IsUnder may_leave ((noted_by registry).span b) h
  pub named : (noted_by registry).file b ≡ h.id

-- a backup that holds nothing comes to this place
abbrev pub PutsFresh : List (Option (Member DiskFile)) → ℕ → List (Option (Member DiskFile)) → Type 0
PutsFresh old b new = (h : Member DiskFile) × IsFresh contents may_leave has_failed h × (new ≡ set old b (Some h))

-- ---- crashes

-- A backup goes on in a new file with this id, which holds what it held. Whatever a crash leaves of the backups' files,
-- of the new file and of the registry shows the fleet: only the registry is written meanwhile.
pub record IsRenewed (old : Members DiskFile (RegistryFile DiskFile)) (b id : ℕ) (registry : RegistryFile DiskFile)
    : Type 0 where
  pub journal : Journal DiskFile
  pub holds : IsJournalOf contents may_leave has_failed (picture_of old.list.items b) journal
  pub shows : (files : Files) → AreLeftByPut may_leave time left_of old b (device_of journal) id registry files
      → ShowsFleet (length old.list.items) (picture_of old.list.items) (noted_by old.registry).least files

-- nothing was written to the registry, or the backup goes on in another file
abbrev pub RenewsOrStays : Members DiskFile (RegistryFile DiskFile) → ℕ → ℕ → RegistryFile DiskFile → Type 0
RenewsOrStays old b id registry = (registry ≡ old.registry) ⊎ IsRenewed old b id registry

-- The same of a fleet: whatever a crash leaves shows what the fleet shows.
pub record IsRewritten (old : FleetValue DiskFile (RegistryFile DiskFile)) (b id : ℕ) (registry : RegistryFile DiskFile)
    : Type 0 where
  pub journal : Journal DiskFile
  pub holds : IsJournalOf contents may_leave has_failed ((fleet_state noted_by old).picture b) journal
  pub shows : (files : Files) → AreLeftByPut may_leave time left_of old.members b (device_of journal) id registry files
      → ShowsState (fleet_state noted_by old) files

-- nothing was written to the registry, or the backup goes on in another file
abbrev pub RewritesOrStays : FleetValue DiskFile (RegistryFile DiskFile) → ℕ → ℕ → RegistryFile DiskFile → Type 0
RewritesOrStays old b id registry = (registry ≡ old.members.registry) ⊎ IsRewritten old b id registry
