-- What a crash leaves of a registry that is to name another file.
use Rattle.std.proofs.Common.{◌≡◌, ℕ, ◌+◌, ◌∙◌, ap, length, arith, inl, inr, subst}
use Rattle.take_journal.specs.Journal.{device_of}
use Rattle.take_journal.specs.declared.journal.Journal.{Journal}
use Rattle.disk_file.specs.Disk.{contents, has_failed, history, may_leave}
use Rattle.disk_file.specs.Moments.{just_now_in}
use Rattle.disk_file.specs.Standing.{LeftSince}
use Rattle.disk_file.specs.declared.disk.DiskFile.{DiskFile}
use Rattle.registry_file.specs.declared.file.RegistryFile.{RegistryFile}
use Rattle.file_backup.specs.Mirror.{IsJournalOf}
use Rattle.file_fleet.specs.Files.{Files, Noted, ShowsFleet, with_file}
use Rattle.file_fleet.specs.Members.{picture_of}
use Rattle.file_fleet.specs.Moments.{AreLeftByPut, LeavesEither}
use Rattle.file_fleet.specs.Noting.{file_of, noted_by}
use Rattle.file_fleet.specs.NotingLaws.{in_more, sound_only}
use Rattle.file_fleet.specs.declared.members.Members.{Members}
use Rattle.file_fleet.specs.Fleet.{FleetValue, ShowsState, fleet_state}
use Rattle.store_folders.specs.Files.{IsSoundHere, RenewsOrStays, RewritesOrStays, left_of, time}

-- if nothing is written, what it keeps is left
pub stays : (r : RegistryFile DiskFile) (after : Noted) → IsSoundHere r
    → LeavesEither noted_by time left_of after r r
stays r after sound = record {
  onward = omega arith;
  each = λ left was.
      inl (sound_only contents may_leave has_failed r left sound
      (in_more (LeftSince (history (file_of r)) (time r)) (may_leave (file_of r))
      (λ file since. just_now_in (history (file_of r)) file since) left was));
}

-- the file has the next id
pub names_next : (old new : RegistryFile DiskFile) (b next id : ℕ) → id ≡ next
    → LeavesEither noted_by time left_of (with_file (noted_by old) b id) old new
    → LeavesEither noted_by time left_of (with_file (noted_by old) b next) old new
names_next old new b next id same leaves =
    subst (λ (i : ℕ). LeavesEither noted_by time left_of (with_file (noted_by old) b i) old new) same leaves

-- the backup goes on in the file with the next id
pub renewed : (old : Members DiskFile (RegistryFile DiskFile)) (b id next : ℕ) (journal : Journal DiskFile)
    (registry : RegistryFile DiskFile) → id ≡ next
    → IsJournalOf contents may_leave has_failed (picture_of old.list.items b) journal
    → ((files : Files) → AreLeftByPut may_leave time left_of old b (device_of journal) id registry files
    → ShowsFleet (length old.list.items) (picture_of old.list.items) (noted_by old.registry).least files)
    → RenewsOrStays old b next registry
renewed old b id next journal registry same holds shows =
    subst (λ (i : ℕ). RenewsOrStays old b i registry) same
    (inr (record { journal = journal; holds = holds; shows = shows }))

-- the same of a fleet with these backups
pub rewritten : (old : FleetValue DiskFile (RegistryFile DiskFile)) (m : Members DiskFile (RegistryFile DiskFile))
    (b id : ℕ) (journal : Journal DiskFile) (registry : RegistryFile DiskFile) → m ≡ old.members
    → id ≡ (noted_by m.registry).file b + 1
    → IsJournalOf contents may_leave has_failed (picture_of m.list.items b) journal
    → ((files : Files) → AreLeftByPut may_leave time left_of old.members b (device_of journal) id registry files
    → ShowsState (fleet_state noted_by old) files)
    → RewritesOrStays old b ((noted_by old.members.registry).file b + 1) registry
rewritten old m b id journal registry same next holds shows =
    subst (λ (i : ℕ). RewritesOrStays old b i registry)
    (next ∙ ap (λ (k : Members DiskFile (RegistryFile DiskFile)). (noted_by k.registry).file b + 1) same)
    (inr (record {
      journal = journal;
      holds = subst (λ (k : Members DiskFile (RegistryFile DiskFile)).
          IsJournalOf contents may_leave has_failed (picture_of k.list.items b) journal) same holds;
      shows = shows;
    }))
