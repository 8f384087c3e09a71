-- What a crash leaves of the files of a fleet.
use Rattle.std.specs.Prelude.{◌≡◌, ◌⊎◌, ◌≤◌, ℕ, List, Option, Some, length}
use Rattle.std.specs.List.{slice_get}
use Rattle.replica.specs.Op.{OpValue}
use Rattle.replica.specs.Picture.{Picture}
use Rattle.replica.specs.Registry.{with_least}
use Rattle.file_backup.specs.Replay.{Replicas}
use Rattle.file_fleet.specs.Members.{TakesOn, device_at, with_backup}
use Rattle.file_fleet.specs.Files.{Files, Noted, ShowsFleet}
use Rattle.file_fleet.specs.declared.member.Member.{Member}
use Rattle.file_fleet.specs.declared.members.Members.{Members}

-- A crash amid a call of a registry leaves what it noted before the call, or this.
pub record LeavesEither {R : Type 0} (noted : R → Noted) (clock : R → ℕ) (left_since : R → ℕ → Noted → Type 0)
    (after : Noted) (old new : R) : Type 0 where
  pub onward : clock old ≤ clock new
  pub each : (left : Noted) → left_since new (clock old) left → (left ≡ noted old) ⊎ (left ≡ after)

-- Each of these files is one that its disk may have after a crash right now.
pub record AreLeftNow {D R : Type 0} (may_leave : D → List ℕ → Type 0) (leaves : R → Noted → Type 0)
    (f : Members D R) (files : Files) : Type 0 where
  pub journals : (b : ℕ) (h : Member D) → slice_get f.list.items b ≡ Some h
      → may_leave (device_at h) (files.journal b h.id)
  pub registry_is : leaves f.registry files.registry

-- Each of these files is one that its disk may have had after a crash at some moment of a call, which begins at the
-- old fleet and ends at the new one.
pub record AreLeftAmid {D R : Type 0} (clock : D → ℕ) (left_since : D → ℕ → List ℕ → Type 0) (time : R → ℕ)
    (left_of : R → ℕ → Noted → Type 0) (old new : Members D R) (files : Files) : Type 0 where
  pub journals : (b : ℕ) (h i : Member D) → slice_get old.list.items b ≡ Some h → slice_get new.list.items b ≡ Some i
      → left_since (device_at i) (clock (device_at h)) (files.journal b h.id)
  pub registry_is : left_of new.registry (time old.registry) files.registry

-- Each of these files is one that its disk may have had after a crash at some moment of a call that gives a backup
-- another file, with this id. Only the registry is written meanwhile.
pub record AreLeftByPut {D R : Type 0} (may_leave : D → List ℕ → Type 0) (time : R → ℕ)
    (left_of : R → ℕ → Noted → Type 0)
    (old : Members D R) (b : ℕ) (device : D) (id : ℕ) (registry : R) (files : Files) : Type 0 where
  pub journals : (c : ℕ) (h : Member D) → slice_get old.list.items c ≡ Some h
      → may_leave (device_at h) (files.journal c h.id)
  pub next_is : may_leave device (files.journal b id)
  pub registry_is : left_of registry (time old.registry) files.registry

-- the files show the backups, or they show this one instead in its place
abbrev pub ShowsPut : ℕ → Picture → (ℕ → ℕ) → ℕ → Replicas → Files → Type 0
ShowsPut backups picture least b p files = ShowsFleet backups picture least files
    ⊎ ShowsFleet backups (with_backup picture b p) least files

-- the files show the backups before this take, or after it
abbrev pub ShowsTake : ℕ → Picture → (ℕ → ℕ) → ℕ → OpValue → Files → Type 0
ShowsTake backups picture least b op files = ShowsFleet backups picture least files
    ⊎ ((p : Picture) × TakesOn backups picture b op p × ShowsFleet backups p least files)

-- the files show the backups, with the least heads from before this raise, or from after it
abbrev pub ShowsRaise : ℕ → Picture → (ℕ → ℕ) → ℕ → ℕ → Files → Type 0
ShowsRaise backups picture least master id files = ShowsFleet backups picture least files
    ⊎ ShowsFleet backups picture (with_least least master id) files

-- the files show the backups, and a recovery is for the master that was named before, or for this one
abbrev pub ShowsNaming : ℕ → Picture → (ℕ → ℕ) → Option ℕ → ℕ → Files → Type 0
ShowsNaming backups picture least before master files = ShowsFleet backups picture least files
    × ((files.registry.master ≡ before) ⊎ (files.registry.master ≡ Some master))
