-- What a start finds of a fleet: its registry, and of each backup the file that the registry names, if it is there.
use Rattle.std.specs.Prelude.{◌≡◌, ℕ, Bool, true, false, List, length, Option, Some, None}
use Rattle.std.specs.List.{slice_get}
use Rattle.replica.specs.Picture.{FleetState, Picture, Replica, left_on}
use Rattle.file_fleet.specs.Files.{Files, Noted, ShowsUnder, named}
use Rattle.file_fleet.specs.Fleet.{ShowsState}
use Rattle.file_fleet.specs.Members.{IsMember, IsUnder, replicas_at}
use Rattle.file_fleet.specs.declared.member.Member.{Member}

-- the file of this backup was found
abbrev pub was_found : {D : Type 0} → Option (Option (Member D)) → Bool
was_found None = false
was_found (Some None) = false
was_found (Some (Some h)) = true

abbrev pub is_found : {D : Type 0} → List (Option (Member D)) → ℕ → Bool
is_found places b = was_found (slice_get places b)

-- the replica of a master's segment that a found backup holds
abbrev pub replica_in : {D : Type 0} → Option (Option (Member D)) → ℕ → ℕ → Option Replica
replica_in None m s = None
replica_in (Some None) m s = None
replica_in (Some (Some h)) m s = replicas_at h m s

-- what the found backups hold
abbrev pub picture_found : {D : Type 0} → List (Option (Member D)) → Picture
picture_found places = λ b m s. replica_in (slice_get places b) m s

-- Each backup that was found goes on in the file that the registry names, or shows as much of it as counts. The
-- registry's own file is on the disk.
pub record AreFound {D R : Type 0} (contents : D → List ℕ) (may_leave : D → List ℕ → Type 0) (has_failed : D → Bool)
    (noted : R → Noted) (is_sound : R → Type 0) (places : List (Option (Member D))) (registry : R) : Type 0 where
  pub registry_is : is_sound registry
  pub each : (b : ℕ) (h : Member D) → slice_get places b ≡ Some (Some h)
      → IsMember contents may_leave has_failed h × IsUnder may_leave ((noted registry).span b) h
  pub named : (b : ℕ) (h : Member D) → slice_get places b ≡ Some (Some h) → (noted registry).file b ≡ h.id

-- These are the files that were read: the registry's keeps this, and each found backup's shows what the backup holds.
pub record AreRead {D : Type 0} (noted : Noted) (places : List (Option (Member D))) (files : Files) : Type 0 where
  pub registry_is : files.registry ≡ noted
  pub each : (b : ℕ) (h : Member D) → slice_get places b ≡ Some (Some h)
      → ShowsUnder (noted.span b) (replicas_at h) (named files b)

-- Say the files that were read show a fleet, of as many backups. Then the backups that were found hold what that fleet
-- holds on them, and the least heads are that fleet's.
pub record IsLeftOf {D : Type 0} (noted : Noted) (places : List (Option (Member D))) (f : FleetState) : Type 0 where
  pub picture : picture_found places ≡ left_on (is_found places) f.picture
  pub least : noted.least ≡ f.least

abbrev pub FindsWhatIsLeft : {D : Type 0} → Noted → List (Option (Member D)) → Type 0
FindsWhatIsLeft noted places = (f : FleetState) (files : Files) → ShowsState f files
    → f.backups ≡ length places → AreRead noted places files → IsLeftOf noted places f
