-- What a start finds of crash images.
use Rattle.std.specs.Prelude.{◌≡◌, ◌↔◌, ◌<◌, ℕ, Bool, true, List, [], ◌∷◌, ◌++◌, length, Contains, Option, Some}
use Rattle.file_fleet.specs.Files.{Noted, ShowsUnder}
use Rattle.file_fleet.specs.Members.{device_at, replicas_at}
use Rattle.file_fleet.specs.declared.member.Member.{Member}
use Rattle.fleet_start.specs.Found.{is_found, was_found}

-- The image of the next backup's file was opened, if that backup is kept.
pub record IsOpened {D : Type 0} (image : D → List ℕ) (noted : Noted) (left : Member D) (is_kept : Bool)
    (old new : List (Option (Member D))) : Type 0 where
  pub place : Option (Member D)
  pub added : new ≡ old ++ place ∷ []
  pub found : was_found (Some place) ≡ is_kept
  pub shows : (h : Member D) → place ≡ Some h
      → ShowsUnder (noted.span (length old)) (replicas_at h) (image (device_at left))

-- just the backups on this list were found
abbrev pub AreKept : {D : Type 0} → List ℕ → List (Option (Member D)) → Type 0
AreKept kept places = (b : ℕ) → b < length places → (is_found places b ≡ true) ↔ Contains kept b
