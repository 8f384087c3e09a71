-- A fleet whose power may be cut, as the contract of a fleet sees it.
use Rattle.std.specs.Prelude.{◌≡◌, ◌⊎◌, ◌+◌, ℕ, Bool, List, length, false, true, ⊤}
use Rattle.replica.specs.Picture.{FleetState}
use Rattle.registry_file.specs.declared.file.RegistryFile.{RegistryFile}
use Rattle.file_fleet.specs.Files.{Noted}
use Rattle.file_fleet.specs.Fleet.{FleetValue, ShowsState, fleet_state}
use Rattle.file_fleet.specs.Members.{picture_of}
use Rattle.file_fleet.specs.Noting.{noted_by}
use Rattle.crash_fleet.specs.Images.{imaged, images_of}
use Rattle.crash_fleet.specs.declared.power.Power.{Power}
use Rattle.crash_fleet.specs.declared.power.Power.TheVariants.{Cut, On, Unread}

-- what a clause sees of a fleet
pub record CrashValue (D : Type 0) : Type 0 where
  pub files : FleetValue D (RegistryFile D)
  pub power : Power D

-- While the power is on, the fleet's state is that of its files. Once it is cut, its backups hold what the images of
-- their files show, and the least heads are those of the registry's.
abbrev pub state_under : {D : Type 0} → (D → List ℕ) → FleetValue D (RegistryFile D) → Power D → FleetState
state_under image v On = fleet_state (λ r. noted_by r) v
state_under image v Unread = fleet_state (λ r. noted_by r) v
state_under image v (Cut registry takes) = record {
  backups = length v.members.list.items;
  picture = imaged image v.members;
  takes = takes;
  end = v.end;
  faults = v.faults;
  least = (noted_by registry).least;
  acks = v.acks;
}

abbrev pub crash_state : {D : Type 0} → (D → List ℕ) → CrashValue D → FleetState
crash_state image v = state_under image v.files v.power

-- What is true of it: as long as the power is on the fleet isn't halted, and once it is cut, the images show the state.
abbrev pub IsUnder : {D : Type 0} → (D → List ℕ) → FleetValue D (RegistryFile D) → Power D → Type 0
IsUnder image v On = v.members.is_halted ≡ false
IsUnder image v Unread = ⊤
IsUnder image v (Cut registry takes) = ShowsState (state_under image v (Cut registry takes)) (images_of image v.members)

-- it is known what the images show
abbrev pub was_read : {D : Type 0} → Power D → Bool
was_read On = true
was_read Unread = false
was_read (Cut registry takes) = true

-- ---- reading the images

-- Whether the images have the op amid which the power was cut: what they show of its backup tells.
pub record ReadsTake {D : Type 0} (image : D → List ℕ) (v : FleetValue D (RegistryFile D)) (b : ℕ)
    (registry : RegistryFile D) (takes : ℕ) : Type 0 where
  pub notes : (images_of image v.members).registry ≡ noted_by registry
  pub counts : ((imaged image v.members b ≡ picture_of v.members.list.items b) × (takes ≡ v.takes))
      ⊎ ((imaged image v.members b ≡ picture_of v.members.list.items b → ⊥) × (takes ≡ v.takes + 1))

-- Whether the images have the raise amid which the power was cut: the master's least head tells.
pub record ReadsRaise {D : Type 0} (image : D → List ℕ) (v : FleetValue D (RegistryFile D)) (master : ℕ)
    (registry : RegistryFile D) (takes : ℕ) : Type 0 where
  pub notes : (images_of image v.members).registry ≡ noted_by registry
  pub counts : (((noted_by registry).least master ≡ (noted_by v.members.registry).least master) × (takes ≡ v.takes))
      ⊎ (((noted_by registry).least master ≡ (noted_by v.members.registry).least master → ⊥) × (takes ≡ v.takes + 1))

-- what was read, if it was
abbrev pub IsRead : {D : Type 0} → (RegistryFile D → ℕ → Type 0) → Power D → Type 0
IsRead Reads On = ⊥
IsRead Reads Unread = ⊤
IsRead Reads (Cut registry takes) = Reads registry takes
