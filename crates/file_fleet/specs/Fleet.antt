-- A fleet of backups with files, as the contract of a fleet sees it.
use Rattle.std.specs.Prelude.{◌≡◌, ◌⊎◌, ◌≤◌, ℕ, List, length}
use Rattle.replica.specs.Op.{OpValue}
use Rattle.replica.specs.Picture.{Ack, FleetState}
use Rattle.replica.specs.Registry.{Raises}
use Rattle.replica.specs.Take.{Takes}
use Rattle.file_fleet.specs.Files.{Files, Noted, ShowsFleet}
use Rattle.file_fleet.specs.Members.{AreSafe, picture_of}
use Rattle.file_fleet.specs.declared.members.Members.{Members}

-- what a clause sees of a fleet
pub record FleetValue (D R : Type 0) : Type 0 where
  pub members : Members D R
  pub takes : ℕ
  pub end : ℕ
  pub faults : ℕ
  pub acks : List Ack

abbrev pub fleet_state : {D R : Type 0} → (R → Noted) → FleetValue D R → FleetState
fleet_state noted v = record {
  backups = length v.members.list.items;
  picture = picture_of v.members.list.items;
  takes = v.takes;
  end = v.end;
  faults = v.faults;
  least = (noted v.members.registry).least;
  acks = v.acks;
}

-- the files show this state of a fleet
abbrev pub ShowsState : FleetState → Files → Type 0
ShowsState f files = ShowsFleet f.backups f.picture f.least files

-- what a call does to a fleet if it is taken: an op of a backup, or a raise
abbrev pub Deed : Type 1
Deed = FleetState → FleetState → Type 0

abbrev pub TakesOp : ℕ → OpValue → Deed
TakesOp b op = λ old new. Takes old b op new

abbrev pub TakesRaise : ℕ → ℕ → Deed
TakesRaise master id = λ old new. Raises old master id new

-- the files show the fleet as it was, or as it is once it has done this
abbrev pub ShowsBetween : FleetState → Deed → Files → Type 0
ShowsBetween old Does files = ShowsState old files ⊎ ((mid : FleetState) × Does old mid × ShowsState mid files)
