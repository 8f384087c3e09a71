-- A fleet in memory or one with files, as the contract of a fleet sees it.
use Rattle.replica.specs.Picture.{FleetState}
use Rattle.backup.specs.State.{fleet_state as state_in_memory}
use Rattle.file_fleet.specs.Files.{Noted}
use Rattle.file_fleet.specs.Fleet.{fleet_state as state_in_files}
use Rattle.fleets.specs.declared.fleets.Fleets.{Fleets}
use Rattle.fleets.specs.declared.fleets.Fleets.TheVariants.{Files, Memory}

abbrev pub fleet_state : {D R : Type 0} → (R → Noted) → Fleets D R → FleetState
fleet_state noted (Memory fleet) = state_in_memory fleet
fleet_state noted (Files fleet) = state_in_files noted fleet
