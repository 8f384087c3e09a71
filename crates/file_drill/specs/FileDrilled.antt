-- The headline across a power cut. A master took steps over files. Each device might fail at any call, and at one of
-- them the power was cut. The next start opened what the crash left of the files, and recovered the master.
use Rattle.std.specs.Prelude.{◌≡◌, ℕ, List, length}
use Rattle.tablet_will.specs.declared.part.Part.{Part}
use Rattle.recovery.specs.replay.rebuilding.declared.order.GroupOrder.{GroupOrder}
use Rattle.replica.specs.Picture.{FleetState}
use Rattle.file_fleet.specs.Files.{Files}
use Rattle.file_fleet.specs.Fleet.{ShowsState}
use Rattle.file_fleet.specs.Noting.{noted_by}
use Rattle.fleet_start.specs.Found.{AreRead, is_found}
use Rattle.crash_fleet.specs.Images.{images_of}
use Rattle.crash_fleet.specs.Opened.{AreKept}
use Rattle.crash_fleet.specs.State.{CrashValue, crash_state}
use Rattle.recovery.specs.master.master_state.declared.step.Step.{Step}
use Rattle.recovery.specs.master.World.{MasterValue, World, world}
use Rattle.recovery.specs.AtStart.{at_start}
use Rattle.recovery.specs.Drilled.{IsTold}
use Rattle.recovery.specs.Headline.{Headline}
use Rattle.file_drill.specs.declared.drill.FileDrill.{FileDrill}

-- the master and its fleet before the first step
abbrev pub start_of : {D : Type 0} → (D → List ℕ) → MasterValue (CrashValue D) → World
start_of image master = world (crash_state image) master

-- the fleet as the crash left it
abbrev pub left_by : {D : Type 0} → (D → List ℕ) → FileDrill D → FleetState
left_by image d = crash_state image d.fleet

-- the files as the crash left them
abbrev pub files_of : {D : Type 0} → (D → List ℕ) → FileDrill D → Files
files_of image d = images_of image d.fleet.files.members

-- What a drill says of this master and of these files.
pub record HasFileHeadline {D : Type 0} (image : D → List ℕ) (master : MasterValue (CrashValue D)) (steps : List Step)
    (kept : List ℕ) (will : List Part) (order : GroupOrder) (d : FileDrill D) : Type 0 where
  -- the files that the crash left show the fleet that the headline speaks of
  pub left : ShowsState (left_by image d) (files_of image d)
  -- the start opened these files, for as many backups as there were: of the backups in 'kept', and of no other
  pub opened : AreRead (noted_by d.found.registry) d.found.places.items (files_of image d)
  pub backups : length d.found.places.items ≡ (left_by image d).backups
  pub kept_found : AreKept kept d.found.places.items
  -- as it stopped, the master told how many commands were durable, and how many pushes an open failover still needed
  pub told : IsTold (start_of image master) steps d.answers.items d.durable d.pushes_left (left_by image d)
  -- and the headline is true of what was recovered: exactly the map after a prefix of the commands that holds every
  -- acknowledged one, or a refusal that names a lost head or segment, and never such a refusal where both survive
  pub headline : Headline (at_start (start_of image master)) steps d.answers.items d.durable d.pushes_left
      (left_by image d) (is_found d.found.places.items) will order d.recovered
