-- What a driven master goes on with: the records that were added, and what became of a command.
use Rattle.std.specs.Prelude.{◌≡◌, ◌⊎◌, ◌<◌, ◌≤◌, ℕ, List, [], ◌∷◌, ◌++◌, Bool, true, false, Some, Ok, length}
use Rattle.replica.specs.Picture.{FleetState}
use Rattle.versioned_map.specs.declared.command.Command.{Command}
use Rattle.versioned_map.specs.declared.command.Record.{Record}
use Rattle.versioned_map.specs.declared.command.Reply.{Reply}
use Rattle.master.specs.log_laws.Data.{durable_of}
use Rattle.master.specs.master_state.declared.step.Refusal.{Refusal}
use Rattle.master.specs.master_state.declared.step.Refusal.TheVariants as refusal
use Rattle.master.specs.master_state.declared.step.Refusal.TheVariants.{NoMemory}
use Rattle.master.specs.master_state.Causes.{command_refusal}
use Rattle.master.specs.master_state.Data.{MasterData}
use Rattle.master.specs.master_state.Log.{log_of}
use Rattle.master.specs.Valid.{IsValid}
use Rattle.master.specs.World.{World}
use Rattle.driving.specs.Commands.{StopsShort, Tries}

-- the refusals that a push may give while something waits to be pushed
abbrev pub is_of_push : Refusal → Bool
is_of_push refusal.Halted = true
is_of_push refusal.Spent = true
is_of_push refusal.NoMemory = true
is_of_push _ = false

-- the master goes on: its configuration is the same, as much is durable or more, its history has these records more,
-- and it forgot none
pub record LivesOn (old new : MasterData) (more : List Record) : Type 0 where
  pub config : new.config ≡ old.config
  pub origin : new.origin ≡ old.origin
  pub durable : durable_of (log_of old) ≤ durable_of (log_of new)
  pub history : new.history ≡ old.history ++ more
  pub forgotten : new.forgotten ≡ old.forgotten

-- a master that is loaded goes on: its configuration is the same, and it has loaded the same
pub record StaysLoaded (old new : MasterData) : Type 0 where
  pub config : new.config ≡ old.config
  pub origin : new.origin ≡ old.origin

abbrev pub record_of : Command → Reply → List Record
record_of command reply = record { seat = 0; command = command; reply = reply } ∷ []

-- the fleet takes no more ops
abbrev pub IsSpent : FleetState → Type 0
IsSpent f = f.takes ≡ f.end

-- the command was served: its record was added, and is durable
abbrev pub IsServed : MasterData → MasterData → Command → Reply → Type 0
IsServed old new command reply =
    LivesOn old new (record_of command reply) × (length old.history < durable_of (log_of new))

-- The command was served, by these steps and no other, and its record, which has the reply, is at this place.
pub record IsServedAt (old : World) (command : Command) (at : ℕ) (new : World) : Type 0 where
  pub reply : Reply
  pub served : IsServed old.knows new.knows command reply
  pub tried : Tries old command (Ok reply) new
  pub place : at ≡ length old.knows.history

-- The command's record was added, and pushes were made until one was refused, though something waited.
pub record IsUnpushed (old : MasterData) (command : Command) (r : Refusal) (new : World) : Type 0 where
  pub reply : Reply
  pub place : ℕ
  pub mid : World
  pub applied : LivesOn old mid.knows (record_of command reply)
  pub valid : IsValid mid.knows mid.fleet
  pub goes_on : LivesOn mid.knows new.knows []
  pub pushed : StopsShort place mid r new
  pub waits : is_of_push r ≡ true

-- The command was not answered. Either a test refused it or memory ran out, and no record was added, or its record was
-- added, and a push was refused.
abbrev pub IsUnserved : MasterData → Command → Refusal → World → Type 0
IsUnserved old command r new =
    (LivesOn old new.knows [] × ((r ≡ NoMemory) ⊎ (command_refusal old command ≡ Some r)))
    ⊎ IsUnpushed old command r new
