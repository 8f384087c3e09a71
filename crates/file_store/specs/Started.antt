-- A store whose backups have files: how it begins, and what its calls mean.
use Rattle.std.specs.Prelude.{◌≡◌, ◌⊎◌, ◌<◌, ℕ, None, Some}
use Rattle.replica.specs.Picture.{Picture}
use Rattle.versioned_map.specs.declared.command.Command.{Command}
use Rattle.file_fleet.specs.Files.{Noted}
use Rattle.file_fleet.specs.Fleet.{FleetValue, fleet_state}
use Rattle.recovery.specs.claims.declared.rebuilt.Rebuilt.{Rebuilt}
use Rattle.recovery.specs.master.Valid.{IsValid}
use Rattle.recovery.specs.master.World.{MasterValue}
use Rattle.recovery.specs.master.master_state.Data.{MasterData}
use Rattle.recovery.specs.replay.Adopting.{IsAdopted}
use Rattle.embedded.specs.Options.{config_of}
use Rattle.embedded.specs.Replies.{Means, too_big}
use Rattle.embedded.specs.declared.options.Options.{Options}
use Rattle.embedded.specs.declared.reply.Reply.{Reply}

-- no replica on so many backups is of a master with a greater number
abbrev pub AreUpTo : Picture → ℕ → ℕ → Type 0
AreUpTo p backups last = (b n s : ℕ) → b < backups → last < n → p b n s ≡ None

-- The master adopted the table: it has nothing else, and its head is open. The registry names it, so a start recovers
-- it.
pub record IsStarted {D R : Type 0} (noted : R → Noted) (o : Options) (table : Rebuilt)
    (m : MasterValue (FleetValue D R)) : Type 0 where
  pub adopted : IsAdopted (config_of o m.knows.config.master) table m.knows
  pub named : (noted m.fleet.members.registry).master ≡ Some m.knows.config.master
  pub valid : IsValid m.knows (fleet_state noted m.fleet)

-- a command with such a key and value is carried out; any other is refused as too big, and nothing changed
abbrev pub CarriesOutIf : Type 0 → MasterData → Command → Reply → MasterData → Type 0
CarriesOutIf Fits old command r new = (Fits × Means old command r new)
    ⊎ ((Fits → ⊥) × (r ≡ too_big) × (new ≡ old))
