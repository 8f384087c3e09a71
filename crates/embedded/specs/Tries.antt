-- What the parts of a command make of a master.
use Rattle.std.specs.Prelude.{◌≡◌, ◌⊎◌, ◌<◌, ℕ, [], length}
use Rattle.versioned_map.specs.declared.command.Command.{Command}
use Rattle.versioned_map.specs.declared.command.Reply.{Reply as MapReply}
use Rattle.recovery.specs.driving.Served.{LivesOn, record_of}
use Rattle.recovery.specs.master.log_laws.Data.{durable_of}
use Rattle.recovery.specs.master.master_state.Data.{MasterData}
use Rattle.recovery.specs.master.master_state.Forgetting.{ForgetsTo}
use Rattle.recovery.specs.master.master_state.Log.{log_of}
use Rattle.embedded.specs.declared.carrying.Tried.{Tried}
use Rattle.embedded.specs.declared.carrying.Tried.TheVariants as tried

-- the command has one record, which is the last, at this place
pub record IsApplied (old : MasterData) (command : Command) (place : ℕ) (new : MasterData) : Type 0 where
  pub reply : MapReply
  pub lives : LivesOn old new (record_of command reply)
  pub last : place ≡ length old.history

-- what came of a command that was tried
abbrev pub HasTried : MasterData → Command → Tried → MasterData → Type 0
HasTried old command (tried.Done place) new =
    IsApplied old command place new × (length old.history < durable_of (log_of new))
HasTried old command (tried.Refused why) new = LivesOn old new []
HasTried old command (tried.Unsure place why) new = IsApplied old command place new

-- the master forgot some durable records, or none, and nothing else changed
abbrev pub MayForget : MasterData → MasterData → Type 0
MayForget old new = (new ≡ old) ⊎ ForgetsTo (length old.history) old new
