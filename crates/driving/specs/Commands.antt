-- What a command's line makes of a master and its fleet: these steps, in this order, and no other.
use Rattle.std.specs.Prelude.{◌≡◌, ◌⊎◌, ◌<◌, ◌≤◌, ℕ, zero, suc, false, Result, Ok, Err}
use Rattle.versioned_map.specs.declared.command.Command.{Command}
use Rattle.versioned_map.specs.declared.command.Reply.{Reply}
use Rattle.master.specs.log_laws.Data.{durable_of}
use Rattle.master.specs.master_state.declared.step.Refusal.{Refusal}
use Rattle.master.specs.master_state.declared.step.Refusal.TheVariants.{Rolling}
use Rattle.master.specs.master_state.declared.step.Step.TheVariants.{Apply, Push}
use Rattle.master.specs.master_state.declared.step.StepAnswer.TheVariants.{Applied}
use Rattle.master.specs.master_state.Log.{log_of}
use Rattle.master.specs.Steps.{Accepts, Declines}
use Rattle.master.specs.World.{World}
use Rattle.driving.specs.Rolls.{Advances, Rolls, is_lost}

-- ---- pushes for a record

-- the record at this place is durable
abbrev pub IsDurable : ℕ → World → Type 0
IsDurable place w = place < durable_of (log_of w.knows)

-- the record at this place is not durable yet
abbrev pub IsAwaited : ℕ → World → Type 0
IsAwaited place w = durable_of (log_of w.knows) ≤ place

-- this many pushes were made, one after another, each while the record was not durable
abbrev pub ArePushedFor : ℕ → ℕ → World → World → Type 0
ArePushedFor place zero old new = new ≡ old
ArePushedFor place (suc count) old new = (mid : World) × ArePushedFor place count old mid
    × IsAwaited place mid × Advances Push mid new

-- pushes were made until the record was durable
abbrev pub PushesTo : ℕ → World → World → Type 0
PushesTo place old new = (count : ℕ) × ArePushedFor place count old new × IsDurable place new

-- pushes were made until one was refused for good, before the record was durable
abbrev pub StopsShort : ℕ → World → Refusal → World → Type 0
StopsShort place old r new = (count : ℕ) × (mid : World) × ArePushedFor place count old mid
    × IsAwaited place mid × Declines mid Push r new × (is_lost r ≡ false)

-- ---- one try

-- The command was applied by seat 0, and its record was pushed until it was durable.
pub record IsCarriedOut (old : World) (command : Command) (reply : Reply) (new : World) : Type 0 where
  pub place : ℕ
  pub mid : World
  pub applied : Accepts old (Apply 0 command) (Applied place reply) mid
  pub pushed : PushesTo place mid new

-- The command was applied, and a push was refused before its record was durable.
pub record IsCutShort (old : World) (command : Command) (r : Refusal) (new : World) : Type 0 where
  pub place : ℕ
  pub reply : Reply
  pub mid : World
  pub applied : Accepts old (Apply 0 command) (Applied place reply) mid
  pub pushed : StopsShort place mid r new

-- A command is tried: it is carried out, or refused, or cut short.
abbrev pub Tries : World → Command → Result Reply Refusal → World → Type 0
Tries old command (Ok reply) new = IsCarriedOut old command reply new
Tries old command (Err r) new = Declines old (Apply 0 command) r new ⊎ IsCutShort old command r new

-- ---- a line

-- Either a roll was made, and then the command was tried, or the roll was refused, and nothing was tried.
abbrev pub TriesAfterRoll : World → Command → Result Reply Refusal → World → Type 0
TriesAfterRoll old command result new =
    ((head : ℕ) × (mid : World) × Rolls old (Ok head) mid × Tries mid command result new)
    ⊎ ((r : Refusal) × (result ≡ Err r) × Rolls old (Err r) new)

-- A command's line: the command is tried once. If the try is refused as Rolling, a roll is made, and it is tried
-- again.
abbrev pub RunsCommand : World → Command → Result Reply Refusal → World → Type 0
RunsCommand old command result new =
    (Tries old command result new × (result ≡ Err Rolling → ⊥))
    ⊎ (Declines old (Apply 0 command) Rolling old × TriesAfterRoll old command result new)
