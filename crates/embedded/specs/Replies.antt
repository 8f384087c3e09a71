-- What a reply of a store means for the history of its master.
use Rattle.std.specs.Prelude.{◌≡◌, ◌≤◌, ◌<◌, ℕ, List, [], ◌++◌, length, Option, Some, None, slice_get}
use Rattle.std.specs.Prelude.{nat_lt, if◌then◌else◌}
use Rattle.std.specs.Option.{option_map}
use Rattle.versioned_map.specs.declared.command.Command.{Command}
use Rattle.versioned_map.specs.declared.command.Record.{Record}
use Rattle.versioned_map.specs.declared.command.Reply.{Reply as MapReply}
use Rattle.versioned_map.specs.declared.command.Reply.TheVariants as said
use Rattle.recovery.specs.driving.Served.{record_of}
use Rattle.recovery.specs.master.log_laws.Data.{durable_of}
use Rattle.recovery.specs.master.master_state.Data.{MasterData}
use Rattle.recovery.specs.master.master_state.Log.{log_of}
use Rattle.recovery.specs.master.master_state.declared.step.Refusal.{Refusal}
use Rattle.recovery.specs.master.master_state.declared.step.Refusal.TheVariants as refusal
use Rattle.embedded.specs.declared.reply.Reply.{Reply}
use Rattle.embedded.specs.declared.reply.Status.{Status}
use Rattle.embedded.specs.declared.reply.Status.TheVariants as status

-- ---- what is answered

-- the number of a refusal
abbrev pub number_of : Refusal → ℕ
number_of refusal.TooBig = 1
number_of refusal.Full = 2
number_of refusal.VersionsSpent = 3
number_of refusal.HistoryFull = 4
number_of refusal.NoMemory = 5
number_of refusal.Halted = 6
number_of refusal.Rolling = 7
number_of refusal.Nothing = 8
number_of (refusal.Pass f) = 9
number_of refusal.Spent = 10
number_of refusal.SegmentsSpent = 11
number_of refusal.NoTablet = 12
number_of (refusal.Lost b) = 13
number_of refusal.Overcommit = 14

-- the status of what the versioned map replies
abbrev pub status_of : MapReply → Status
status_of (said.Found version value) = status.Ok
status_of said.None = status.None
status_of (said.Ok version) = status.Ok
status_of (said.Mismatch version) = status.Mismatch

-- the version in what the versioned map replies, or 0
abbrev pub version_of : MapReply → ℕ
version_of (said.Found version value) = version
version_of said.None = 0
version_of (said.Ok version) = version
version_of (said.Mismatch None) = 0
version_of (said.Mismatch (Some version)) = version

abbrev pub answer_of : ℕ → Status → ℕ → Reply
answer_of place s version = record { status = s; refusal = 0; version = version; place = place }

abbrev pub answered : ℕ → MapReply → Reply
answered place reply = answer_of place (status_of reply) (version_of reply)

abbrev pub refused : Refusal → Reply
refused r = record { status = status.Refused; refusal = number_of r; version = 0; place = 0 }

abbrev pub unsure : ℕ → Refusal → Reply
unsure place r = record { status = status.Unsure; refusal = number_of r; version = 0; place = place }

abbrev pub no_master : Reply
no_master = record { status = status.Refused; refusal = 0; version = 0; place = 0 }

abbrev pub too_big : Reply
too_big = record { status = status.Refused; refusal = 1; version = 0; place = 0 }

-- ---- what it means

-- The master goes on: its configuration and the table that it began with are the same, as much is durable or more, and
-- its history has these records more.
pub record GoesOn (old new : MasterData) (more : List Record) : Type 0 where
  pub config : new.config ≡ old.config
  pub origin : new.origin ≡ old.origin
  pub durable : durable_of (log_of old) ≤ durable_of (log_of new)
  pub history : new.history ≡ old.history ++ more

-- the reply of the record at this place, unless it was forgotten
abbrev pub kept_reply : MasterData → ℕ → Option MapReply
kept_reply d place =
    if nat_lt place d.forgotten then None else option_map (λ (r : Record). r.reply) (slice_get d.history place)

-- the record at this place has this reply, and isn't forgotten
abbrev pub IsReadAt : MasterData → ℕ → MapReply → Type 0
IsReadAt d place reply = kept_reply d place ≡ Some reply

-- The command has one record, with this reply. It is the last of the history, it is durable, and it can be read.
pub record IsAnswered (old : MasterData) (command : Command) (r : Reply) (new : MasterData) : Type 0 where
  pub reply : MapReply
  pub told : r ≡ answered (length old.history) reply
  pub goes_on : GoesOn old new (record_of command reply)
  pub durable : length old.history < durable_of (log_of new)
  pub kept : new.forgotten ≤ length old.history

-- The command has no record.
pub record IsRefused (old : MasterData) (r : Reply) (new : MasterData) : Type 0 where
  pub why : Refusal
  pub told : r ≡ refused why
  pub goes_on : GoesOn old new []

-- The command has one record, which is the last of the history. It was not known to be durable.
pub record IsUnsure (old : MasterData) (command : Command) (r : Reply) (new : MasterData) : Type 0 where
  pub why : Refusal
  pub reply : MapReply
  pub told : r ≡ unsure (length old.history) why
  pub goes_on : GoesOn old new (record_of command reply)

-- what a status means
abbrev pub MeansBy : Status → MasterData → Command → Reply → MasterData → Type 0
MeansBy status.Ok old command r new = IsAnswered old command r new
MeansBy status.None old command r new = IsAnswered old command r new
MeansBy status.Mismatch old command r new = IsAnswered old command r new
MeansBy status.Refused old command r new = IsRefused old r new
MeansBy status.Unsure old command r new = IsUnsure old command r new

-- what the reply to a command means
abbrev pub Means : MasterData → Command → Reply → MasterData → Type 0
Means old command r new = MeansBy r.status old command r new
