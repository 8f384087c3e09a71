-- Commands of a master that cleans itself.
use Rattle.std.specs.Prelude.{◌≡◌, ◌⊎◌, ℕ, zero, suc, ◌≤◌, Bool, true, false, Some, Result, Ok, Err}
use Rattle.backup.specs.State.{fleet_state}
use Rattle.lines.specs.Grammar.{LineValue}
use Rattle.versioned_map.specs.declared.command.Command.{Command}
use Rattle.versioned_map.specs.declared.command.Command.TheVariants.{Put, Get, Delete}
use Rattle.versioned_map.specs.declared.command.Reply.{Reply}
use Rattle.answers.specs.driving.master.master_state.declared.config.Config.{Config}
use Rattle.answers.specs.driving.master.master_state.declared.step.Refusal.{Refusal}
use Rattle.answers.specs.driving.master.master_state.declared.step.Refusal.TheVariants.{Full}
use Rattle.answers.specs.driving.master.master_state.Data.{MasterData}
use Rattle.answers.specs.driving.master.World.{World, world}
use Rattle.answers.specs.driving.Commands.{RunsCommand}
use Rattle.answers.specs.declared.answer.Answer.{Answer}
use Rattle.answers.specs.declared.answer.Answer.TheVariants as answers
use Rattle.cluster.specs.declared.node.Node.{Node}
use Rattle.cluster.specs.declared.node.Node.TheVariants.{Up}
use Rattle.cluster.specs.Lives.{Position}
use Rattle.cluster.specs.Served.{AnswersLine, IsLeftIn, IsNodeAt, MakesCommand, reply_told, world_of}
use Rattle.cluster.specs.Told.{command_of}
use Rattle.cluster.specs.Waits.{IsReplyAt, MakesTryAfterRoll, StaysAt, WaitsForRoll}
use Rattle.tending.specs.Low.{usual_for}
use Rattle.tending.specs.Tends.{TendsBehind}
use Rattle.tending.specs.Rounds.{MakesRound}

-- ---- what a master and its fleet go through

-- The cleaner made a round by the usual policy, and gained seglets.
abbrev pub Gains : World → World → Type 0
Gains old new = MakesRound (usual_for old.knows.config) old (Ok true) new

-- The cleaner made a round by the usual policy, and gained no seglet, or was refused.
abbrev pub GainsNothing : World → World → Type 0
GainsNothing old new = MakesRound (usual_for old.knows.config) old (Ok false) new
    ⊎ ((r : Refusal) × MakesRound (usual_for old.knows.config) old (Err r) new)

-- A command was refused as Full so many times, one after another, and after each time the cleaner gained seglets.
abbrev pub MakesWay : ℕ → World → Command → World → Type 0
MakesWay zero old command new = new ≡ old
MakesWay (suc rounds) old command new = (mid : World) × MakesWay rounds old command mid
    × (full : World) × RunsCommand mid command (Err Full) full × Gains full new

-- What the cleaner did last: up to so many steps behind a command that was carried out, and none behind a compaction
-- unless memory was tight. Or it gained nothing for one that was refused as Full. Behind any other refusal it did
-- nothing.
abbrev pub EndsTended : ℕ → Result Reply Refusal → World → World → Type 0
EndsTended steps (Ok reply) old new =
    (made : Result ℕ Refusal) × TendsBehind (usual_for old.knows.config) steps old made new
EndsTended steps (Err r) old new =
    ((r ≡ Full) × GainsNothing old new) ⊎ ((r ≡ Full → ⊥) × (new ≡ old))

-- A command was run, at most 65,536 rounds after the line began, and the cleaner did what it does last.
pub record IsTendedRun (steps : ℕ) (old : World) (command : Command) (result : Result Reply Refusal) (new : World)
    : Type 0 where
  pub rounds : ℕ
  pub few : rounds ≤ 65536
  pub mid : World
  pub way : MakesWay rounds old command mid
  pub last : World
  pub run : RunsCommand mid command result last
  pub ends : EndsTended steps result last new

-- A command's line beside a cleaner that makes up to so many steps. Or the command was refused as Full after each of
-- 65,536 rounds that gained seglets.
abbrev pub RunsTended : ℕ → World → Command → Result Reply Refusal → World → Type 0
RunsTended steps old command result new = IsTendedRun steps old command result new
    ⊎ ((result ≡ Err Full) × MakesWay 65536 old command new)

-- ---- of a node

-- how many steps the cleaner makes behind a command, if it makes so many behind one that may change the map
abbrev pub steps_behind : ℕ → Command → ℕ
steps_behind steps (Put key value when) = steps
steps_behind steps (Get key) = 0
steps_behind steps (Delete key) = steps

-- A node that is up makes just the steps of this command's line, with up to so many of the cleaner behind it, and
-- answers what comes of the command. With none it makes those of the command alone. Any other node does nothing.
abbrev pub MakesTended : ℕ → Node → Command → Node → Answer → Type 0
MakesTended zero old command new answer = MakesCommand old command new answer
MakesTended (suc n) (Up m) command new answer = (result : Result Reply Refusal) × (w : World)
    × RunsTended (suc n) (world fleet_state m) command result w × (answer ≡ reply_told result)
    × IsLeftIn w answer new
MakesTended (suc n) old command new answer = (new ≡ old) × (answer ≡ answers.Down)

-- wherever the node stood, it stands there still, with the same records
abbrev pub StaysOn : Node → Node → Type 0
StaysOn old new = (config : Config) (d : MasterData) (at : Position) → IsNodeAt old config d at →
    (e : MasterData) × StaysAt new config d at e

-- A node that is up was led through so many rounds of the cleaner, each behind a try of the command that was refused
-- as Full. Any other node did nothing, and had no round.
abbrev pub HasWay : ℕ → Node → Command → Node → Type 0
HasWay rounds (Up m) command new =
    (w : World) × MakesWay rounds (world fleet_state m) command w × (world_of new ≡ Some w)
HasWay rounds old command new = (new ≡ old) × (rounds ≡ 0)

-- A node that is up just makes a round of the cleaner. Any other node does nothing.
abbrev pub GainsRoom : Node → Bool → Node → Type 0
GainsRoom (Up m) true new = (w : World) × Gains (world fleet_state m) w × (world_of new ≡ Some w)
GainsRoom (Up m) false new = (w : World) × GainsNothing (world fleet_state m) w × (world_of new ≡ Some w)
GainsRoom old gained new = (new ≡ old) × (gained ≡ false)

-- A node that is up just makes up to so many steps of the cleaner as they are made behind a command, whatever comes of
-- them. Any other node does nothing.
abbrev pub TendsOn : Node → ℕ → Node → Type 0
TendsOn (Up m) steps new = (made : Result ℕ Refusal) × (w : World)
    × TendsBehind (usual_for m.knows.config) steps (world fleet_state m) made w × (world_of new ≡ Some w)
TendsOn old steps new = new ≡ old

-- the answer is one that each line of this command tells
abbrev pub TellsLine : Node → Command → Node → Answer → Type 0
TellsLine old command new answer =
    (config : Config) (line : LineValue) → command_of line ≡ Some command → AnswersLine old config line new answer

-- no reply is answered
abbrev pub IsNoReply : Answer → Type 0
IsNoReply answer = (reply : Reply) → answer ≡ answers.Reply reply → ⊥

-- what is told of a command's line whose command waited for a roll
abbrev pub TellsAfterRoll : Node → Command → Node → Answer → Type 0
TellsAfterRoll mid command new answer = (old : Node) (config : Config) (line : LineValue)
    → command_of line ≡ Some command → WaitsForRoll old config command mid → AnswersLine old config line new answer

-- What the roll comes to that a command waits for, and the command behind it: the place of a record that has its
-- reply, or another answer.
abbrev pub RunsAfterRoll : Node → Command → Node → Result ℕ Answer → Type 0
RunsAfterRoll mid command new (Ok place) = (reply : Reply) × IsReplyAt new place reply
    × TellsAfterRoll mid command new (answers.Reply reply) × MakesTryAfterRoll mid command new (answers.Reply reply)
RunsAfterRoll mid command new (Err answer) = TellsAfterRoll mid command new answer
    × MakesTryAfterRoll mid command new answer × IsNoReply answer

-- What the line of a command comes to: the place of a record that has its reply, or another answer.
abbrev pub RunsLine : Node → Command → Node → Result ℕ Answer → Type 0
RunsLine old command new (Ok place) = (reply : Reply) × IsReplyAt new place reply
    × TellsLine old command new (answers.Reply reply) × MakesCommand old command new (answers.Reply reply)
RunsLine old command new (Err answer) = TellsLine old command new answer × MakesCommand old command new answer
    × IsNoReply answer

-- the same with up to so many steps of the cleaner behind it
abbrev pub RunsTendedLine : Node → Command → ℕ → Node → Result ℕ Answer → Type 0
RunsTendedLine old command steps new (Ok place) = (reply : Reply) × IsReplyAt new place reply
    × TellsLine old command new (answers.Reply reply) × MakesTended steps old command new (answers.Reply reply)
RunsTendedLine old command steps new (Err answer) =
    TellsLine old command new answer × MakesTended steps old command new answer
