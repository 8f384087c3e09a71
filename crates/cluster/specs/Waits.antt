-- Commands that wait for a roll, and the roll that they wait for.
use Rattle.std.specs.Prelude.{◌≡◌, ◌≤◌, ℕ, true, Option, Some, None, Result, Ok, Err, slice_get}
use Rattle.std.specs.Option.{option_map}
use Rattle.backup.specs.State.{fleet_state}
use Rattle.lines.specs.Grammar.{LineValue, Roll}
use Rattle.versioned_map.specs.declared.command.Command.{Command}
use Rattle.versioned_map.specs.declared.command.Record.{Record}
use Rattle.versioned_map.specs.declared.command.Reply.{Reply}
use Rattle.answers.specs.driving.master.log_head.Head.{is_open}
use Rattle.answers.specs.driving.master.master_state.declared.config.Config.{Config}
use Rattle.answers.specs.driving.master.master_state.declared.step.Refusal.{Refusal}
use Rattle.answers.specs.driving.master.master_state.declared.step.Refusal.TheVariants.{Rolling}
use Rattle.answers.specs.driving.master.master_state.declared.step.Step.TheVariants.{Apply}
use Rattle.answers.specs.driving.master.master_state.Data.{MasterData}
use Rattle.answers.specs.driving.master.Steps.{Declines}
use Rattle.answers.specs.driving.master.World.{World, world}
use Rattle.answers.specs.declared.answer.Answer.{Answer}
use Rattle.answers.specs.declared.answer.Answer.TheVariants as answers
use Rattle.cluster.specs.declared.node.Node.{Node}
use Rattle.cluster.specs.declared.node.Node.TheVariants.{Up}
use Rattle.cluster.specs.declared.tried.Tried.{Tried}
use Rattle.cluster.specs.declared.tried.Tried.TheVariants as tried
use Rattle.answers.specs.driving.Commands.{Tries, TriesAfterRoll}
use Rattle.cluster.specs.Lives.{life_to, Position}
use Rattle.answers.specs.driving.Rolls.{Rolls}
use Rattle.cluster.specs.Served.{AnswersLine, IsLeftIn, IsNodeAt, Refuses, is_up, life_of, refusal_answer}
use Rattle.cluster.specs.Served.{reply_told, world_of}
use Rattle.cluster.specs.Told.{command_of, IsTest, TellsNoStep}

-- the same life, with the same records
abbrev pub LivesSame : MasterData → MasterData → Type 0
LivesSame d e = (e.origin ≡ d.origin) × (e.history ≡ d.history)

-- the node stands at this position, with the same records
abbrev pub StaysAt : Node → Config → MasterData → Position → MasterData → Type 0
StaysAt node config d at e = IsNodeAt node config e at × LivesSame d e

-- a roll is due or under way, so a test refuses the command, and nothing was done
abbrev pub WaitsForRoll : Node → Config → Command → Node → Type 0
WaitsForRoll old config command new = (d : MasterData) (at : Position) → IsNodeAt old config d at →
    (e : MasterData) × StaysAt new config d at e
    × (at.left ≡ None) × IsTest config (life_to (life_of e) at.made) command Rolling

-- a command is served: its line is answered, or it waits for a roll
abbrev pub Serves : Node → Command → Node → Option Answer → Type 0
Serves old command new (Some answer) =
    (config : Config) (line : LineValue) → command_of line ≡ Some command → AnswersLine old config line new answer
Serves old command new None = (config : Config) → WaitsForRoll old config command new

-- Either a roll was made and the head is open, or the error is the answer that tells why not. No record was made.
abbrev pub MakesRoom : Node → Config → Node → Result (Unit {0}) Answer → Type 0
MakesRoom old config new (Err answer) = (d : MasterData) (at : Position) → IsNodeAt old config d at →
    (e : MasterData) × (next : Position) × IsNodeAt new config e next × LivesSame d e
    × TellsNoStep config (life_of e) at Roll answer next
MakesRoom old config new (Ok done) = (d : MasterData) (at : Position) → IsNodeAt old config d at →
    (e : MasterData) × StaysAt new config d at e × (is_open e.head ≡ true)

-- ---- what a node's own master makes

-- A node that is up just tries the command, and answers what comes of it. Without an answer the command was refused as
-- Rolling, and nothing was done. Any other node does nothing.
abbrev pub MakesTry : Node → Command → Node → Option Answer → Type 0
MakesTry (Up m) command new (Some answer) = (result : Result Reply Refusal) × (w : World)
    × (Tries (world fleet_state m) command result w × (result ≡ Err Rolling → ⊥))
    × (answer ≡ reply_told result) × IsLeftIn w answer new
MakesTry (Up m) command new None = Declines (world fleet_state m) (Apply 0 command) Rolling (world fleet_state m)
    × (world_of new ≡ Some (world fleet_state m))
MakesTry old command new answer = (new ≡ old) × (answer ≡ Some answers.Down)

-- the node's record at this place has this reply, and isn't forgotten
abbrev pub IsReplyAt : Node → ℕ → Reply → Type 0
IsReplyAt (Up m) place reply = (m.knows.forgotten ≤ place)
    × (option_map (λ (r : Record). r.reply) (slice_get m.knows.history place) ≡ Some reply)
IsReplyAt node place reply = ⊥

-- What a try comes to: an answer, or a wait for a roll. If it is the place of a record, the answer is the record's
-- reply. If it is a refusal, the answer is what the node answers to that.
abbrev pub TriesLine : Node → Command → Node → Tried → Type 0
TriesLine old command new (tried.Replied place) = (reply : Reply) × IsReplyAt new place reply
    × Serves old command new (Some (answers.Reply reply)) × MakesTry old command new (Some (answers.Reply reply))
TriesLine old command new tried.Waits = Serves old command new None × MakesTry old command new None
TriesLine old command new (tried.Refused r) = (is_up new ≡ true)
    × ((last : Node) (answer : Answer) → Refuses new r last answer
    → Serves old command last (Some answer) × MakesTry old command last (Some answer))
TriesLine old command new tried.Down =
    Serves old command new (Some answers.Down) × MakesTry old command new (Some answers.Down)

-- A node that is up just makes a roll. If there is an error, it is the answer that tells why the roll was refused. Any
-- other node does nothing.
abbrev pub MakesOpen : Node → Node → Result (Unit {0}) Answer → Type 0
MakesOpen (Up m) new (Err answer) = (r : Refusal) × (w : World)
    × Rolls (world fleet_state m) (Err r) w × (answer ≡ refusal_answer r) × IsLeftIn w answer new
MakesOpen (Up m) new (Ok done) =
    (head : ℕ) × (w : World) × Rolls (world fleet_state m) (Ok head) w × (world_of new ≡ Some w)
MakesOpen old new answer = (new ≡ old) × (answer ≡ Err answers.Down)

-- A node that is up makes just a roll, and then tries the command. Any other node does nothing.
abbrev pub MakesTryAfterRoll : Node → Command → Node → Answer → Type 0
MakesTryAfterRoll (Up m) command new answer = (result : Result Reply Refusal) × (w : World)
    × TriesAfterRoll (world fleet_state m) command result w × (answer ≡ reply_told result) × IsLeftIn w answer new
MakesTryAfterRoll old command new answer = (new ≡ old) × (answer ≡ answers.Down)
