-- What a line makes of a node.
use Rattle.std.specs.Prelude.{◌≡◌, ℕ, IfSome}
use Rattle.lines.specs.Grammar.{LineValue, Idle, Roll, BeginRoll, Compact, Push, Clean, Begin, Copy, Seal, Free, Will}
use Rattle.lines.specs.Grammar.{Recover, Hex, Log, Room, Stop, Fault, Crash, Lose, Holdings as HoldingsLine, Clients}
use Rattle.lines.specs.Grammar.{Format, Listing, LiveBytes, Needs, Seglets, Segments, Tend}
use Rattle.versioned_map.specs.declared.command.Command.{Command}
use Rattle.cluster.specs.master.master_state.declared.step.Step.TheVariants as step
use Rattle.cluster.specs.answers.declared.answer.Answer.{Answer}
use Rattle.cluster.specs.declared.node.Node.{Node}
use Rattle.cluster.specs.Served.{AsksFault, LimitsFleet, LosesMaster, LosesOne, MakesClean, MakesRoll}
use Rattle.cluster.specs.Served.{MakesStep, MakesTend, ShowsFleet}
use Rattle.cluster.specs.Shows.{ShowsDigest, ShowsImage, ShowsLive, ShowsObjects, ShowsRoom, ShowsSegments}
use Rattle.cluster.specs.Tended.{MakesTended, steps_behind}
use Rattle.cluster.specs.Told.{command_of}
use Rattle.cluster_lines.specs.Clients.{MakesClients}

-- What a line makes of the node, if the cleaner makes so many steps behind each command that may change the map: just
-- the steps of its command and of the cleaner, its step, its roll, its cleaning, the steps of its cleaner, or the
-- rounds of its clients. A line that shows something changes nothing, and shows what this node has. A stop sets just
-- the limit that it names, a line of a fault asks for just this fault, a format or a number of seglets changes nothing
-- of this master, and a crash leaves just the fleet. What a recovery makes, and what `needs` shows, is said of the
-- session, in `script`.
abbrev pub MakesLine : ℕ → Node → LineValue → Node → Answer → Type 0
MakesLine tend old Roll new answer = MakesRoll old new answer
MakesLine tend old BeginRoll new answer = MakesStep old step.BeginRoll new answer
MakesLine tend old (Compact segment) new answer = MakesStep old (step.Compact segment) new answer
MakesLine tend old Push new answer = MakesStep old step.Push new answer
MakesLine tend old (Clean victims) new answer = MakesClean old victims new answer
MakesLine tend old (Begin victims) new answer = MakesStep old (step.BeginClean victims) new answer
MakesLine tend old Copy new answer = MakesStep old step.Copy new answer
MakesLine tend old Seal new answer = MakesStep old step.Seal new answer
MakesLine tend old Free new answer = MakesStep old step.Free new answer
MakesLine tend old (Tend steps) new answer = MakesTend old steps new answer
MakesLine tend old Idle new answer = new ≡ old
MakesLine tend old (Hex segment) new answer = (new ≡ old) × ShowsImage old segment answer
MakesLine tend old Log new answer = (new ≡ old) × ShowsDigest old answer
MakesLine tend old Room new answer = (new ≡ old) × ShowsRoom old answer
MakesLine tend old Segments new answer = (new ≡ old) × ShowsSegments old answer
MakesLine tend old (Listing table) new answer = (new ≡ old) × ShowsObjects old table answer
MakesLine tend old LiveBytes new answer = (new ≡ old) × ShowsLive old answer
MakesLine tend old HoldingsLine new answer = (new ≡ old) × ShowsFleet old answer
MakesLine tend old Will new answer = new ≡ old
MakesLine tend old (Stop takes) new answer = LimitsFleet old takes new
MakesLine tend old (Fault takes taken) new answer = AsksFault old takes taken new
MakesLine tend old Format new answer = new ≡ old
MakesLine tend old (Seglets seglets) new answer = new ≡ old
MakesLine tend old Needs new answer = new ≡ old
MakesLine tend old Crash new answer = LosesMaster old new
MakesLine tend old (Lose backup) new answer = LosesOne old backup new
MakesLine tend old (Recover order) new answer = ⊥
MakesLine tend old (Clients clients rounds passes) new answer = MakesClients old clients rounds new answer
MakesLine tend old line new answer = IfSome (command_of line)
    (λ (c : Command). MakesTended (steps_behind tend c) old c new answer)
