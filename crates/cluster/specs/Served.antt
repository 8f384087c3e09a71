-- What a node stands for, and what its lines do to it.
use Rattle.std.specs.Prelude.{◌≡◌, ◌⊎◌, ℕ, ◌≤◌, List, ◌++◌, Bool, true, false, Option, Some, None, length, Result, Ok}
use Rattle.std.specs.Prelude.{Err, IfSome}
use Rattle.backup.specs.State.{fleet_state, lost, HoldsAny}
use Rattle.backup.specs.declared.fleet.Asked.{Asked}
use Rattle.lines.specs.Grammar.{LineValue}
use Rattle.std.specs.Option.{option_map}
use Rattle.std.specs.declared.alloc.AllocError.{AllocError}
use Rattle.answers.specs.driving.master.cleaner.declared.survivors.Survivors.{Survivors}
use Rattle.replica.specs.declared.label.Label.{Label}
use Rattle.replica.specs.Picture.{FleetState, AreLabelsOf, left_on, shown_of}
use Rattle.replica.specs.Take.{limited, no_limit}
use Rattle.versioned_map.specs.declared.command.Command.{Command}
use Rattle.versioned_map.specs.declared.command.Record.{Record}
use Rattle.versioned_map.specs.declared.command.Reply.{Reply}
use Rattle.answers.specs.driving.master.log_laws.Data.{homes, durable_of}
use Rattle.answers.specs.driving.master.log_bytes.Choice.{newest_opened}
use Rattle.answers.specs.driving.master.master_state.declared.config.Config.{Config}
use Rattle.answers.specs.driving.master.master_state.declared.step.Refusal.{Refusal}
use Rattle.answers.specs.driving.master.master_state.declared.step.Refusal.TheVariants.{NoMemory, Spent}
use Rattle.answers.specs.driving.master.master_state.declared.step.Step.{Step}
use Rattle.answers.specs.driving.master.master_state.Data.{MasterData}
use Rattle.answers.specs.driving.master.master_state.Log.{opening_of, log_of}
use Rattle.answers.specs.driving.master.Valid.{IsValid}
use Rattle.answers.specs.driving.master.World.{World, limited_world, world}
use Rattle.answers.specs.declared.answer.Answer.{Answer}
use Rattle.answers.specs.declared.answer.Answer.TheVariants.{Refused, Stopped, Holdings, Reply as Replied, Head}
use Rattle.answers.specs.declared.answer.Answer.TheVariants.{Cleaned, Tended}
use Rattle.answers.specs.declared.answer.Answer.TheVariants as answers
use Rattle.cluster.specs.declared.node.Node.{Node}
use Rattle.cluster.specs.declared.node.Node.TheVariants.{Up, Down, Changing}
use Rattle.cluster.specs.Lives.{Life, Left, left_now, is_left, Position}
use Rattle.answers.specs.driving.Commands.{RunsCommand}
use Rattle.cluster.specs.Told.{CleanRuns, RollRuns, StepRuns, TendRuns, Tells, line_of}
use Rattle.tablet_will.specs.declared.part.Part.{Part}
use Rattle.tablet_will.specs.Parts.{Divides}

-- The fleet holds what the crash of a master left, without the backups that were lost since, and has the same least
-- head of that master.
pub record IsLeftOf (d : MasterData) (l : Left) (f : FleetState) : Type 0 where
  pub crashed : FleetState
  pub valid : IsValid d crashed
  pub shown : l.shown ≡ shown_of crashed d.config.master
  pub opened : l.opened ≡ newest_opened (log_of d)
  pub homes : l.homes ≡ homes (log_of d)
  pub held : (b s : ℕ) → f.picture b d.config.master s ≡ left_on (is_left l.lost) l.shown.holds b d.config.master s
  pub backups : d.config.backups ≤ f.backups
  pub least : f.least d.config.master ≡ crashed.least d.config.master

-- the master of a node that is up knows `d`; that of a node that is down knew `d`, and left `left`
abbrev pub IsOf : Node → Option Left → MasterData → Type 0
IsOf (Up m) left d = (left ≡ None) × (m.knows ≡ d) × IsValid d (fleet_state m.fleet)
IsOf (Down fleet) left d = (l : Left) × (left ≡ Some l) × IsLeftOf d l (fleet_state fleet)
IsOf Changing left d = ⊥

-- the fleet of a node; none while its master is being dropped
abbrev pub fleet_of : Node → Option FleetState
fleet_of (Up m) = Some (fleet_state m.fleet)
fleet_of (Down fleet) = Some (fleet_state fleet)
fleet_of Changing = None

-- the fault that the fleet of a node is asked for
abbrev pub asked_of : Node → Option Asked
asked_of (Up m) = Some m.fleet.asked
asked_of (Down fleet) = Some fleet.asked
asked_of Changing = None

abbrev pub is_up : Node → Bool
is_up (Up m) = true
is_up (Down fleet) = false
is_up Changing = false

-- a master was dropped, and its fleet is what is left
abbrev pub IsDropped : Node → Node → Type 0
IsDropped old new = (d : MasterData) (f : FleetState) → IsOf old None d → fleet_of old ≡ Some f →
    IsOf new (Some (left_now d f)) d

-- the node has no master, and its fleet is the same, without a limit
abbrev pub IsUnlimited : Node → Node → Type 0
IsUnlimited old new =
    (is_up new ≡ false) × (fleet_of new ≡ option_map (λ (f : FleetState). limited f no_limit) (fleet_of old))

-- Either the refusal is the answer, and nothing changed, or the fleet takes no more ops: then the master was dropped,
-- and the limit was lifted.
abbrev pub Refuses : Node → Refusal → Node → Answer → Type 0
Refuses old r new answer =
    ((answer ≡ Refused r) × (r ≡ Spent → ⊥) × (new ≡ old))
    ⊎ ((answer ≡ Stopped) × (r ≡ Spent) × IsDropped old new × IsUnlimited old new)

-- The node stands at this position for a master of this configuration that knows `d` or knew it. What was acknowledged
-- is durable.
pub record IsNodeAt (node : Node) (config : Config) (d : MasterData) (at : Position) : Type 0 where
  pub node_of : IsOf node at.left d
  pub configured : d.config ≡ config
  pub made : at.made ≡ length d.history
  pub acknowledged : at.acknowledged ≤ durable_of (log_of d)

abbrev pub life_of : MasterData → Life
life_of d = record { opening = opening_of d; history = d.history }

-- ---- steps by hand

-- the master of a node, with its fleet
abbrev pub world_of : Node → Option World
world_of (Up m) = Some (world fleet_state m)
world_of (Down fleet) = None
world_of Changing = None

-- the node still has the master of this world; or the answer is Stopped, and it has the fleet alone, without a limit
abbrev pub IsLeftIn : World → Answer → Node → Type 0
IsLeftIn w Stopped new = (is_up new ≡ false) × (fleet_of new ≡ Some (limited w.fleet no_limit))
IsLeftIn w answer new = world_of new ≡ Some w

abbrev pub refusal_answer : Refusal → Answer
refusal_answer Spent = Stopped
refusal_answer r = Refused r

-- what is answered to a run of steps: what it gave, or its refusal
abbrev pub told_by : {X : Type 0} → (X → Answer) → Result X Refusal → Answer
told_by gives (Ok x) = gives x
told_by gives (Err r) = refusal_answer r

-- what is answered to a command
abbrev pub reply_told : Result Reply Refusal → Answer
reply_told result = told_by Replied result

-- A node that is up makes just this run of steps, and answers what comes of it. Any other node does nothing.
abbrev pub MakesRun : {X : Type 0} → (World → Result X Refusal → World → Type 0) → (X → Answer) → Node → Node
    → Answer → Type 0
MakesRun {X} runs gives (Up m) new answer = (result : Result X Refusal) × (w : World)
    × runs (world fleet_state m) result w × (answer ≡ told_by gives result) × IsLeftIn w answer new
MakesRun {X} runs gives old new answer = (new ≡ old) × (answer ≡ answers.Down)

-- the run is one step
abbrev pub MakesStep : Node → Step → Node → Answer → Type 0
MakesStep old step new answer = MakesRun (StepRuns step) answers.Step old new answer

-- the run is a roll with its pushes
abbrev pub MakesRoll : Node → Node → Answer → Type 0
MakesRoll old new answer = MakesRun RollRuns Head old new answer

-- what a whole cleaning gave
abbrev pub cleaned : Survivors × ℕ → Answer
cleaned (survivors, head) = Cleaned survivors head

-- the run cleans these segments
abbrev pub MakesClean : Node → List ℕ → Node → Answer → Type 0
MakesClean old victims new answer = MakesRun (CleanRuns victims) cleaned old new answer

-- the run is of up to so many steps of the cleaner, by the usual policy
abbrev pub MakesTend : Node → ℕ → Node → Answer → Type 0
MakesTend old steps new answer = MakesRun (TendRuns steps) Tended old new answer

-- the run is that of this command's line
abbrev pub CommandRuns : Command → World → Result Reply Refusal → World → Type 0
CommandRuns command old result new = RunsCommand old command result new

abbrev pub MakesCommand : Node → Command → Node → Answer → Type 0
MakesCommand old command new answer = MakesRun (CommandRuns command) Replied old new answer

-- ---- lines

-- the same life, with more records or as many
abbrev pub LivesLonger : MasterData → MasterData → Type 0
LivesLonger d e = (more : List Record) × (e.origin ≡ d.origin) × (e.history ≡ d.history ++ more)

-- Whatever life the node stood for, the new node goes on with it, and the answer is one that the line tells of that
-- life.
abbrev pub AnswersLine : Node → Config → LineValue → Node → Answer → Type 0
AnswersLine old config line new answer = (d : MasterData) (at : Position) → IsNodeAt old config d at →
    (e : MasterData) × (next : Position) × IsNodeAt new config e next
    × LivesLonger d e × Tells config (life_of e) at line answer next

-- the same for the line that asks for this step, if there is such a line
abbrev pub AnswersStep : Node → Config → Step → Node → Answer → Type 0
AnswersStep old config step new answer = IfSome (line_of step)
    (λ (line : LineValue). AnswersLine old config line new answer)

-- The fleet takes this many more ops, and nothing else changed: neither what a master knows, nor the fault that the
-- fleet is asked for.
abbrev pub LimitsFleet : Node → ℕ → Node → Type 0
LimitsFleet old takes new =
    (world_of new ≡ option_map (λ (w : World). limited_world w takes) (world_of old))
    × (fleet_of new ≡ option_map (λ (f : FleetState). limited f takes) (fleet_of old))
    × (asked_of new ≡ asked_of old)

-- just this fault is asked for, in place of what was asked for before, and nothing else changed
abbrev pub AsksFault : Node → ℕ → Bool → Node → Type 0
AsksFault old takes taken new = (world_of new ≡ world_of old) × (fleet_of new ≡ fleet_of old)
    × (asked_of new ≡ option_map (λ (asked : Asked). record asked { takes = takes; taken = taken }) (asked_of old))

-- there is no master any more, and the fleet is the same, with the fault that it is asked for
abbrev pub LosesMaster : Node → Node → Type 0
LosesMaster old new = (is_up new ≡ false) × (fleet_of new ≡ fleet_of old) × (asked_of new ≡ asked_of old)

-- If the node has no master, this backup loses all that it holds, and no other one does. The fault that the fleet is
-- asked for stays. A node with a master stays as it is.
abbrev pub LosesOne : Node → ℕ → Node → Type 0
LosesOne (Up m) backup new = new ≡ Up m
LosesOne old backup new =
    (is_up new ≡ false) × (fleet_of new ≡ option_map (λ (f : FleetState). lost f backup) (fleet_of old))
    × (asked_of new ≡ asked_of old)

-- What is shown is what the node's backups hold, of all masters. If they hold a replica, memory may run out instead.
abbrev pub ShowsFleet : Node → Answer → Type 0
ShowsFleet node (Holdings labels) = IfSome (fleet_of node) (λ (f : FleetState). AreLabelsOf f.picture labels)
ShowsFleet node (Refused NoMemory) = IfSome (fleet_of node) (λ (f : FleetState). HoldsAny f.picture)
ShowsFleet node answer = (answer ≡ answers.Down) × (fleet_of node ≡ None)

-- ---- wills

-- If the answer is a will, that will is handed over. After any other answer the will is the same as before.
abbrev pub HandsOver : List Part → Answer → List Part → Type 0
HandsOver old (answers.Will parts limits) new = new ≡ parts
HandsOver old answer new = new ≡ old

-- the will is the same, or it divides the tablets of the node's master
abbrev pub DividesAnew : Node → List Part → List Part → Type 0
DividesAnew node old new = (config : Config) (d : MasterData) (at : Position) → IsNodeAt node config d at →
    (new ≡ old) ⊎ Divides config.tablets new

-- ---- sessions

-- the answer that shows what backups hold
abbrev pub held_answer : Result (List Label) AllocError → Answer
held_answer (Ok labels) = Holdings labels
held_answer (Err fault) = Refused NoMemory
