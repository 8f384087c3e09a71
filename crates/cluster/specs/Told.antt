-- What the lines of a script tell of a master's life.
use Rattle.std.specs.Prelude.{◌≡◌, ◌⊎◌, ℕ, suc, List, ◌∷◌, Bool, true, false, Option, Some, None, Result, Ok, Err}
use Rattle.std.specs.Prelude.{slice_get}
use Rattle.lines.specs.Grammar.{LineValue, Idle, Put, New, Cas, Get, Del, Compact, Roll, BeginRoll, Push, Log, Room}
use Rattle.lines.specs.Grammar.{Hex, Stop, Fault, Crash, Lose, Will, Recover, Holdings, Clean, Begin, Copy, Seal, Free}
use Rattle.lines.specs.Grammar.{Clients, Format, Listing, LiveBytes, Needs, Seglets, Segments, Tend}
use Rattle.backup.specs.Inventory.{AreRising}
use Rattle.answers.specs.driving.master.cleaner.declared.survivors.Survivors.{Survivors}
use Rattle.replica.specs.Picture.{FleetState, survivors}
use Rattle.versioned_map.specs.declared.command.Command.{Command}
use Rattle.versioned_map.specs.declared.command.Command.TheVariants as command
use Rattle.versioned_map.specs.declared.command.If.TheVariants.{Any, Absent, Version}
use Rattle.versioned_map.specs.declared.command.Reply.{Reply}
use Rattle.answers.specs.driving.master.master_state.declared.config.Config.{Config}
use Rattle.answers.specs.driving.master.master_state.declared.step.Refusal.{Refusal}
use Rattle.answers.specs.driving.master.master_state.declared.step.Refusal.TheVariants as refusal
use Rattle.answers.specs.driving.master.master_state.Causes.{command_refusal}
use Rattle.answers.specs.driving.master.master_state.declared.step.Step.{Step}
use Rattle.answers.specs.driving.master.master_state.declared.step.Step.TheVariants as step
use Rattle.answers.specs.driving.master.master_state.declared.step.StepAnswer.{StepAnswer}
use Rattle.answers.specs.driving.master.master_state.Data.{MasterData}
use Rattle.answers.specs.driving.master.Steps.{Steps}
use Rattle.answers.specs.driving.master.World.{World}
use Rattle.answers.specs.declared.answer.Answer.{Answer}
use Rattle.answers.specs.declared.answer.Answer.TheVariants as answer
use Rattle.cluster.specs.Lives.{Life, life_to, HasLived, Left, IsLeftBy, IsLeftBySpent, Position}
use Rattle.tablet_will.specs.Sizes.{are_limits}
use Rattle.answers.specs.driving.Cleans.{Cleans}
use Rattle.cluster.specs.Counted.{AsksClients, AreCounted, AreUncounted}
use Rattle.answers.specs.driving.Rolls.{PushesUntil, Rolls}
use Rattle.answers.specs.driving.Served.{is_of_push}
use Rattle.tending.specs.Low.{usual_for}
use Rattle.tending.specs.Tends.{Tends}
use Rattle.cluster.specs.Looks.{AreHeldAt, AreListedAt, AreSegmentsAt, IsDigestAt, IsImageAt, IsLiveAt, IsRoomAt}
use Rattle.cluster.specs.Looks.{IsWillAt, shows}
use Rattle.cluster.specs.Found.{AsksTable, IsLossOf, IsNeededAt, IsUnadopted}

-- ---- commands

-- the command that a line asks for, if it asks for one
abbrev pub command_of : LineValue → Option Command
command_of (Put table key value) = Some (command.Put (record { table = table; bytes = key }) value Any)
command_of (New table key value) = Some (command.Put (record { table = table; bytes = key }) value Absent)
command_of (Cas table key version value) =
    Some (command.Put (record { table = table; bytes = key }) value (Version version))
command_of (Get table key) = Some (command.Get (record { table = table; bytes = key }))
command_of (Del table key) = Some (command.Delete (record { table = table; bytes = key }))
command_of _ = None

-- the record at this place is of the line's command, by seat 0, and has this reply
abbrev pub IsRecordAt : Life → ℕ → LineValue → Reply → Type 0
IsRecordAt life place line reply = (c : Command) × (command_of line ≡ Some c)
    × (slice_get life.history place ≡ Some (record { seat = 0; command = c; reply = reply }))

-- the line made the next record, and this record and all before it are acknowledged
abbrev pub IsReplied : Life → Position → LineValue → Reply → Position → Type 0
IsReplied life at line reply next = IsRecordAt life at.made line reply
    × (next ≡ record { made = suc at.made; acknowledged = suc at.made; left = None })

-- the line asks for a command, and made no record
abbrev pub IsOut : Position → LineValue → Option Left → Position → Type 0
IsOut at line left next = (c : Command) × (command_of line ≡ Some c)
    × (next ≡ record { made = at.made; acknowledged = at.acknowledged; left = left })

-- the line made the next record, and no reply was answered
abbrev pub IsIn : Life → Position → LineValue → Option Left → Position → Type 0
IsIn life at line left next = (reply : Reply) × IsRecordAt life at.made line reply
    × (next ≡ record { made = suc at.made; acknowledged = at.acknowledged; left = left })

-- ---- steps

-- a master that has lived this life makes this run of steps, with this result, and has lived just this life after it
abbrev pub IsRunAt : {X : Type 0} → (World → Result X Refusal → World → Type 0) → Config → Life → Result X Refusal
    → Type 0
IsRunAt runs config life result = (old : World) × (new : World) × HasLived config life old.knows old.fleet
    × HasLived config life new.knows new.fleet × runs old result new

-- the run of one step
abbrev pub StepRuns : Step → World → Result StepAnswer Refusal → World → Type 0
StepRuns step old result new = Steps old step result new

-- the run of a roll with its pushes
abbrev pub RollRuns : World → Result ℕ Refusal → World → Type 0
RollRuns old result new = Rolls old result new

-- the run that cleans these segments
abbrev pub CleanRuns : List ℕ → World → Result (Survivors × ℕ) Refusal → World → Type 0
CleanRuns victims old result new = Cleans old victims result new

-- the run of up to so many steps of the cleaner, by the usual policy
abbrev pub TendRuns : ℕ → World → Result ℕ Refusal → World → Type 0
TendRuns steps old result new = Tends (usual_for old.knows.config) steps old result new

-- the line that asks for a step by hand; no line asks to apply a command without pushing it
abbrev pub line_of : Step → Option LineValue
line_of (step.Apply seat command) = None
line_of step.Push = Some Push
line_of step.BeginRoll = Some BeginRoll
line_of (step.Compact segment) = Some (Compact segment)
line_of (step.BeginClean victims) = Some (Begin victims)
line_of step.Copy = Some Copy
line_of step.Seal = Some Seal
line_of step.Free = Some Free

-- the line asks for a step, and a master that has lived this life makes it so
abbrev pub IsStepOf : Config → Life → LineValue → Result StepAnswer Refusal → Type 0
IsStepOf config life line result = (s : Step) × (line_of s ≡ Some line) × IsRunAt (StepRuns s) config life result

-- a master that has lived this life refuses what the line asks for: a step, a roll, a cleaning or steps of its cleaner
abbrev pub IsStepRefusal : Config → Life → LineValue → Refusal → Type 0
IsStepRefusal config life Roll r = IsRunAt RollRuns config life (Err r)
IsStepRefusal config life (Clean victims) r = IsRunAt (CleanRuns victims) config life (Err r)
IsStepRefusal config life (Tend steps) r = IsRunAt (TendRuns steps) config life (Err r)
IsStepRefusal config life line r = IsStepOf config life line (Err r)

-- the line hands ops to backups, and makes no record
abbrev pub pushes : LineValue → Bool
pushes Roll = true
pushes Push = true
pushes Seal = true
pushes Free = true
pushes (Clean victims) = true
pushes (Tend steps) = true
pushes line = false

-- What an answer tells of steps, a roll or a cleaning that weren't made, and the position after it. No record was
-- made.
abbrev pub TellsNoStep : Config → Life → Position → LineValue → Answer → Position → Type 0
TellsNoStep config life at line (answer.Refused r) next = (at.left ≡ None)
    × IsStepRefusal config (life_to life at.made) line r × (r ≡ refusal.Spent → ⊥)
    × (next ≡ record { made = at.made; acknowledged = at.acknowledged; left = None })
TellsNoStep config life at line answer.Stopped next = (at.left ≡ None)
    × (l : Left) × IsLeftBySpent config (life_to life at.made) l × (pushes line ≡ true)
    × (next ≡ record { made = at.made; acknowledged = at.acknowledged; left = Some l })
TellsNoStep config life at line answer.Down next = ((l : Left) × (at.left ≡ Some l)) × (next ≡ at)
TellsNoStep config life at line _ next = ⊥

-- the line's step made no record, and the master is gone
abbrev pub IsStepOut : Position → LineValue → Left → Position → Type 0
IsStepOut at line l next = (pushes line ≡ true)
    × (next ≡ record { made = at.made; acknowledged = at.acknowledged; left = Some l })

-- ---- refusals

-- the test by which a master that has lived this life refuses the command
abbrev pub IsTest : Config → Life → Command → Refusal → Type 0
IsTest config life c r = (d : MasterData) × (f : FleetState) × HasLived config life d f × (command_refusal d c ≡ Some r)

-- A test refuses the command, or the command has to wait for a roll and the roll is refused.
abbrev pub IsCause : Config → Life → Command → Refusal → Type 0
IsCause config life c r =
    IsTest config life c r ⊎ (IsTest config life c refusal.Rolling × IsRunAt RollRuns config life (Err r))

-- a master that has lived this life is pushed until a push is refused, and has lived just this life after that, too
abbrev pub IsPushedAt : Config → Life → Refusal → Type 0
IsPushedAt config life r = (old : World) × (new : World) × HasLived config life old.knows old.fleet
    × HasLived config life new.knows new.fleet × PushesUntil old r new

-- A command is refused, and not because the fleet takes no more ops. Either it made no record: memory ran out, a test
-- refused it, or the roll that it waits for was refused. Or it made one, and the master was then pushed until a push
-- was refused, though something waited.
abbrev pub IsRefused : Config → Life → Position → LineValue → Refusal → Position → Type 0
IsRefused config life at line r next = (r ≡ refusal.Spent → ⊥)
    × ((IsOut at line None next × ((r ≡ refusal.NoMemory)
    ⊎ ((c : Command) × (command_of line ≡ Some c) × IsCause config (life_to life at.made) c r)))
    ⊎ (IsIn life at line None next × IsPushedAt config (life_to life next.made) r × (is_of_push r ≡ true)))

-- ---- lines

-- the line works only while there is a master
abbrev pub is_for_master : LineValue → Bool
is_for_master (Put table key value) = true
is_for_master (New table key value) = true
is_for_master (Cas table key version value) = true
is_for_master (Get table key) = true
is_for_master (Del table key) = true
is_for_master Roll = true
is_for_master BeginRoll = true
is_for_master (Compact segment) = true
is_for_master Push = true
is_for_master (Clean victims) = true
is_for_master (Begin victims) = true
is_for_master Copy = true
is_for_master Seal = true
is_for_master Free = true
is_for_master (Tend steps) = true
is_for_master Log = true
is_for_master Room = true
is_for_master Segments = true
is_for_master (Listing table) = true
is_for_master LiveBytes = true
is_for_master Will = true
is_for_master (Hex segment) = true
is_for_master Crash = true
is_for_master (Clients clients rounds passes) = true
is_for_master _ = false

-- the line works only while there is no master
abbrev pub is_for_none : LineValue → Bool
is_for_none (Lose backup) = true
is_for_none (Recover order) = true
is_for_none Needs = true
is_for_none _ = false

-- What the answer of a line tells, if the line goes on with a life in which the script stands at this position, and
-- the position after the line.
abbrev pub Tells : Config → Life → Position → LineValue → Answer → Position → Type 0
Tells config life at line answer.Silent next = (line ≡ Idle) × (next ≡ at)
Tells config life at line (answer.Reply reply) next = (at.left ≡ None) × IsReplied life at line reply next
Tells config life at line (answer.Refused r) next =
    ((at.left ≡ None)
    × (IsRefused config life at line r next ⊎ TellsNoStep config life at line (answer.Refused r) next))
    ⊎ (((r ≡ refusal.NoMemory) × (shows line ≡ true) × (next ≡ at))
    ⊎ ((r ≡ refusal.Spent → ⊥) × (IsUnadopted config life at line r next ⊎ AreUncounted at line None next)))
Tells config life at line (answer.Head id) next = (at.left ≡ None) × (line ≡ Roll)
    × IsRunAt RollRuns config (life_to life at.made) (Ok id) × (next ≡ at)
Tells config life at line (answer.Step made) next = (at.left ≡ None)
    × IsStepOf config (life_to life at.made) line (Ok made) × (next ≡ at)
Tells config life at line (answer.Cleaned survivors head) next = (at.left ≡ None)
    × ((victims : List ℕ) × (line ≡ Clean victims)
    × IsRunAt (CleanRuns victims) config (life_to life at.made) (Ok (survivors, head)))
    × (next ≡ at)
Tells config life at line (answer.Tended made) next = (at.left ≡ None)
    × ((steps : ℕ) × (line ≡ Tend steps) × IsRunAt (TendRuns steps) config (life_to life at.made) (Ok made))
    × (next ≡ at)
Tells config life at line (answer.Counted clients rounds calls) next = (at.left ≡ None)
    × AsksClients line clients rounds × AreCounted life at clients rounds calls next
Tells config life at line (answer.Log ids) next = (at.left ≡ None) × (line ≡ Log)
    × IsDigestAt config (life_to life at.made) ids × (next ≡ at)
Tells config life at line (answer.Room used free) next = (at.left ≡ None) × (line ≡ Room)
    × IsRoomAt config (life_to life at.made) used free × (next ≡ at)
Tells config life at line (answer.Segments rows) next = (at.left ≡ None) × (line ≡ Segments)
    × AreSegmentsAt config (life_to life at.made) rows × (next ≡ at)
Tells config life at line (answer.Listed objects) next = (at.left ≡ None)
    × ((table : ℕ) × (line ≡ Listing table) × AreListedAt (life_to life at.made) table objects) × (next ≡ at)
Tells config life at line (answer.Live bytes most) next = (at.left ≡ None) × (line ≡ LiveBytes)
    × IsLiveAt config (life_to life at.made) bytes × (most ≡ config.most_live) × (next ≡ at)
Tells config life at line (answer.Will parts limits) next = (at.left ≡ None) × (line ≡ Will)
    × IsWillAt config (life_to life at.made) limits parts × (next ≡ at)
Tells config life at line (answer.BadLimits limits) next = (at.left ≡ None) × (line ≡ Will)
    × (are_limits limits.bytes limits.objects ≡ false) × (next ≡ at)
Tells config life at line (answer.Holdings labels) next = (line ≡ Holdings)
    × AreHeldAt config (life_to life at.made) at.left labels × AreRising labels × (next ≡ at)
Tells config life at line (answer.Hex bytes) next = (at.left ≡ None)
    × ((segment : ℕ) × (line ≡ Hex segment) × IsImageAt config (life_to life at.made) segment (Some bytes))
    × (next ≡ at)
Tells config life at line (answer.NotInLog segment) next = (at.left ≡ None)
    × (line ≡ Hex segment) × IsImageAt config (life_to life at.made) segment None × (next ≡ at)
Tells config life at line (answer.Stop takes) next = (line ≡ Stop takes) × (next ≡ at)
Tells config life at line (answer.Fault takes taken) next = (line ≡ Fault takes taken) × (next ≡ at)
Tells config life at line answer.Format next = (line ≡ Format) × (next ≡ at)
Tells config life at line (answer.Seglets seglets) next = (line ≡ Seglets seglets) × (next ≡ at)
Tells config life at line (answer.Needs needed) next = (line ≡ Needs)
    × (l : Left) × (at.left ≡ Some l) × IsNeededAt config life at l needed × (next ≡ at)
Tells config life at line answer.Stopped next = ((at.left ≡ None)
    × (l : Left) × IsLeftBySpent config (life_to life next.made) l
    × (IsOut at line (Some l) next
    ⊎ (IsIn life at line (Some l) next ⊎ (IsStepOut at line l next ⊎ AreUncounted at line (Some l) next))))
    ⊎ IsUnadopted config life at line refusal.Spent next
Tells config life at line answer.Crashed next = (at.left ≡ None) × (line ≡ Crash)
    × (l : Left) × IsLeftBy config (life_to life at.made) l
    × (next ≡ record { made = at.made; acknowledged = at.acknowledged; left = Some l })
Tells config life at line (answer.Lost backup) next = (line ≡ Lose backup) × (l : Left) × (at.left ≡ Some l)
    × (next ≡ record {
      made = at.made;
      acknowledged = at.acknowledged;
      left = Some (record { shown = l.shown; opened = l.opened; homes = l.homes; lost = backup ∷ l.lost });
    })
-- a table that was recovered and adopted begins another life
Tells config life at line (answer.Recovered r) next = ⊥
Tells config life at line (answer.NotRetired why) next = ⊥
Tells config life at line (answer.NotRecovered fault) next = AsksTable line
    × (l : Left) × (at.left ≡ Some l) × IsLossOf config l fault × (next ≡ at)
Tells config life at line answer.NumbersSpent next = AsksTable line
    × ((l : Left) × (at.left ≡ Some l)) × (next ≡ at)
Tells config life at line answer.CellRefused next = AreUncounted at line None next
-- a store couldn't tell whose its records were: the store of this line, or that of an earlier line
Tells config life at line answer.SeatUnknown next = AreUncounted at line None next
    ⊎ (AsksTable line × ((l : Left) × (at.left ≡ Some l)) × (next ≡ at))
Tells config life at line answer.Down next =
    ((l : Left) × (at.left ≡ Some l)) × (is_for_master line ≡ true) × (next ≡ at)
Tells config life at line answer.Up next = (at.left ≡ None) × (is_for_none line ≡ true) × (next ≡ at)
