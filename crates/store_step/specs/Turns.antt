-- What a turn of a cleaner and a command do to a master and its fleet.
use Rattle.std.specs.Prelude.{◌≡◌, ◌⊎◌, ℕ, Option, Some, None, Result, Ok, Err}
use Rattle.versioned_map.specs.declared.command.Command.{Command}
use Rattle.versioned_map.specs.declared.command.Reply.{Reply}
use Rattle.master.specs.master_space.Choosing.{next_step, NeedsChoice}
use Rattle.master.specs.master_state.Data.{MasterData}
use Rattle.master.specs.master_state.declared.step.Refusal.{Refusal}
use Rattle.master.specs.master_state.declared.step.Refusal.TheVariants as refusal
use Rattle.master.specs.master_state.declared.step.Step.{Step}
use Rattle.master.specs.master_state.declared.step.Step.TheVariants as step
use Rattle.master.specs.master_state.declared.step.StepAnswer.{StepAnswer}
use Rattle.master.specs.master_state.declared.step.StepAnswer.TheVariants.{Applied}
use Rattle.master.specs.Steps.{Accepts, Declines, Steps}
use Rattle.master.specs.World.{World}
use Rattle.store_step.specs.declared.turn.CleanTurn.{CleanTurn}
use Rattle.store_step.specs.declared.turn.CleanTurn.TheVariants as turn

-- the step that a turn asks for; None if a cleaner has nothing to do
abbrev pub step_of : MasterData → CleanTurn → Option Step
step_of d turn.Next = next_step d
step_of d turn.Push = Some step.Push
step_of d turn.BeginRoll = Some step.BeginRoll
step_of d (turn.Compact id) = Some (step.Compact id)
step_of d (turn.BeginClean ids) = Some (step.BeginClean ids)
step_of d turn.Copy = Some step.Copy
step_of d turn.Seal = Some step.Seal
step_of d turn.Free = Some step.Free

-- a command is applied
abbrev pub IsCommand : Step → Type 0
IsCommand (step.Apply seat command) = Unit {0}
IsCommand step.Push = ⊥
IsCommand step.BeginRoll = ⊥
IsCommand (step.Compact id) = ⊥
IsCommand (step.BeginClean ids) = ⊥
IsCommand step.Copy = ⊥
IsCommand step.Seal = ⊥
IsCommand step.Free = ⊥

-- the master makes this step; if there is no step, nothing is done
abbrev pub MakesStep : Option Step → World → Result StepAnswer Refusal → World → Type 0
MakesStep None old answer new = (answer ≡ Err refusal.Nothing) × (new ≡ old)
MakesStep (Some step) old answer new = Steps old step answer new

-- there was no memory to choose the victims of a next pass
abbrev pub LacksVictims : World → CleanTurn → Result StepAnswer Refusal → World → Type 0
LacksVictims old asked answer new = (asked ≡ turn.Next) × (old.knows.pass ≡ None) × NeedsChoice old.knows
    × (answer ≡ Err refusal.NoMemory) × (new ≡ old)

-- One step that is no command. For Next it is the step that the master says is next.
abbrev pub MakesTurn : World → CleanTurn → Result StepAnswer Refusal → World → Type 0
MakesTurn old asked answer new = MakesStep (step_of old.knows asked) old answer new ⊎ LacksVictims old asked answer new

-- One command: with Ok the place of its record and its reply, and else the step's refusal.
abbrev pub MakesCommand : World → ℕ → Command → Result (ℕ × Reply) Refusal → World → Type 0
MakesCommand old seat command (Ok r) new = Accepts old (step.Apply seat command) (Applied r.0 r.1) new
MakesCommand old seat command (Err e) new = Declines old (step.Apply seat command) e new
