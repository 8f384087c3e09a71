-- The laws of a limit: each master keeps it, and what a recovery finds within it can be adopted.
use Rattle.std.specs.Prelude.{◌≡◌, ◌<◌, ◌≤◌, List, ◌∷◌, Result, Ok}
use Rattle.claims.specs.declared.rebuilt.Rebuilt.{Rebuilt}
use Rattle.replica.specs.Picture.{FleetState}
use Rattle.replay.specs.Adopting.{IsAdopted, DeclinesList}
use Rattle.replay.specs.master.log_laws.Data.{FailData}
use Rattle.replay.specs.master.master_state.declared.config.Config.{Config}
use Rattle.replay.specs.master.master_state.declared.step.Refusal.{Refusal}
use Rattle.replay.specs.master.master_state.declared.step.Refusal.TheVariants as refusal
use Rattle.replay.specs.master.master_state.declared.step.Step.{Step}
use Rattle.replay.specs.master.master_state.declared.step.StepAnswer.{StepAnswer}
use Rattle.replay.specs.master.master_state.Data.{MasterData, fresh_data}
use Rattle.replay.specs.master.Steps.{Steps, IsRun}
use Rattle.replay.specs.master.World.{World}
use Rattle.recovery.specs.declared.succession.Course.{Course}
use Rattle.recovery.specs.declared.succession.Lived.{Lived}
use Rattle.recovery.specs.declared.succession.NotAdopted.TheVariants as not_adopted
use Rattle.recovery.specs.declared.succession.End.{End}
use Rattle.recovery.specs.declared.succession.End.TheVariants as the_end
use Rattle.recovery.specs.Recovered.{IsRecovered}
use Rattle.recovery.specs.Succession.{IsDrillBy, AreLived, EndsIn, AreDrilled, next_config}
use Rattle.adoptable.specs.Limit.{HasLimit, HasRoomFor, IsAdmitted, IsWithin, KeepsLimit}

-- ---- one master

-- A new master keeps its limit.
abbrev pub NewKeepsLimit : Type 0
NewKeepsLimit = (c : Config) → HasLimit c → KeepsLimit (fresh_data c)

-- Each step keeps it, whether it is accepted or declined.
abbrev pub StepKeepsLimit : Type 0
StepKeepsLimit = (old new : World) (step : Step) (answer : Result StepAnswer Refusal) → Steps old step answer new
    → KeepsLimit old.knows → KeepsLimit new.knows

-- So do any steps.
abbrev pub RunKeepsLimit : Type 0
RunKeepsLimit = (old new : World) (steps : List Step) (answers : List (Result StepAnswer Refusal))
    → IsRun old steps answers new → KeepsLimit old.knows → KeepsLimit new.knows

-- A master that adopted a table within its limit keeps it.
abbrev pub AdoptedKeepsLimit : Type 0
AdoptedKeepsLimit = (c : Config) (r : Rebuilt) (d : MasterData) → HasLimit c → IsWithin c r.objects
    → IsAdopted c r d → KeepsLimit d

-- ---- a recovery

-- A configuration with the same tablets, segments of the same size and no lower limits admits a log too. So does that
-- of a next master that has more memory.
abbrev pub MoreAdmits : Type 0
MoreAdmits = (c e : Config) (d : FailData) → e.tablets ≡ c.tablets → e.segment ≡ c.segment
    → c.largest ≤ e.largest → c.most_live ≤ e.most_live → IsAdmitted c d → IsAdmitted e d

-- What is recovered of a log that had no table beyond the limit is within the limit, and a new master has room for it.
abbrev pub RecoveredFits : Type 0
RecoveredFits = (c : Config) (d : FailData) (r : Rebuilt) → HasLimit c → IsAdmitted c d → IsRecovered d r
    → IsWithin c r.objects × HasRoomFor c r.objects

-- An adoption was refused so, and turned the old fleet into the new one, but the table wasn't the cause. Full, Halted,
-- SegmentsSpent: a take of it ended in a fault, which may halt the master or cost it memory or ids of segments. Spent:
-- the fleet takes no more. NoMemory: memory of the process ran out.
abbrev pub IsNotForTable : FleetState → Refusal → FleetState → Type 0
IsNotForTable old refusal.Full new = old.faults < new.faults
IsNotForTable old refusal.Halted new = old.faults < new.faults
IsNotForTable old refusal.SegmentsSpent new = old.faults < new.faults
IsNotForTable old refusal.Spent new = new.takes ≡ new.end
IsNotForTable old refusal.NoMemory new = Unit {0}
IsNotForTable old _ new = ⊥

-- An adoption of a table within the limit is never refused for the table.
abbrev pub WithinIsAdopted : Type 0
WithinIsAdopted = (c : Config) (r : Rebuilt) (old new : FleetState) (why : Refusal) → HasLimit c
    → IsWithin c r.objects → DeclinesList c r old why new → IsNotForTable old why new

-- ---- lives

-- Say the first of some lives begins with a master that keeps its limit. Then so does each later life, and the one that
-- goes on.
abbrev pub LivesKeepLimit : Type 0
LivesKeepLimit = (start last : World) (courses : List Course) (lived : List Lived)
    → AreLived start courses lived last → KeepsLimit start.knows → KeepsLimit last.knows

-- Say lives are lived from such a start, whatever their steps, the backups that are kept, and the wills and orders of
-- their recoveries. Then no adoption is refused for the table: none as Full, Halted or SegmentsSpent, unless a take of
-- it ended in a fault.
abbrev pub RecoveriesFit : Type 0
RecoveriesFit = (start last : World) (courses : List Course) (lived : List Lived) (course : Course)
    (answers : List (Result StepAnswer Refusal)) (r : Rebuilt) (left new : FleetState) (why : Refusal)
    → KeepsLimit start.knows → AreLived start courses lived last → IsDrillBy last course answers (Ok r) left
    → DeclinesList (next_config last.knows.config) r left why new → IsNotForTable left why new

-- If the row of lives ended for an adoption that was refused, the table wasn't the cause.
abbrev pub EndsFit : {F : Type 0} → (state : F → FleetState) → (last : World) → (rest : List Course) → (e : End F)
    → EndsIn state last rest e → Type 0
EndsFit state last (c ∷ cs) (the_end.NotAdopted d (not_adopted.Refused why)) ends =
    IsNotForTable ends.2 why (state d.fleet)
EndsFit state last rest e ends = Unit {0}

-- The same is true of whatever `run_lives` hands back: the last master keeps its limit, and the row ends so.
abbrev pub DrilledFit : {F : Type 0} → (F → FleetState) → Type 0
DrilledFit {F} state = (start : World) (courses : List Course) (lived : List Lived) (ended : End F)
    (are : AreDrilled state start courses lived ended) → KeepsLimit start.knows
    → KeepsLimit are.last.knows × EndsFit state are.last are.rest ended are.ends
