-- What a step makes of a master and its fleet, and what many steps do.
use Rattle.std.specs.Prelude.{◌≡◌, ◌⊎◌, ℕ, ◌<◌, ◌≤◌, Bool, true, false, List, [], ◌∷◌, Result, Ok, Err, Some, None}
use Rattle.master_core.specs.log_laws.Data.{FailData, durable_of}
use Rattle.master_core.specs.log_laws.Shown.{Op}
use Rattle.master_core.specs.log_laws.Runs.{IsOn}
use Rattle.master_core.specs.log_bytes.Ops.{RefusesOp}
use Rattle.replica.specs.declared.op.TakeFault.TheVariants as take_fault
use Rattle.master_core.specs.master_state.declared.step.Refusal.{Refusal}
use Rattle.master_core.specs.master_state.declared.step.Refusal.TheVariants as refusal
use Rattle.master_core.specs.master_state.declared.step.Step.{Step}
use Rattle.master_core.specs.master_state.declared.step.Step.TheVariants.{Apply, Push, BeginRoll, Compact, BeginClean}
use Rattle.master_core.specs.master_state.declared.step.Step.TheVariants.{Copy, Seal}
use Rattle.master_core.specs.master_state.declared.step.Step.TheVariants.{Free}
use Rattle.master_core.specs.master_state.declared.step.StepAnswer.{StepAnswer}
use Rattle.master_core.specs.master_state.Causes.{command_refusal, roll_refusal, compact_refusal, push_refusal}
use Rattle.master_core.specs.master_state.Causes.{clean_refusal}
use Rattle.master_core.specs.master_state.Causes.{copy_refusal}
use Rattle.master_core.specs.master_state.Causes.{seal_refusal, free_refusal}
use Rattle.master_core.specs.master_state.Log.{log_of}
use Rattle.master_core.specs.master_state.Budget.{may_turn}
use Rattle.master_core.specs.master_state.Steps.{Applies, BeginsRoll, Compacts, BeginsPass, Copies, halted, may_lose}
use Rattle.master_core.specs.master_state.Steps.{lost_data}
use Rattle.master_core.specs.master_failover.declared.push.Push.{Push as PushKind}
use Rattle.master_core.specs.master_failover.declared.push.Push.TheVariants as push
use Rattle.master_core.specs.master_failover.Mending.{IsNextPushOf, turned_data}
use Rattle.master.specs.Keeps.{Keeps}
use Rattle.master.specs.Passes.{IsSealOp, Seals, IsFreeOp, Frees}
use Rattle.master.specs.Pushes.{IsMendOp, IsOpOf, Pushes}
use Rattle.master.specs.Valid.{IsValid}
use Rattle.master.specs.World.{World}

-- ---- accepted

-- a command is applied, a roll or a pass begins, a segment is compacted, or an entry is copied, and the fleet stays as
-- it was; a push, a seal and a free are one op each that the fleet took
abbrev pub Accepts : World → Step → StepAnswer → World → Type 0
Accepts old (Apply seat command) answer new = Applies old.knows seat command answer new.knows × (new.fleet ≡ old.fleet)
Accepts old Push answer new = Pushes old answer new
Accepts old BeginRoll answer new = BeginsRoll old.knows answer new.knows × (new.fleet ≡ old.fleet)
Accepts old (Compact id) answer new = Compacts old.knows id answer new.knows × (new.fleet ≡ old.fleet)
Accepts old (BeginClean ids) answer new = BeginsPass old.knows ids answer new.knows × (new.fleet ≡ old.fleet)
Accepts old Copy answer new = Copies old.knows answer new.knows × (new.fleet ≡ old.fleet)
Accepts old Seal answer new = Seals old answer new
Accepts old Free answer new = Frees old answer new

-- ---- refused

-- The take of an op like this failed. After a fault its op may have been taken. If the backup then counts as failed, a
-- failover is open; else the master stays halted.
abbrev pub FailsTake : (Op → Type 0) → World → Refusal → World → Type 0
FailsTake IsOp old refusal.NoMemory new = new ≡ old
FailsTake IsOp old refusal.Spent new = (old.fleet.takes ≡ old.fleet.end) × (new ≡ old)
FailsTake IsOp old (refusal.Lost b) new = (may_lose old.knows ≡ true) × (new.knows ≡ lost_data old.knows b)
    × ((op : Op) × IsOp op × IsOn b op
    × RefusesOp old.knows.config.master old.fleet op take_fault.Fault new.fleet)
FailsTake IsOp old refusal.Halted new = (may_lose old.knows ≡ false) × (new.knows ≡ halted old.knows)
    × ((op : Op) × IsOp op × RefusesOp old.knows.config.master old.fleet op take_fault.Fault new.fleet)
FailsTake IsOp old _ new = ⊥

-- the op is that of the push that comes next, and the push is no Turn
abbrev pub IsPushOp : World → Op → Type 0
IsPushOp old op = (p : PushKind) × (e : FailData) × IsNextPushOf old.knows (Some p) × (p ≡ push.Turn → ⊥)
    × IsOpOf old.knows p op e

-- if the next push is to open the new head of a failover, it may do so
abbrev pub MayPush : World → Type 0
MayPush old = IsNextPushOf old.knows (Some push.Turn) → may_turn old.knows ≡ true

-- A push that may be made fails: for want of memory, or because the take of its op failed.
abbrev pub FailsPush : World → Refusal → World → Type 0
FailsPush old r new = MayPush old × FailsTake (IsPushOp old) old r new

-- the new head of the open failover may not be opened: the master stays halted, though no backup was asked
abbrev pub IsStuck : World → Refusal → World → Type 0
IsStuck old r new = IsNextPushOf old.knows (Some push.Turn) × (may_turn old.knows ≡ false) × (r ≡ refusal.Halted)
    × (new ≡ record old { knows = halted old.knows })

-- The new head might be opened, and its first Open ended in a fault. It may have been taken, so the head has its id,
-- and the master stays halted.
abbrev pub FailsTurn : World → Refusal → World → Type 0
FailsTurn old r new = IsNextPushOf old.knows (Some push.Turn) × (may_turn old.knows ≡ true) × (r ≡ refusal.Halted)
    × (new.knows ≡ halted (turned_data old.knows))
    × ((op : Op) × (e : FailData) × IsMendOp old.knows push.Turn op e
    × RefusesOp old.knows.config.master old.fleet op take_fault.Fault new.fleet)

-- A refusal is the one of the first test that fails. If no test fails, it comes from memory or from the fleet. It
-- changes nothing, except after a fault: then the master stays halted. A push that may not open the new head of a
-- failover answers Halted and nothing else.
abbrev pub Declines : World → Step → Refusal → World → Type 0
Declines old (Apply seat command) r new = (new ≡ old)
    × ((command_refusal old.knows command ≡ Some r)
    ⊎ ((command_refusal old.knows command ≡ None) × (r ≡ refusal.NoMemory)))
Declines old BeginRoll r new = (new ≡ old)
    × ((roll_refusal old.knows ≡ Some r) ⊎ ((roll_refusal old.knows ≡ None) × (r ≡ refusal.NoMemory)))
Declines old (Compact id) r new = (new ≡ old)
    × ((compact_refusal old.knows id ≡ Some r) ⊎ ((compact_refusal old.knows id ≡ None) × (r ≡ refusal.NoMemory)))
Declines old (BeginClean ids) r new = (new ≡ old)
    × ((clean_refusal old.knows ids ≡ Some r) ⊎ ((clean_refusal old.knows ids ≡ None) × (r ≡ refusal.NoMemory)))
Declines old Copy r new = (new ≡ old) × (copy_refusal old.knows ≡ Some r)
Declines old Push r new =
    ((push_refusal old.knows ≡ Some r) × (new ≡ old))
    ⊎ ((push_refusal old.knows ≡ None)
    × (IsStuck old r new ⊎ (FailsTurn old r new ⊎ FailsPush old r new)))
Declines old Seal r new =
    ((seal_refusal old.knows ≡ Some r) × (new ≡ old))
    ⊎ ((seal_refusal old.knows ≡ None) × FailsTake (IsSealOp old.knows) old r new)
Declines old Free r new =
    ((free_refusal old.knows ≡ Some r) × (new ≡ old))
    ⊎ ((free_refusal old.knows ≡ None) × FailsTake (IsFreeOp old.knows) old r new)

abbrev pub Steps : World → Step → Result StepAnswer Refusal → World → Type 0
Steps old step (Ok answer) new = Accepts old step answer new
Steps old step (Err refusal) new = Declines old step refusal new

-- A push for the record at this place. If that is durable, nothing is done; else it is the step Push.
abbrev pub PushesFor : ℕ → World → Result Bool Refusal → World → Type 0
PushesFor place old (Ok true) new = (place < durable_of (log_of old.knows)) × (new ≡ old)
PushesFor place old (Ok false) new =
    (durable_of (log_of old.knows) ≤ place) × (answer : StepAnswer) × Accepts old Push answer new
PushesFor place old (Err refusal) new = (durable_of (log_of old.knows) ≤ place) × Declines old Push refusal new

-- ---- many steps

-- what is true after one more step
pub record IsNextStop (before stop : World) : Type 0 where
  pub keeps : Keeps 1 before stop
  pub valid : IsValid stop.knows stop.fleet

-- The steps in order, with their answers. After each of them everything is true that is true of every master.
abbrev pub IsRun : World → List Step → List (Result StepAnswer Refusal) → World → Type 0
IsRun old [] [] new = new ≡ old
IsRun old (step ∷ steps) (answer ∷ answers) new =
    (mid : World) × Steps old step answer mid × IsNextStop old mid × IsRun mid steps answers new
IsRun old [] (answer ∷ answers) new = ⊥
IsRun old (step ∷ steps) [] new = ⊥
