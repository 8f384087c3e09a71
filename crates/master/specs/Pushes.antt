-- One push: the op that it hands to a backup, what the op makes of the log, and what the push answers.
use Rattle.std.specs.Prelude.{◌≡◌, ◌⊎◌, ℕ, length, true, false, Bool, None, Some, IsSome, Result, Ok, Err}
use Rattle.entry.specs.Text.{text_of}
use Rattle.replica.specs.declared.op.TakeFault.TheVariants as take_fault
use Rattle.replica.specs.Op.{OpValue, Open}
use Rattle.replica.specs.Picture.{FleetState}
use Rattle.replica.specs.Take.{Takes, Refuses}
use Rattle.log_head.specs.declared.next.Next.{Next}
use Rattle.log_head.specs.declared.next.Next.TheVariants as next
use Rattle.log_head.specs.Head.{IsHeadValue, IsLagging}
use Rattle.log_head.specs.log_laws.Heads.{Start}
use Rattle.log_head.specs.log_laws.Ids.{has}
use Rattle.master_core.specs.log_laws.Data.{Mode, Calm, Opens, Repairs, FailData}
use Rattle.master_core.specs.log_laws.Shown.{Op, On, Raise}
use Rattle.master_core.specs.log_laws.Steps.{ended, EndsRoll, mended, NoneIsLost, rolling, with_taken, MayRepair}
use Rattle.master_core.specs.log_laws.Steps.{Extends, OpensNew, Replaces, Raises, ClosesOld}
use Rattle.master_core.specs.log_bytes.Ops.{TakesOp}
use Rattle.master_core.specs.log_memory.Steps.{seal_op}
use Rattle.master_core.specs.master_failover.declared.push.Push.{Push}
use Rattle.master_core.specs.master_failover.declared.push.Push.TheVariants as push
use Rattle.master_core.specs.master_failover.declared.push.Push.TheVariants.{Turn}
use Rattle.master_core.specs.master_failover.declared.turning.NewHead.{NewHead}
use Rattle.master_core.specs.master_failover.declared.turning.NewHead.TheVariants as new_head
use Rattle.master_core.specs.master_failover.Mending.{IsNextPushOf, pushed, segment_for, backup_for, new_text}
use Rattle.master_core.specs.master_state.declared.step.Refusal.{Refusal}
use Rattle.master_core.specs.master_state.declared.step.Refusal.TheVariants as refusal
use Rattle.master_core.specs.master_state.declared.step.StepAnswer.{StepAnswer}
use Rattle.master_core.specs.master_state.declared.step.StepAnswer.TheVariants.{Opened, Extended, Closed, Raised}
use Rattle.master_core.specs.master_state.declared.step.StepAnswer.TheVariants.{Repaired}
use Rattle.master_core.specs.master_state.Budget.{may_turn, victims_of}
use Rattle.master_core.specs.master_state.Data.{MasterData}
use Rattle.master_core.specs.master_state.Log.{home, log_of, memory_of, image_of}
use Rattle.master.specs.World.{World}

-- ---- what a push answers

-- a push of a head, by what it does to which replica
abbrev pub answer_of : Next → ℕ → ℕ → StepAnswer
answer_of (next.OpenFirst j) backup segment = Opened backup segment
answer_of (next.Extend j) backup segment = Extended backup segment
answer_of (next.OpenWhole j) backup segment = Opened backup segment
answer_of (next.OpenNew j) backup segment = Opened backup segment
answer_of (next.CloseOld j) backup segment = Closed backup segment

-- any push
abbrev pub answer_for : Push → ℕ → ℕ → StepAnswer
answer_for (push.Head n) backup segment = answer_of n backup segment
answer_for push.Turn backup segment = Opened backup segment
answer_for (push.Raise id) backup segment = Raised id
answer_for (push.Repair s j) backup segment = Repaired backup segment

-- what it answers, with its backup and segment
abbrev pub push_answer : MasterData → Push → StepAnswer
push_answer d p = answer_for p (backup_for d p) (segment_for d p)

-- ---- what the op makes of the log, while no failover is open

-- the op is on this backup's replica of the segment
abbrev pub IsOpOn : Op → ℕ → ℕ → Type 0
IsOpOn (On b s act) backup segment = (backup ≡ b) × (segment ≡ s)
IsOpOn (Raise id) backup segment = ⊥

-- after the op the log is this one, or with the last op of a roll the new head is in force
abbrev pub IsAfter : FailData → FailData → Type 0
IsAfter mid e = (e ≡ mid) ⊎ ((n : Start) × EndsRoll mid n Calm × (e ≡ ended mid n Calm))

-- the replica that has the fewest units, and of several the first, takes all that it lacks
pub record ExtendsNext (d : MasterData) (o : Op) (e : FailData) : Type 0 where
  pub extends : Extends (log_of d) o e
  pub replica : ℕ
  pub lagging : IsLagging (length d.head.units) d.head.taken (Some replica)
  pub home : extends.b ≡ home d.config d.failed d.head.id replica
  pub whole : extends.to ≡ length d.head.units

-- What the answer of a push says of its op. Opened: the first head or a new head is opened on its next backup.
-- Extended: a replica takes all units that it lacks. Closed: the old head is closed on its next backup.
abbrev pub IsNextOp : MasterData → Op → StepAnswer → FailData → Type 0
IsNextOp d o (Opened backup segment) e =
    ((mid : FailData) × OpensNew (log_of d) o mid × IsAfter mid e) × IsOpOn o backup segment
IsNextOp d o (Extended backup segment) e = ExtendsNext d o e × IsOpOn o backup segment
IsNextOp d o (Closed backup segment) e =
    ((mid : FailData) × ClosesOld (log_of d) o mid × IsAfter mid e) × IsOpOn o backup segment
IsNextOp d o _ e = ⊥

-- ---- and while one is

-- the failover goes on, or no replica is lost any more and it has ended
abbrev pub IsMended : FailData → FailData → Type 0
IsMended d e = (e ≡ d) ⊎ ((d.mode ≡ Repairs) × NoneIsLost d × (e ≡ mended d))

-- after the op the log is this one, or the new head is in force; with it the failover may have ended
abbrev pub IsOnward : FailData → FailData → Type 0
IsOnward mid e = IsMended mid e
    ⊎ ((n : Start) × (mode : Mode) × EndsRoll mid n mode × IsMended (ended mid n mode) e)

-- What each push of a failover makes of the log. Its parts: the head's replicas get all units, and its lost one is
-- replaced; the new head is made, whose digest lists the log or is a commit's, and opened; the registry is raised; the
-- old head is closed; a lost replica of another segment is sealed anew, from its image.
abbrev pub IsMendOp : MasterData → Push → Op → FailData → Type 0
IsMendOp d (push.Head (next.Extend j)) o e = Extends (log_of d) o e
IsMendOp d (push.Head (next.OpenWhole j)) o e = Replaces (log_of d) o e
IsMendOp d push.Turn o e = (n : Start) × OpensNew (rolling (log_of d) n (Opens n)) o e
IsMendOp d (push.Head (next.OpenNew j)) o e = OpensNew (log_of d) o e
IsMendOp d (push.Head (next.OpenFirst j)) o e = OpensNew (log_of d) o e
IsMendOp d (push.Raise id) o e = (mid : FailData) × Raises (log_of d) o mid × IsOnward mid e
IsMendOp d (push.Head (next.CloseOld j)) o e = (mid : FailData) × ClosesOld (log_of d) o mid × IsOnward mid e
IsMendOp d (push.Repair s j) o e = MayRepair (log_of d) s (backup_for d (push.Repair s j))
    × (o ≡ seal_op (memory_of d) s (backup_for d (push.Repair s j)))
    × IsMended (record (log_of d) { took = with_taken (log_of d).took s (backup_for d (push.Repair s j)) }) e

-- ---- what it makes of the log

-- as it is while no failover is open, or while one is
abbrev pub IsOpOf : MasterData → Push → Op → FailData → Type 0
IsOpOf d p o e =
    ((d.failover ≡ None) × IsNextOp d o (push_answer d p) e) ⊎ (IsSome d.failover × IsMendOp d p o e)

-- ---- a push

-- the segment was a victim of the pass that ended, and has no image any more
abbrev pub HasLeft : MasterData → MasterData → ℕ → Type 0
HasLeft d e s = (has (victims_of d.pass) s ≡ true) × (e.pass ≡ None) × (image_of e s ≡ None)

-- A push that is accepted: one op, which the fleet took. One that opens the new head of a failover may do so.
pub record Pushes (old : World) (answer : StepAnswer) (new : World) : Type 0 where
  pub op : Op
  pub running : old.knows.is_halted ≡ false
  pub push : Push
  pub next : IsNextPushOf old.knows (Some push)
  pub may : push ≡ Turn → may_turn old.knows ≡ true
  pub does : IsOpOf old.knows push op (log_of new.knows)
  pub told : answer ≡ push_answer old.knows push
  -- the op is counted and posted; with the last Close of a commit the pass ends
  pub rest : new.knows ≡ pushed old.knows push
  -- Without a failover memory has the same entries of each segment, but for the victims of a pass that ended: a head
  -- that is closed keeps its image.
  pub images : old.knows.failover ≡ None
      → (s : ℕ) → HasLeft old.knows new.knows s ⊎ (image_of new.knows s ≡ image_of old.knows s)
  pub takes : TakesOp old.knows.config.master old.fleet op new.fleet

-- ---- the first Open of a failover's new head

-- what takes the place of the first head is a head
abbrev pub IsNewValid : NewHead → Type 0
IsNewValid (new_head.First h) = IsHeadValue h
IsNewValid (new_head.Next r) = Unit {0}

-- the first Open of the new head, in bytes
abbrev pub first_open : ℕ → ℕ → NewHead → OpValue
first_open master segment new =
    record { master = master; segment = segment; act = Open (text_of (new_text new)) }

-- Whether it was taken: after a fault nobody knows. Or why it wasn't.
abbrev pub OpensFirst : FleetState → ℕ → OpValue → Result Bool Refusal → FleetState → Type 0
OpensFirst f b op (Ok true) g = Takes f b op g
OpensFirst f b op (Ok false) g = Refuses f b op take_fault.Fault g
OpensFirst f b op (Err refusal.NoMemory) g = Refuses f b op take_fault.NoMemory g
OpensFirst f b op (Err refusal.Spent) g = Refuses f b op take_fault.Spent g
OpensFirst f b op (Err _) g = ⊥
