-- The headline, a field for each phrase: after any interleaving of client, compaction, cleaning and rolling steps,
-- stopped after any step, recovery from honest surviving replicas rebuilds, however segments are divided and replayed,
-- exactly the objects and versions of the versioned map after a prefix of the commands that holds every acknowledged
-- one; it refuses only by naming a lost head or segment, and never where both survive. 'However divided and replayed'
-- is that the will and the order are any; 'honest' is a premise on the fleet, outside this page.
--
-- Some words. A master keeps a log of segments. The last one is the head: commands are appended to it. A push hands
-- one piece of the log to one backup. A roll closes the head and opens a new one. A command is accepted if it gets a
-- record with a reply, also if it is a get, or if its condition doesn't hold; a refused one changes nothing. A seat is
-- the number of a caller. A backup is honest if it returns what it took, unchanged. A failover is what a master does
-- when a backup fails: it replicates anew what that backup held. A will divides the keys into partitions. A segment is
-- divided into groups, one for each partition, and groups are replayed in some order. A head and the segments that it
-- lists surely survive if fewer backups are lost than a segment has replicas.
use Rattle.std.specs.Prelude.{◌≡◌, ◌⊎◌, ℕ, ◌<◌, ◌≤◌, List, [], ◌∷◌, ◌++◌, map, take, length, Bool, None}
use Rattle.std.specs.Prelude.{Result, Ok, Err, IfOk, IfErr}
use Rattle.std.specs.List.Sorted.{IsStrictlySortedBy}
use Rattle.entry.specs.declared.entry.Object.{Object}
use Rattle.entry.specs.declared.key.Key.{Key}
use Rattle.entry.specs.declared.tablet.Tablet.{Tablet}
use Rattle.entry.specs.Meaning.{contents_of}
use Rattle.entry.specs.Order.{key_cmp}
use Rattle.versioned_map.specs.declared.command.Record.{Record}
use Rattle.versioned_map.specs.History.{IsLegal, commands_of}
use Rattle.versioned_map.specs.Versioned.{State, IsSafeAfter, after}
use Rattle.replica.specs.declared.op.TakeFault.{TakeFault}
use Rattle.replica.specs.Op.{ActValue}
use Rattle.replica.specs.Picture.{FleetState}
use Rattle.replica.specs.Registry.{RaiseGives}
use Rattle.replica.specs.Take.{TakeGives}
use Rattle.tablet_will.specs.declared.part.Part.{Part}
use Rattle.claims.specs.declared.fault.ReplayFault.TheVariants as replay_fault
use Rattle.claims.specs.declared.rebuilt.Rebuilt.{Rebuilt}
use Rattle.rebuilding.specs.declared.order.GroupOrder.{GroupOrder}
use Rattle.rebuilding.specs.declared.order.GroupOrder.TheVariants.{Forward, Reverse, Given}
use Rattle.recovery_plan.specs.declared.fault.PlanFault.TheVariants as plan_fault
use Rattle.replay.specs.master.master_state.declared.step.Refusal.{Refusal}
use Rattle.replay.specs.master.master_state.declared.step.Refusal.TheVariants.{Nothing}
use Rattle.replay.specs.master.master_state.declared.step.Step.{Step}
use Rattle.replay.specs.master.master_state.declared.step.Step.TheVariants.{Apply, Push}
use Rattle.replay.specs.master.master_state.declared.step.StepAnswer.{StepAnswer}
use Rattle.replay.specs.master.master_state.declared.step.StepAnswer.TheVariants.{Applied}
use Rattle.replay.specs.master.Survive.{lost}
use Rattle.recovery.specs.declared.recovery.RecoveryFault.{RecoveryFault}
use Rattle.recovery.specs.declared.recovery.RecoveryFault.TheVariants as fault
use Rattle.recovery.specs.Orders.{Covers}

-- ---- a master

-- A master before the first step. It may be new, or in the midst of its life.
pub record MasterAtStart : Type 0 where
  -- its number
  pub master : ℕ
  -- how many backups it uses, numbered from 0, and how many of them hold each segment; its fleet may have more backups
  pub backups : ℕ
  pub replicas : ℕ
  -- the keys that it serves
  pub tablets : List Tablet
  -- the map that its history begins with
  pub opening : State
  -- the commands that it accepted so far, with its replies
  pub history : List Record
  -- what its backups hold
  pub fleet : FleetState

-- ---- steps

-- the record of a command that was accepted: its caller's seat, the command, and the reply; 'place' is how many
-- records came before
abbrev pub record_of : Step → Result StepAnswer Refusal → List Record
record_of (Apply seat command) (Ok (Applied place reply)) =
    record { seat = seat; command = command; reply = reply } ∷ []
record_of _ _ = []

-- the records of the commands that were accepted among these steps, in order
abbrev pub records_of : List Step → List (Result StepAnswer Refusal) → List Record
records_of (step ∷ steps) (answer ∷ answers) = record_of step answer ++ records_of steps answers
records_of _ _ = []

-- the step is a push, and the master answered that nothing waits to be pushed
abbrev pub IsIdlePush : Step → Result StepAnswer Refusal → Type 0
IsIdlePush Push (Err Nothing) = Unit {0}
IsIdlePush _ _ = ⊥

-- the last of the steps is a push that finds nothing to push
abbrev pub EndsIdle : List Step → List (Result StepAnswer Refusal) → Type 0
EndsIdle (step ∷ []) (answer ∷ []) = IsIdlePush step answer
EndsIdle (step ∷ steps) (answer ∷ answers) = EndsIdle steps answers
EndsIdle _ _ = ⊥

-- ---- requests

-- One request and its answer. A backup of this number is asked to change its replica of this segment. The registry is
-- asked to refuse each head with a lower number than this one.
pub data Asked : Type 0 where
  Backup : (backup segment : ℕ) → ActValue → Result Unit TakeFault → Asked
  Registry : (head : ℕ) → Result Unit TakeFault → Asked

-- the request, with its answer, turns the fleet f into the fleet g
abbrev pub Makes : ℕ → Asked → FleetState → FleetState → Type 0
Makes master (Backup b segment act answer) f g =
    TakeGives f b (record { master = master; segment = segment; act = act }) answer g
Makes master (Registry id answer) f g = RaiseGives f master id answer g

-- the requests, one after another, turn the fleet f into the fleet g
abbrev pub MakeOf : ℕ → FleetState → List Asked → FleetState → Type 0
MakeOf master f [] g = g ≡ f
MakeOf master f (a ∷ more) g = (mid : FleetState) × Makes master a f mid × MakeOf master mid more g

-- ---- what comes back

-- The objects come in the order of their keys, each key that has a value once, as the map has it after the first
-- 'count' commands. These are all durable ones, and perhaps some more. The safe version is above each version that a
-- key had.
pub record IsMapAfter (opening : State) (history : List Record) (durable : ℕ) (r : Rebuilt) : Type 0 where
  pub count : ℕ
  pub holds : durable ≤ count
  pub within : count ≤ length history
  pub exactly : contents_of r.objects ≡ (after opening (take count (commands_of history))).contents
  pub once : IsStrictlySortedBy key_cmp (map (λ (o : Object). o.key) r.objects)
  pub safe : IsSafeAfter opening (take count (commands_of history)) r.safe

-- the fault says that no head is left that may be used, or that a segment is missing
abbrev pub IsLoss : RecoveryFault → Type 0
IsLoss (fault.Plan plan_fault.NoHead) = Unit {0}
IsLoss (fault.Plan (plan_fault.HeadTooOld id)) = Unit {0}
IsLoss (fault.Plan (plan_fault.HeadClosed id)) = Unit {0}
IsLoss (fault.Plan (plan_fault.Missing id)) = Unit {0}
IsLoss _ = ⊥

-- memory ran out
abbrev pub IsNoMemory : RecoveryFault → Type 0
IsNoMemory (fault.Plan plan_fault.NoMemory) = Unit {0}
IsNoMemory (fault.Replay replay_fault.NoMemory) = Unit {0}
IsNoMemory _ = ⊥

-- Forward and Reverse name each group once. An order that a caller writes out may leave a group out or name it twice,
-- and is refused then.
abbrev pub IsWholeOrder : GroupOrder → Type 0
IsWholeOrder Forward = Unit {0}
IsWholeOrder Reverse = Unit {0}
IsWholeOrder (Given numbers) = ⊥

-- no key had a value, before the first command or after any
abbrev pub NeverHadAny : State → List Record → Type 0
NeverHadAny opening history =
    (count : ℕ) (k : Key) → (after opening (take count (commands_of history))).contents k ≡ None

-- ---- the headline

-- A master took the steps, and gave the answers. As it stopped, the first 'durable' commands of its history were
-- durable: as many backups as replicas had answered Ok to what each wrote. 'pushes' is how many pushes an open failover
-- still needed then; it is 0 exactly if none was open. The master left this fleet. Some backups of it are kept, and the
-- others are lost. A recovery from those that are kept, by this will and in this order, gave what is recovered. Beside
-- this record it is said that the recovery read nothing else, and that what it names is really lost (*IsDrill*).
pub record Headline (start : MasterAtStart) (steps : List Step) (answers : List (Result StepAnswer Refusal))
    (durable pushes : ℕ) (left : FleetState) (keep : ℕ → Bool) (will : List Part) (order : GroupOrder)
    (recovered : Result Rebuilt RecoveryFault) : Type 0 where
  -- 'after any interleaving of client, compaction, cleaning and rolling steps': the history has just the commands that
  -- were accepted, with the replies that were given, and each reply is the versioned map's
  pub history : List Record
  pub interleaved : history ≡ start.history ++ records_of steps answers
  pub replied : IsLegal start.opening history
  -- 'stopped after any step', each of which makes at most one request: the fleet is what requests of this master made
  -- of it, each done whole or not at all
  pub requests : List Asked
  pub stopped : MakeOf start.master start.fleet requests left
  -- 'rebuilds .. exactly the objects and versions of the versioned map after a prefix of the commands that holds every
  -- acknowledged one'
  pub rebuilds : IfOk recovered (IsMapAfter start.opening history durable)
  -- 'every acknowledged one': whoever drives the master acknowledges a command only after a later push that found
  -- nothing to push. Then each command so far is durable, also those before the first step, and stays so.
  pub acknowledged : (count : ℕ) → EndsIdle (take count steps) (take count answers)
      → length (start.history ++ records_of (take count steps) (take count answers)) ≤ durable
  -- if the last step is such a push, all commands are durable
  pub pushed : EndsIdle steps answers → durable ≡ length history
  -- 'it refuses only by naming a lost head or segment', or if memory runs out. The will has to cover the keys that the
  -- master serves, and the order to be forwards or in reverse. Of other orders *IsDrill* speaks.
  pub refuses : Covers start.tablets will → IsWholeOrder order → IfErr recovered (λ e. IsLoss e ⊎ IsNoMemory e)
  -- 'and never where both survive': if no failover is open, and fewer backups are lost than a segment has replicas,
  -- then only want of memory refuses. If no key ever had a value, a recovery may also find no head: perhaps none was
  -- open.
  pub never : Covers start.tablets will → IsWholeOrder order → pushes ≡ 0
      → length (lost keep start.backups) < start.replicas
      → IfErr recovered (λ e. IsNoMemory e ⊎ NeverHadAny start.opening history)
