-- What a recovery makes of a node, by how it ends.
use Rattle.std.specs.Prelude.{[], ◌≡◌, ◌⊎◌, ℕ, ◌<◌, max, List, true, false, Some, None, Result, Ok, Err}
use Rattle.std.specs.Option.{option_map}
use Rattle.backup.specs.State.{fleet_state}
use Rattle.backup.specs.declared.fleet.MemoryFleet.{MemoryFleet}
use Rattle.command_line.specs.declared.settings.Options.{Options}
use Rattle.lines.specs.Grammar.{LineValue, Recover}
use Rattle.lines.specs.declared.line.ReplayOrder.{ReplayOrder}
use Rattle.lines.specs.declared.line.ReplayOrder.TheVariants as replay_order
use Rattle.cluster.specs.master.Registry.{IsUnraised}
use Rattle.cluster.specs.master.Valid.{IsValid}
use Rattle.cluster.specs.master.World.{MasterValue, World, retired_data}
use Rattle.cluster.specs.master.master_state.declared.config.Config.{Config}
use Rattle.cluster.specs.master.master_state.declared.step.Refusal.{Refusal}
use Rattle.cluster.specs.master.master_state.declared.step.Refusal.TheVariants.{Spent}
use Rattle.cluster.specs.master.master_state.Data.{MasterData}
use Rattle.cluster.specs.replay.rebuilding.declared.order.GroupOrder.{GroupOrder}
use Rattle.cluster.specs.replay.rebuilding.declared.order.GroupOrder.TheVariants as group_order
use Rattle.cluster.specs.recovery.declared.recovery.RecoveryFault.{RecoveryFault}
use Rattle.cluster.specs.recovery.Drilled.{IsOfHeld}
use Rattle.cluster.specs.recovery.Succession.{IsSuccessor}
use Rattle.cluster.specs.replay.claims.declared.rebuilt.Rebuilt.{Rebuilt}
use Rattle.cluster.specs.replay.Adopting.{IsAdopted, IsAdoptedOn, DeclinesList}
use Rattle.replica.specs.declared.op.TakeFault.{TakeFault}
use Rattle.replica.specs.declared.op.TakeFault.TheVariants as take_fault
use Rattle.replica.specs.Picture.{FleetState, shown_of}
use Rattle.replica.specs.Retire.{Retires}
use Rattle.replica.specs.Take.{limited, no_limit}
use Rattle.tablet_will.specs.declared.part.Part.{Part}
use Rattle.cluster.specs.answers.declared.answer.Answer.{Answer}
use Rattle.cluster.specs.answers.declared.answer.Answer.TheVariants.{Recovered, NotRecovered, NotRetired, NumbersSpent}
use Rattle.cluster.specs.answers.declared.answer.Answer.TheVariants.{Stopped}
use Rattle.cluster.specs.answers.declared.answer.Answer.TheVariants as answers
use Rattle.cluster.specs.declared.node.Node.{Node}
use Rattle.cluster.specs.declared.node.Node.TheVariants.{Up, Down}
use Rattle.next_master.specs.Configuration.{config_of, later_options}
use Rattle.next_master.specs.declared.later.Later.{Later}
use Rattle.next_master.specs.declared.recovering.Request.{Request}
use Rattle.cluster.specs.Lives.{Left, left_now, Position}
use Rattle.next_master.specs.Numbers.{IsNextNumber}
use Rattle.cluster.specs.replay.driving.Served.{IsSpent}
use Rattle.cluster.specs.Served.{AnswersLine, IsNodeAt, IsOf, fleet_of, is_up, life_of, refusal_answer, world_of}
use Rattle.next_master.specs.Succession.{Standing, Succeeds}
use Rattle.cluster.specs.Told.{Tells}
use Rattle.cluster.specs.Found.{AsksTable, IsFoundAt, NeedsFor}

-- ---- what is asked

-- What a recovery is asked for: the log of this master is divided by the will, and the groups are replayed in the
-- order.
pub record Asked : Type 0 where
  pub master : ℕ
  -- the greatest number that a master had, or was to have
  pub used : ℕ
  pub will : List Part
  pub order : GroupOrder

abbrev pub ask : ℕ → ℕ → List Part → GroupOrder → Asked
ask master used will order = record { master = master; used = used; will = will; order = order }

-- the order of the groups that a line names; several workers take the groups in the order of the log
abbrev pub order_named : ReplayOrder → GroupOrder
order_named replay_order.Forward = group_order.Forward
order_named replay_order.Reverse = group_order.Reverse
order_named (replay_order.Threads workers) = group_order.Forward

-- what is asked for by a request, a will and the order that a line names
abbrev pub asked_for : Request → List Part → ReplayOrder → Asked
asked_for request will order = ask request.master request.used will (order_named order)

-- what such a recovery rebuilds from what a fleet holds, or why it rebuilds nothing
abbrev pub Rebuilds : FleetState → Asked → Result Rebuilt RecoveryFault → Type 0
Rebuilds f a result = IsOfHeld (shown_of f a.master) a.master a.will a.order result

-- ---- a table that is found

-- the standing of a node that stands for this master
abbrev pub standing_of : Config → MasterData → Position → Standing
standing_of config d at = record { config = config; life = life_of d; at = at }

-- whatever a master of this configuration left on the fleet, its recovery gives this table
abbrev pub FindsTable : MemoryFleet → Config → Rebuilt → Type 0
FindsTable fleet config r = (d : MasterData) (at : Position) → IsNodeAt (Down fleet) config d at →
    (l : Left) × (at.left ≡ Some l) × IsFoundAt config (life_of d) at l r

-- A table was found, and a configuration for a master with a greater number, by the options of later masters. The
-- fleet holds no replica of this new master, and any of its heads may be used.
pub record IsFoundIn (fleet : MemoryFleet) (options : Options) (later : Later) (master : ℕ) (r : Rebuilt)
    (config : Config) : Type 0 where
  pub table : FindsTable fleet (config_of options master) r
  pub configured : config ≡ config_of (later_options later options) config.master
  pub greater : master < config.master
  pub unused : (b s : ℕ) → (fleet_state fleet).picture b config.master s ≡ None
  pub least : IsUnraised config.master (fleet_state fleet)

-- Whatever a master of this configuration left on the fleet, this answer tells why nothing was found. It is one for
-- any line that asks for a table.
abbrev pub FindsNone : MemoryFleet → Config → Answer → Type 0
FindsNone fleet config answer = (line : LineValue) (d : MasterData) (at : Position) → AsksTable line
    → IsNodeAt (Down fleet) config d at → Tells config (life_of d) at line answer at

-- why no master is to be made: nothing is rebuilt, or there is no number for the next master
abbrev pub FindsNothing : FleetState → Asked → Answer → Type 0
FindsNothing f a (NotRecovered fault) = Rebuilds f a (Err fault)
FindsNothing f a NumbersSpent = (table : Rebuilt) × Rebuilds f a (Ok table)
FindsNothing f a answer = ⊥

-- ---- what a new master needs

-- the node has no master, and this fleet
abbrev pub IsDownOn : FleetState → Node → Type 0
IsDownOn f node = (is_up node ≡ false) × (fleet_of node ≡ Some f)

-- What is answered of a table that a recovery of this fleet would find: what a new master with the next number and
-- these options needs to adopt it, or why no table is found.
abbrev pub NeedsOn : FleetState → Options → Asked → Answer → Type 0
NeedsOn f options a (answers.Needs needed) = (table : Rebuilt) × Rebuilds f a (Ok table)
    × (number : ℕ) × IsNextNumber (max a.master a.used) f.picture number
    × NeedsFor (config_of options number) table needed
NeedsOn f options a answer = FindsNothing f a answer

-- Of a node with a master nothing is answered. Otherwise the answer is that of the node's fleet.
abbrev pub ShowsNeeds : Node → Options → Asked → Answer → Type 0
ShowsNeeds node options a answer = ((is_up node ≡ true) × (answer ≡ answers.Up))
    ⊎ ((f : FleetState) × IsDownOn f node × NeedsOn f options a answer)

-- ---- an adoption

-- a fleet after an answer: Stopped lifts its limit, and any other leaves it as it is
abbrev pub after_answer : Answer → FleetState → FleetState
after_answer Stopped f = limited f no_limit
after_answer answer f = f

-- No master of this configuration adopted the table over this fleet, and the answer tells why. The node has the fleet
-- as the adoption left it.
pub record IsDeclined (f : FleetState) (r : Rebuilt) (config : Config) (new : Node) (answer : Answer) : Type 0 where
  pub why : Refusal
  pub left : FleetState
  pub declines : DeclinesList config r f why left
  pub on : IsAdoptedOn config.master f left
  pub spent : why ≡ Spent → IsSpent left
  pub told : answer ≡ refusal_answer why
  pub down : IsDownOn (after_answer answer left) new

-- Either the table was adopted over this fleet, and the new master is up, or it was refused, and the answer tells so.
abbrev pub Adopts : FleetState → Rebuilt → Config → Node → Result Unit Answer → Type 0
Adopts f r config new (Ok u) = (m : MasterValue MemoryFleet) × (new ≡ Up m) × IsAdopted config r m.knows
    × IsValid m.knows (fleet_state m.fleet) × IsAdoptedOn config.master f (fleet_state m.fleet)
Adopts f r config new (Err answer) = IsDeclined f r config new answer

-- ---- freeing the replicas of other masters

-- why the replicas of other masters weren't all freed
abbrev pub IsCut : FleetState → Answer → Type 0
IsCut f Stopped = IsSpent f
IsCut f (NotRetired fault) = fault ≡ take_fault.Spent → ⊥
IsCut f answer = ⊥

-- no replica of another master is held
abbrev pub HasNoOther : FleetState → ℕ → Type 0
HasNoOther f master = (b m s : ℕ) → (m ≡ master → ⊥) → f.picture b m s ≡ None

-- Either the replicas of all other masters were freed, or that was cut short, and the master was dropped.
abbrev pub RetiresOthers : MasterData → Node → Result Unit Answer → Type 0
RetiresOthers d new (Ok u) = (m : MasterValue MemoryFleet) × (new ≡ Up m) × (m.knows ≡ d)
    × IsValid d (fleet_state m.fleet) × HasNoOther (fleet_state m.fleet) d.config.master
RetiresOthers d new (Err answer) =
    (f : FleetState) × IsValid d f × IsOf new (Some (left_now d f)) d × IsCut f answer

-- A master freed the replicas of all others, with this result. A fault of a backup halts it.
pub record Frees (old : World) (freed : Result Unit TakeFault) (new : World) : Type 0 where
  pub knows : new.knows ≡ retired_data freed old.knows
  pub valid : IsValid new.knows new.fleet
  pub retires : Retires old.fleet old.knows.config.master freed new.fleet

-- the answer if the freeing of replicas ended in this fault
abbrev pub fault_answer : TakeFault → Answer
fault_answer take_fault.Spent = Stopped
fault_answer fault = NotRetired fault

-- the master of a node freed the replicas, and goes on; or the answer tells why not, and the node has the fleet alone
abbrev pub EndsFreeing : World → Node → Result Unit Answer → Type 0
EndsFreeing old new (Ok u) = (next : World) × Frees old (Ok tt) next × (world_of new ≡ Some next)
EndsFreeing old new (Err answer) = (fault : TakeFault) × (next : World) × Frees old (Err fault) next
    × (answer ≡ fault_answer fault) × IsDownOn (after_answer answer next.fleet) new

-- ---- how a recovery ends

-- what is answered once a master has adopted the table
abbrev pub adopted_answer : Rebuilt → Result Unit TakeFault → Answer
adopted_answer table (Ok u) = Recovered table
adopted_answer table (Err fault) = fault_answer fault

-- the node has the new master, and its fleet holds no replica of another one; or it has the fleet alone
abbrev pub StandsAfter : World → Result Unit TakeFault → Node → Type 0
StandsAfter next (Ok u) new = (world_of new ≡ Some next) × HasNoOther next.fleet next.knows.config.master
StandsAfter next (Err fault) new = IsDownOn (after_answer (fault_answer fault) next.fleet) new
    × (fault ≡ take_fault.Spent → IsSpent next.fleet)

-- A master of this configuration adopted the table over this fleet, and freed the replicas of all others, or the
-- freeing was cut short.
pub record IsTakenOver (f : FleetState) (r : Rebuilt) (config : Config) (new : Node) (answer : Answer) : Type 0 where
  pub freed : Result Unit TakeFault
  pub next : World
  pub succeeds : IsSuccessor config r f freed next
  pub told : answer ≡ adopted_answer r freed
  pub stands : StandsAfter next freed new

-- A recovery of what this fleet holds ended, and a later one is for the master with this number. Either nothing was
-- found, and nothing changed. Or a table was found, and a master with the next number and these options was to adopt
-- it: it did, or it didn't.
abbrev pub EndsOn : FleetState → Options → Asked → ℕ → Node → Node → Answer → ℕ → Type 0
EndsOn f options a used old new answer number =
    (FindsNothing f a answer × (new ≡ old) × (number ≡ a.master) × (used ≡ a.used))
    ⊎ ((table : Rebuilt) × Rebuilds f a (Ok table) × IsNextNumber (max a.master a.used) f.picture used
    × ((IsDeclined f table (config_of options used) new answer × (number ≡ a.master))
    ⊎ (IsTakenOver f table (config_of options used) new answer × (number ≡ used))))

-- A recovery of a node ended. If the node has a master, nothing was done. Otherwise it was a recovery of the node's
-- fleet.
abbrev pub Ends : Node → Options → Asked → ℕ → Node → Answer → ℕ → Type 0
Ends old options a used new answer number =
    ((is_up old ≡ true) × (answer ≡ answers.Up) × (new ≡ old) × (number ≡ a.master) × (used ≡ a.used))
    ⊎ ((f : FleetState) × IsDownOn f old × EndsOn f options a used old new answer number)

-- a recovery that is stopped lifts the fleet's limit; at any other end the limit stays
abbrev pub MakesLimit : Node → Node → Answer → Type 0
MakesLimit old new Stopped = (f : FleetState) × IsDownOn f new × (f.end ≡ no_limit)
MakesLimit old new answer =
    option_map (λ (f : FleetState). f.end) (fleet_of new) ≡ option_map (λ (f : FleetState). f.end) (fleet_of old)

-- ---- lives

-- whatever life the node stood for, that life ended, and the new node stands for the next one, with the fleet after it
abbrev pub BeginsNext : Node → Config → ReplayOrder → Node → Config → Answer → Type 0
BeginsNext old config order new next answer = (d : MasterData) (at : Position) → IsNodeAt old config d at →
    (e : MasterData) × (to : Position) × IsNodeAt new next e to × (e.history ≡ [])
    × (s : Succeeds (standing_of config d at) (Recover order) answer (standing_of next e to))
    × (fleet_of new ≡ Some s.fleet)

-- What a recovery makes of a node, and of the number of the master that a later recovery is for. Either the life of
-- the master goes on, or the next life begins, by the options of later masters.
abbrev pub Recovers : Node → Options → Later → ℕ → ReplayOrder → Node → Answer → ℕ → Type 0
Recovers old options later master order new answer number =
    ((number ≡ master) × AnswersLine old (config_of options master) (Recover order) new answer)
    ⊎ BeginsNext old (config_of options master) order new (config_of (later_options later options) number) answer
