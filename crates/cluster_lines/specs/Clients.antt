-- What clients make of a master, and of a node.
use Rattle.std.specs.Prelude.{◌≡◌, ◌⊎◌, ℕ, ◌*◌, length, Bool, IsTrue, Result, Ok, Err, IfOk, OnOk, IfSome}
use Rattle.backup.specs.State.{fleet_state}
use Rattle.backup.specs.declared.fleet.MemoryFleet.{MemoryFleet}
use Rattle.history.specs.Seats.{AreAccepted}
use Rattle.replica.specs.Picture.{FleetState}
use Rattle.store_clients.specs.locked_log.Made.{IsMade, made_now}
use Rattle.store_clients.specs.locked_log.store_seat.declared.fault.CallFault.{CallFault}
use Rattle.store_clients.specs.locked_log.store_seat.declared.fault.CallFault.TheVariants as call_fault
use Rattle.cluster.specs.master.log_laws.Data.{durable_of}
use Rattle.cluster.specs.master.master_state.declared.step.Refusal.{Refusal}
use Rattle.cluster.specs.master.master_state.declared.step.Refusal.TheVariants.{Spent}
use Rattle.cluster.specs.master.master_state.Log.{log_of}
use Rattle.cluster.specs.master.Valid.{IsValid}
use Rattle.cluster.specs.master.World.{MasterValue, World, world}
use Rattle.cluster.specs.answers.declared.answer.Answer.{Answer}
use Rattle.cluster.specs.answers.declared.answer.Answer.TheVariants.{Counted, Refused, Stopped}
use Rattle.cluster.specs.answers.declared.answer.Answer.TheVariants as answers
use Rattle.cluster.specs.driving.Served.{IsSpent}
use Rattle.cluster.specs.declared.node.Node.{Node}
use Rattle.cluster.specs.declared.node.Node.TheVariants.{Up}
use Rattle.cluster.specs.Served.{IsLeftIn, Refuses, fleet_of}

-- ---- a master

-- Clients made their rounds over a master, which went on with its history, and no least head was raised. The result is
-- how many of their calls were accepted, or the first refusal. If none was refused, two calls were accepted for each
-- round of each client. Then the client with seat k, from 1 on, made just its records, no other seat made one, and all
-- records are durable.
pub record RunsClients (clients rounds : ℕ) (old : World) (calls : Result ℕ CallFault) (new : World) : Type 0 where
  pub goes_on : IsMade (made_now 64 old) new
  pub valid : IsValid new.knows new.fleet
  pub count : IfOk calls (λ (n : ℕ). n ≡ 2 * rounds * clients)
  pub durable : OnOk calls (durable_of (log_of new.knows) ≡ length new.knows.history)
  pub accepted : OnOk calls (AreAccepted clients rounds old.knows.history new.knows.history)

-- ---- a node

-- the answer to a refusal of clients over this fleet; for Spent it is Stopped if the fleet takes no more ops
abbrev pub IsClientsRefusal : FleetState → Refusal → Answer → Type 0
IsClientsRefusal f Spent answer =
    ((answer ≡ Stopped) × IsSpent f) ⊎ ((answer ≡ answers.SeatUnknown) × (IsSpent f → ⊥))
IsClientsRefusal f r answer = answer ≡ Refused r

-- what is answered to clients over this fleet: the count of their calls, or the first refusal
abbrev pub IsClientsAnswer : FleetState → ℕ → ℕ → Result ℕ CallFault → Answer → Type 0
IsClientsAnswer f clients rounds (Ok calls) answer = answer ≡ Counted clients rounds calls
IsClientsAnswer f clients rounds (Err (call_fault.Refused r)) answer = IsClientsRefusal f r answer
IsClientsAnswer f clients rounds (Err (call_fault.Unsure place r)) answer = IsClientsRefusal f r answer
IsClientsAnswer f clients rounds (Err call_fault.SeatUnknown) answer = answer ≡ answers.SeatUnknown
IsClientsAnswer f clients rounds (Err call_fault.CellRefused) answer = answer ≡ answers.CellRefused
IsClientsAnswer f clients rounds (Err call_fault.CellsSpent) answer = answer ≡ answers.CellRefused
-- clients settle nothing, so this never comes
IsClientsAnswer f clients rounds (Err call_fault.NotYours) answer = answer ≡ answers.SeatUnknown

-- Clients made their rounds over a master, and the node has it again. If no call was refused, the store could tell
-- whose its records were.
pub record Lends (m : MasterValue MemoryFleet) (clients rounds : ℕ) (calls : Result ℕ CallFault) (known : Bool)
    (new : Node) : Type 0 where
  pub back : MasterValue MemoryFleet
  pub is : new ≡ Up back
  pub runs : RunsClients clients rounds (world fleet_state m) calls (world fleet_state back)
  pub tells : OnOk calls (IsTrue known)

-- A refusal of clients is answered as any other. But if it is Spent, and the fleet takes more ops, the answer is
-- SeatUnknown, and nothing changed.
abbrev pub RefusesWork : Node → Refusal → Node → Answer → Type 0
RefusesWork old Spent new answer = (Refuses old Spent new answer × IfSome (fleet_of old) IsSpent)
    ⊎ ((answer ≡ answers.SeatUnknown) × (new ≡ old) × (IfSome (fleet_of old) IsSpent → ⊥))
RefusesWork old r new answer = Refuses old r new answer

-- the first refusal of clients is answered
abbrev pub RefusesCall : Node → CallFault → Node → Answer → Type 0
RefusesCall old (call_fault.Refused r) new answer = RefusesWork old r new answer
RefusesCall old (call_fault.Unsure place r) new answer = RefusesWork old r new answer
RefusesCall old call_fault.SeatUnknown new answer = (answer ≡ answers.SeatUnknown) × (new ≡ old)
RefusesCall old call_fault.CellRefused new answer = (answer ≡ answers.CellRefused) × (new ≡ old)
RefusesCall old call_fault.CellsSpent new answer = (answer ≡ answers.CellRefused) × (new ≡ old)
RefusesCall old call_fault.NotYours new answer = (answer ≡ answers.SeatUnknown) × (new ≡ old)

-- Just these clients make their rounds over the master of a node that is up, and the answer tells what comes of them.
-- Any other node does nothing.
abbrev pub MakesClients : Node → ℕ → ℕ → Node → Answer → Type 0
MakesClients (Up m) clients rounds new answer = (calls : Result ℕ CallFault) × (w : World)
    × RunsClients clients rounds (world fleet_state m) calls w × IsClientsAnswer w.fleet clients rounds calls answer
    × IsLeftIn w answer new
MakesClients old clients rounds new answer = (new ≡ old) × (answer ≡ answers.Down)
