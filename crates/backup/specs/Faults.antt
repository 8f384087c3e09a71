-- Faults that are asked for, and what a take does by its answer.
use Rattle.std.specs.Prelude.{◌≡◌, ℕ, ◌+◌, ◌-◌, ◌<◌, Bool, false, Result, Ok, Err, if◌then◌else◌}
use Rattle.replica.specs.declared.op.TakeFault.{TakeFault}
use Rattle.replica.specs.declared.op.TakeFault.TheVariants as take_fault
use Rattle.replica.specs.Op.{OpValue}
use Rattle.replica.specs.Picture.{FleetState}
use Rattle.replica.specs.Registry.{Raises}
use Rattle.replica.specs.Take.{Takes, unanswered, no_limit}
use Rattle.backup.specs.declared.fleet.Asked.{Asked}
use Rattle.backup.specs.declared.fleet.MemoryFleet.{MemoryFleet}
use Rattle.backup.specs.Acts.{IsWrongOp}
use Rattle.backup.specs.State.{fleet_state}

-- no fault is asked for
abbrev pub nothing_asked : Asked
nothing_asked = record { takes = 0; taken = false }

-- one more op was taken
abbrev pub nearer : Asked → Asked
nearer asked = record { takes = asked.takes - 1; taken = asked.taken }

-- the next take is the one that a fault is asked for, and another fault can be counted
abbrev pub IsDue : MemoryFleet → Type 0
IsDue fleet = (fleet.asked.takes ≡ 1) × (fleet.faults < no_limit)

-- what a take does to a fleet if it is taken: an op of a backup, or a raise
abbrev pub Deed : Type 1
Deed = FleetState → FleetState → Type 0

abbrev pub TakesOp : ℕ → OpValue → Deed
TakesOp b op = λ old new. Takes old b op new

abbrev pub TakesRaise : ℕ → ℕ → Deed
TakesRaise master id = λ old new. Raises old master id new

-- The fleet would have done it. It did or not, as was asked, and one more fault is counted.
abbrev pub FaultsAsAsked : Deed → MemoryFleet → MemoryFleet → Type 0
FaultsAsAsked Does old new = (mid : FleetState) × Does (fleet_state old) mid
    × (fleet_state new ≡ unanswered (fleet_state old) (if old.asked.taken then mid else fleet_state old))

-- A take ends in a fault just if it is the one that was asked for, and the fleet would have done it. A take that is
-- refused otherwise isn't counted.
abbrev pub MeetsAsked : Deed → MemoryFleet → Result Unit TakeFault → MemoryFleet → Type 0
MeetsAsked Does old (Ok u) new = (IsDue old → ⊥) × (new.asked ≡ nearer old.asked)
MeetsAsked Does old (Err take_fault.Fault) new =
    IsDue old × (new.asked ≡ nothing_asked) × FaultsAsAsked Does old new
MeetsAsked Does old (Err _) new = new.asked ≡ old.asked

-- what is asked for once so many more ops were taken, none of which ended in the fault
abbrev pub after_takes : ℕ → Asked → Asked
after_takes count asked = record { takes = asked.takes - count; taken = asked.taken }

-- one more take if the op of the fault is lost, which isn't counted
abbrev pub lost_take : Asked → ℕ
lost_take asked = if asked.taken then 0 else 1

-- The takes of one call after another end in a fault just if it is the one that was asked for, and then they end. As
-- long as it hasn't come, it is as many takes nearer as there were.
abbrev pub MeetsAskedFreeing : MemoryFleet → Result Unit TakeFault → MemoryFleet → Type 0
MeetsAskedFreeing old (Err take_fault.Fault) new = (new.asked ≡ nothing_asked) × (0 < old.asked.takes)
    × (new.takes + lost_take old.asked ≡ old.takes + old.asked.takes)
MeetsAskedFreeing old result new = new.asked ≡ after_takes (new.takes - old.takes) old.asked

-- ---- without a fault

-- What a fleet does that ends no take in a fault. Spent is answered before Wrong, and NoMemory only if the op fits.
abbrev pub Serves : FleetState → ℕ → OpValue → Result Unit TakeFault → FleetState → Type 0
Serves old b op (Ok u) new = Takes old b op new
Serves old b op (Err take_fault.NoMemory) new = ((mid : FleetState) × Takes old b op mid) × (new ≡ old)
Serves old b op (Err take_fault.Wrong) new = IsWrongOp old b op × (new ≡ old)
Serves old b op (Err take_fault.Fault) new = ⊥
Serves old b op (Err take_fault.Spent) new = (old.takes ≡ old.end) × (new ≡ old)

-- the fleet that took an op whose ack isn't noted yet
abbrev pub unnoted : FleetState → FleetState → FleetState
unnoted old taken = record taken { acks = old.acks }

-- The same before anyone is answered.
abbrev pub ServesUnanswered : FleetState → ℕ → OpValue → Result Unit TakeFault → FleetState → Type 0
ServesUnanswered old b op (Ok u) new = (mid : FleetState) × Takes old b op mid × (new ≡ unnoted old mid)
ServesUnanswered old b op (Err fault) new = Serves old b op (Err fault) new

-- What is done with an op before its take ends in a fault: it is served or not.
abbrev pub Attempts : Bool → FleetState → ℕ → OpValue → Result Unit TakeFault → FleetState → Type 0
Attempts taken old b op (Ok u) new =
    (mid : FleetState) × Takes old b op mid × (new ≡ unnoted old (if taken then mid else old))
Attempts taken old b op (Err fault) new = Serves old b op (Err fault) new

-- The same of a raise, which is never wrong.
abbrev pub ServesRaise : FleetState → ℕ → ℕ → Result Unit TakeFault → FleetState → Type 0
ServesRaise old master id (Ok u) new = Raises old master id new
ServesRaise old master id (Err take_fault.NoMemory) new = (old.takes < old.end) × (new ≡ old)
ServesRaise old master id (Err take_fault.Wrong) new = ⊥
ServesRaise old master id (Err take_fault.Fault) new = ⊥
ServesRaise old master id (Err take_fault.Spent) new = (old.takes ≡ old.end) × (new ≡ old)

-- ---- the take that a fault is asked for

-- it ends in the fault, or it is refused
abbrev pub Fails : MemoryFleet → ℕ → OpValue → Result Unit TakeFault → MemoryFleet → Type 0
Fails old b op (Ok u) new = ⊥
Fails old b op (Err take_fault.Fault) new = (new.asked ≡ nothing_asked) × FaultsAsAsked (TakesOp b op) old new
Fails old b op (Err why) new = (new.asked ≡ old.asked) × Serves (fleet_state old) b op (Err why) (fleet_state new)

abbrev pub FailsRaise : MemoryFleet → ℕ → ℕ → Result Unit TakeFault → MemoryFleet → Type 0
FailsRaise old master id (Ok u) new = ⊥
FailsRaise old master id (Err take_fault.Fault) new =
    (new.asked ≡ nothing_asked) × FaultsAsAsked (TakesRaise master id) old new
FailsRaise old master id (Err why) new =
    (new.asked ≡ old.asked) × ServesRaise (fleet_state old) master id (Err why) (fleet_state new)
