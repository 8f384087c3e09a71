-- What an op does to a fleet.
use Rattle.std.specs.Prelude.{◌≡◌, ℕ, ◌+◌, ◌-◌, ◌^◌, ◌<◌, ◌⊎◌, ◌==◌, ◌&&◌, ◌∷◌, ◌++◌, length, min, true}
use Rattle.std.specs.Prelude.{false, Option, Some, None, Result, Ok, Err, nat_lt, if◌then◌else◌}
use Rattle.replica.specs.declared.op.TakeFault.{TakeFault}
use Rattle.replica.specs.declared.op.TakeFault.TheVariants as take_fault
use Rattle.replica.specs.Op.{ActValue, Open, Extend, Close, Seal, Free, OpValue}
use Rattle.replica.specs.Picture.{Replica, FleetState, with_replica}

-- what is at the op's place after the act, a replica or nothing, by what was there before; None if the act doesn't fit
abbrev pub effect : ActValue → Option Replica → Option (Option Replica)
effect (Open bytes) None = Some (Some (record { bytes = bytes; is_open = true }))
effect (Open bytes) (Some r) = None
effect (Extend at bytes) None = None
effect (Extend at bytes) (Some r) =
    if r.is_open && (at == length r.bytes) then Some (Some (record { bytes = r.bytes ++ bytes; is_open = true }))
    else None
effect Close None = None
effect Close (Some r) = if r.is_open then Some (Some (record { bytes = r.bytes; is_open = false })) else None
effect (Seal bytes) None = Some (Some (record { bytes = bytes; is_open = false }))
effect (Seal bytes) (Some r) = None
effect Free None = None
effect Free (Some r) = Some None

-- the fleet after it took the op and answered Ok, by what the act made of the replica; None if the act doesn't fit
abbrev pub with_effect : FleetState → ℕ → OpValue → Option (Option Replica) → Option FleetState
with_effect f b op None = None
with_effect f b op (Some r) = Some (record {
  backups = f.backups;
  picture = with_replica f.picture b op.master op.segment r;
  takes = f.takes + 1;
  end = f.end;
  faults = f.faults;
  least = f.least;
  acks = record { backup = b; op = op } ∷ f.acks;
})

-- the fleet after it took the op and answered Ok; None if there is no such backup, or the op doesn't fit
abbrev pub taken : FleetState → ℕ → OpValue → Option FleetState
taken f b op =
    if nat_lt b f.backups then with_effect f b op (effect op.act (f.picture b op.master op.segment)) else None

-- the same fleet, with one more fault
abbrev pub faulted : FleetState → FleetState
faulted f = record f { faults = f.faults + 1 }

-- the fleet after an op or a raise was taken and ended in Fault: one more fault is counted, and there is no new ack
abbrev pub unanswered : FleetState → FleetState → FleetState
unanswered old left = record left { faults = left.faults + 1; acks = old.acks }

-- the fleet was not spent, and took the op
abbrev pub Takes : FleetState → ℕ → OpValue → FleetState → Type 0
Takes old b op new = (old.takes < old.end) × (taken old b op ≡ Some new)

-- What a take does that isn't answered Ok. If the answer is Fault, nobody knows whether the op was taken. In each other
-- case the op was not taken.
abbrev pub Refuses : FleetState → ℕ → OpValue → TakeFault → FleetState → Type 0
Refuses old b op take_fault.NoMemory new = new ≡ old
Refuses old b op take_fault.Wrong new = (taken old b op ≡ None) × (new ≡ old)
Refuses old b op take_fault.Fault new =
    (new ≡ faulted old) ⊎ ((mid : FleetState) × Takes old b op mid × (new ≡ unanswered old mid))
Refuses old b op take_fault.Spent new = (old.takes ≡ old.end) × (new ≡ old)

-- what a take does, by its answer
abbrev pub TakeGives : FleetState → ℕ → OpValue → Result Unit TakeFault → FleetState → Type 0
TakeGives old b op (Ok u) new = Takes old b op new
TakeGives old b op (Err fault) new = Refuses old b op fault new

-- the greatest number of 64 bits, which stands for no limit
abbrev pub no_limit : ℕ
no_limit = 2 ^ 64 - 1

-- the same fleet, limited to so many further takes
abbrev pub limited : FleetState → ℕ → FleetState
limited f n = record f { end = min (f.takes + n) no_limit }
