-- The registry of a fleet: for each master the least id of a head that a recovery may use. No call lowers this id.
use Rattle.std.specs.Prelude.{◌≡◌, ℕ, ◌+◌, ◌<◌, ◌⊎◌, ◌==◌, max, Result, Ok, Err, if◌then◌else◌}
use Rattle.replica.specs.declared.op.TakeFault.{TakeFault}
use Rattle.replica.specs.declared.op.TakeFault.TheVariants as take_fault
use Rattle.replica.specs.Picture.{FleetState}
use Rattle.replica.specs.Take.{faulted, unanswered}

-- the least head of this master becomes the greater of its old one and this id; those of other masters don't change
abbrev pub with_least : (ℕ → ℕ) → ℕ → ℕ → ℕ → ℕ
with_least least master id = λ m. if master == m then max (least m) id else least m

-- a raise is counted as a take, and changes no replica
abbrev pub raised : FleetState → ℕ → ℕ → FleetState
raised f master id = record f { takes = f.takes + 1; least = with_least f.least master id }

-- the fleet was not spent, and took the raise
abbrev pub Raises : FleetState → ℕ → ℕ → FleetState → Type 0
Raises old master id new = (old.takes < old.end) × (new ≡ raised old master id)

-- What a raise does that isn't answered Ok. If the answer is Fault, nobody knows whether the raise was taken. In each
-- other case it was not taken. The answer is never Wrong.
abbrev pub RefusesRaise : FleetState → ℕ → ℕ → TakeFault → FleetState → Type 0
RefusesRaise old master id take_fault.NoMemory new = new ≡ old
RefusesRaise old master id take_fault.Wrong new = ⊥
RefusesRaise old master id take_fault.Fault new =
    (new ≡ faulted old) ⊎ ((mid : FleetState) × Raises old master id mid × (new ≡ unanswered old mid))
RefusesRaise old master id take_fault.Spent new = (old.takes ≡ old.end) × (new ≡ old)

-- what a raise does, by its answer
abbrev pub RaiseGives : FleetState → ℕ → ℕ → Result Unit TakeFault → FleetState → Type 0
RaiseGives old master id (Ok u) new = Raises old master id new
RaiseGives old master id (Err fault) new = RefusesRaise old master id fault new
