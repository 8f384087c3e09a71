-- What an act does to the replica that it names, by its answer.
use Rattle.std.specs.Prelude.{◌≡◌, ℕ, ◌<◌, List, Bool, true, false, Option, Some, None, IsSome, Result, Ok, Err, ⊤}
use Rattle.replica.specs.declared.op.TakeFault.{TakeFault}
use Rattle.replica.specs.declared.op.TakeFault.TheVariants as take_fault
use Rattle.replica.specs.Op.{ActValue, Open, Extend, Close, Seal, Free, OpValue}
use Rattle.replica.specs.Picture.{Replica, FleetState}
use Rattle.replica.specs.Take.{effect, taken}

-- a replica is made with these bytes, open or closed
abbrev pub adding : List ℕ → Bool → ActValue
adding bytes true = Open bytes
adding bytes false = Seal bytes

-- it is done; or it fits and nothing is done; or it doesn't fit
abbrev pub Acts : ActValue → Option Replica → Result Unit TakeFault → Option Replica → Type 0
Acts act old (Ok u) new = effect act old ≡ Some new
Acts act old (Err take_fault.NoMemory) new = IsSome (effect act old) × (new ≡ old)
Acts act old (Err take_fault.Wrong) new = (effect act old ≡ None) × (new ≡ old)
Acts act old (Err take_fault.Fault) new = ⊥
Acts act old (Err take_fault.Spent) new = ⊥

-- the act makes a replica or a longer one, which may take memory
abbrev pub MayGrow : ActValue → Type 0
MayGrow (Open bytes) = ⊤
MayGrow (Extend at bytes) = ⊤
MayGrow Close = ⊥
MayGrow (Seal bytes) = ⊤
MayGrow Free = ⊥

-- the fleet isn't spent, and the op doesn't fit
abbrev pub IsWrongOp : FleetState → ℕ → OpValue → Type 0
IsWrongOp f backup op = (f.takes < f.end) × (taken f backup op ≡ None)
