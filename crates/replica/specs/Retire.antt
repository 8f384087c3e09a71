-- What it means to retire all masters but one: their replicas are freed, one after another.
use Rattle.std.specs.Prelude.{◌≡◌, ◌↔◌, ℕ, ◌+◌, ◌⊎◌, List, [], ◌∷◌, ◌++◌, length, IsSome, Result, Ok, Err}
use Rattle.std.specs.Ordering.{nat_cmp, ordering_then}
use Rattle.std.specs.declared.cmp.Ordering.{Ordering}
use Rattle.std.specs.List.Sorted.{IsStrictlySortedBy}
use Rattle.entry.specs.Bag.{IsAmong}
use Rattle.replica.specs.declared.op.TakeFault.{TakeFault}
use Rattle.replica.specs.declared.op.TakeFault.TheVariants as take_fault
use Rattle.replica.specs.declared.spot.Spot.{Spot}
use Rattle.replica.specs.Op.{Free, OpValue}
use Rattle.replica.specs.Picture.{Picture, FleetState}
use Rattle.replica.specs.Take.{Takes, Refuses}

-- ---- which replicas

-- the order of spots: by backup, then by master, then by segment
abbrev pub spot_cmp : Spot → Spot → Ordering
spot_cmp x y =
    ordering_then (nat_cmp x.backup y.backup) (ordering_then (nat_cmp x.master y.master) (nat_cmp x.segment y.segment))

-- a replica is at this spot, and its master is not the one that is kept
abbrev pub HoldsOther : Picture → ℕ → Spot → Type 0
HoldsOther p keep spot = (spot.master ≡ keep → ⊥) × IsSome (p spot.backup spot.master spot.segment)

-- The spots are exactly those of the replicas of other masters, each once, in order.
pub record AreOthers (spots : List Spot) (p : Picture) (keep : ℕ) : Type 0 where
  pub each : (spot : Spot) → IsAmong spot spots ↔ HoldsOther p keep spot
  pub rising : IsStrictlySortedBy spot_cmp spots

-- ---- what is done

-- the op that frees the replica at a spot
abbrev pub freeing : Spot → OpValue
freeing spot = record { master = spot.master; segment = spot.segment; act = Free }

-- the fleet takes one Free for each spot, in order
abbrev pub TakesEach : FleetState → List Spot → FleetState → Type 0
TakesEach old [] new = new ≡ old
TakesEach old (spot ∷ spots) new =
    (mid : FleetState) × Takes old spot.backup (freeing spot) mid × TakesEach mid spots new

-- The replicas at these spots are freed, each by one take.
pub record FreesEach (old : FleetState) (spots : List Spot) (new : FleetState) : Type 0 where
  pub each : TakesEach old spots new
  pub takes : new.takes ≡ old.takes + length spots

-- The replicas at the spots before some spot are freed, and the Free for this spot ends in this fault.
pub record EndsAt (old : FleetState) (spots : List Spot) (fault : TakeFault) (new : FleetState) : Type 0 where
  pub front : List Spot
  pub next : Spot
  pub rest : List Spot
  pub split : spots ≡ front ++ next ∷ rest
  pub mid : FleetState
  pub freed : FreesEach old front mid
  pub refused : Refuses mid next.backup (freeing next) fault new

-- If the answer is Ok, the replicas of all masters but one were freed, in order. If the answer is a fault, no Free came
-- after the first one that failed, or memory ran out before the first one.
abbrev pub Retires : FleetState → ℕ → Result Unit TakeFault → FleetState → Type 0
Retires old keep (Ok u) new = (spots : List Spot) × AreOthers spots old.picture keep × FreesEach old spots new
Retires old keep (Err fault) new =
    ((spots : List Spot) × AreOthers spots old.picture keep × EndsAt old spots fault new)
    ⊎ ((fault ≡ take_fault.NoMemory) × (new ≡ old))
