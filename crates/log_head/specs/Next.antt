-- What the next push does, and the op that it hands over.
use Rattle.std.specs.Prelude.{◌≡◌, ℕ, ◌-◌, ◌<◌, List, [], length, take, drop, Option, Some, None, slice_get}
use Rattle.std.specs.Prelude.{unwrap_or, IsSome}
use Rattle.std.specs.Option.{option_map_or}
use Rattle.entry.specs.Text.{text_of}
use Rattle.replica.specs.Op.{ActValue, Open, Extend, Close, OpValue}
use Rattle.log_head.specs.declared.head.Roll.{Roll}
use Rattle.log_head.specs.declared.next.Next.{Next}
use Rattle.log_head.specs.declared.next.Next.TheVariants as next
use Rattle.log_head.specs.Head.{HeadValue, end_of, IsLagging}

-- Each replica is open and has each unit.
pub record IsWholeHead (h : HeadValue) : Type 0 where
  pub opened : length h.taken ≡ h.replicas
  pub none_lags : IsLagging (length h.units) h.taken None

-- The order of pushes: first each replica of the head is opened, then the replica that lags most is extended, then the
-- new head of a roll is opened, and then the old head is closed. None means that nothing is to push. A replacement of
-- a lost replica is no part of this order.
abbrev pub IsNextPush : HeadValue → Option Next → Type 0
IsNextPush h None = IsWholeHead h × (h.roll ≡ None)
IsNextPush h (Some (next.OpenFirst j)) = (j ≡ length h.taken) × (j < h.replicas)
IsNextPush h (Some (next.Extend j)) = (length h.taken ≡ h.replicas) × IsLagging (length h.units) h.taken (Some j)
IsNextPush h (Some (next.OpenWhole j)) = ⊥
IsNextPush h (Some (next.OpenNew j)) =
    IsWholeHead h × (r : Roll) × (h.roll ≡ Some r) × (j ≡ r.opened) × (j < h.replicas)
IsNextPush h (Some (next.CloseOld j)) =
    IsWholeHead h × (r : Roll) × (h.roll ≡ Some r) × (j ≡ r.closed) × (r.opened ≡ h.replicas)

-- ---- the op of a push

-- The push has an op: a replica that it extends is open, and if it opens a new head, a roll is under way.
abbrev pub HasOp : HeadValue → Next → Type 0
HasOp h (next.OpenFirst j) = Unit {0}
HasOp h (next.Extend j) = j < length h.taken
HasOp h (next.OpenWhole j) = Unit {0}
HasOp h (next.OpenNew j) = IsSome h.roll
HasOp h (next.CloseOld j) = Unit {0}

-- the number of the replica to which the push does something
abbrev pub replica_of : Next → ℕ
replica_of (next.OpenFirst j) = j
replica_of (next.Extend j) = j
replica_of (next.OpenWhole j) = j
replica_of (next.OpenNew j) = j
replica_of (next.CloseOld j) = j

-- how many units a replica has
abbrev pub units_of : HeadValue → ℕ → ℕ
units_of h j = unwrap_or (slice_get h.taken j) 0

-- the bytes of the image between the ends of these units
abbrev pub bytes_between : HeadValue → ℕ → ℕ → List ℕ
bytes_between h from to =
    let start = end_of h.base h.units from in
    take (end_of h.base h.units to - start) (drop start (text_of h.image))

-- the segment that the op of the push names: a roll's new head or this head
abbrev pub segment_of : HeadValue → Next → ℕ
segment_of h (next.OpenNew j) = option_map_or (λ (r : Roll). r.id) h.roll h.id
segment_of h _ = h.id

-- the bytes of the image of a roll's new head: its opening
abbrev pub new_bytes : HeadValue → List ℕ
new_bytes h = option_map_or (λ (r : Roll). text_of r.image) h.roll []

abbrev pub act_of : HeadValue → Next → ActValue
act_of h (next.OpenFirst j) = Open (take h.base (text_of h.image))
act_of h (next.Extend j) =
    Extend (end_of h.base h.units (units_of h j)) (bytes_between h (units_of h j) (length h.units))
act_of h (next.OpenWhole j) = Open (text_of h.image)
act_of h (next.OpenNew j) = Open (new_bytes h)
act_of h (next.CloseOld j) = Close

abbrev pub op_of : ℕ → HeadValue → Next → OpValue
op_of master h push = record { master = master; segment = segment_of h push; act = act_of h push }
