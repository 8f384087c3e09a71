-- Which replicas are good.
use Rattle.std.specs.Prelude.{◌≡◌, ℕ, ◌≤◌, List, true, Option, Some, None, IsSome, IsSomeAnd}
use Rattle.entry.specs.declared.entry.Header.{Header}
use Rattle.entry.specs.Bag.{IsAmong}
use Rattle.entry.specs.Text.{header_in, Opening, opening_in}
use Rattle.segment.specs.Bytes.{IsSegmentBytes}
use Rattle.replica.specs.declared.holding.Holding.{Holding}
use Rattle.replica.specs.Choice.{IsUsableOf}

-- the bytes are a segment's, whose header names the replica's master and segment
pub record IsGood (h : Holding) : Type 0 where
  pub segment : IsSegmentBytes h.bytes
  pub header :
      IsSomeAnd (header_in h.bytes) (λ (header : Header). (header.master ≡ h.master) × (header.segment ≡ h.segment))

-- each replica of the master is good
abbrev pub AreGood : ℕ → List Holding → Type 0
AreGood master hs = (h : Holding) → IsAmong h hs → h.master ≡ master → IsGood h

-- a replica of the master that has a digest
abbrev pub IsHeadOf : ℕ → Holding → Type 0
IsHeadOf master h = (h.master ≡ master) × IsSome (opening_in h.bytes)

-- an open replica of this segment of the master, which has a digest
abbrev pub IsOpenHead : ℕ → ℕ → Holding → Type 0
IsOpenHead master id h = IsHeadOf master h × (h.segment ≡ id) × (h.is_open ≡ true)

-- a replica of this segment of the master
abbrev pub IsOf : ℕ → ℕ → Holding → Type 0
IsOf master id h = (h.master ≡ master) × (h.segment ≡ id)

-- a replica that may be used for this id of the digest, which is not the head's
abbrev pub IsReplicaOf : ℕ → Opening → ℕ → Holding → Type 0
IsReplicaOf master opening id h = IsUsableOf master opening h × (h.segment ≡ id)

-- some replica with a digest is of this segment, and none is of a segment with a greater id
pub record IsNewest (master : ℕ) (hs : List Holding) (id : ℕ) : Type 0 where
  pub head : Holding
  pub among : IsAmong head hs
  pub is_head : IsHeadOf master head
  pub segment : head.segment ≡ id
  pub greatest : (h : Holding) → IsAmong h hs → IsHeadOf master h → h.segment ≤ id

-- the id of the newest head; None if no replica has a digest
abbrev pub IsNewestOf : ℕ → List Holding → Option ℕ → Type 0
IsNewestOf master hs None = (h : Holding) → IsAmong h hs → IsHeadOf master h → ⊥
IsNewestOf master hs (Some id) = IsNewest master hs id
