-- Which listed segment is lost.
use Rattle.std.specs.Prelude.{◌≡◌, ℕ, ◌+◌, ◌<◌, List, length, slice_index, Option, Some, None}
use Rattle.entry.specs.declared.digest.Digest.{Digest}
use Rattle.entry.specs.Bag.{IsAmong}
use Rattle.entry.specs.Text.{listed_ids}
use Rattle.replica.specs.declared.holding.Holding.{Holding}
use Rattle.recovery_plan.specs.Good.{IsOf}
use Rattle.recovery_plan.specs.Looked.{IsUsableFor}

-- some replica of this segment of the master may be used
abbrev pub HasReplica : List Holding → ℕ → Digest → ℕ → Type 0
HasReplica hs master d id = (h : Holding) × IsAmong h hs × IsOf master id h × IsUsableFor d id h

-- This id is listed, and isn't the last. No replica of it may be used, and some replica of each id before it may.
pub record IsFirstLost (hs : List Holding) (master : ℕ) (d : Digest) (id : ℕ) : Type 0 where
  pub place : ℕ
  pub within : place + 1 < length (listed_ids d)
  pub listed : slice_index (listed_ids d) place ≡ id
  pub lost : HasReplica hs master d id → ⊥
  pub before : (k : ℕ) → k < place → HasReplica hs master d (slice_index (listed_ids d) k)

-- the first such id; None if each id but the last has a replica that may be used
abbrev pub IsFirstLostOf : List Holding → ℕ → Digest → Option ℕ → Type 0
IsFirstLostOf hs master d None =
    (k : ℕ) → k + 1 < length (listed_ids d) → HasReplica hs master d (slice_index (listed_ids d) k)
IsFirstLostOf hs master d (Some id) = IsFirstLost hs master d id
