-- How the replicas of a digest's ids are looked up.
use Rattle.std.specs.Prelude.{◌≡◌, ◌⊎◌, ℕ, ◌+◌, ◌-◌, ◌<◌, ◌≤◌, List, [], ◌∷◌, take, map, length, slice_index, false}
use Rattle.std.specs.Prelude.{Option, Some, None, IfSome}
use Rattle.std.specs.Borrow.{Bor}
use Rattle.std.specs.Option.{option_copied}
use Rattle.entry.specs.declared.digest.Digest.{Digest}
use Rattle.entry.specs.Text.{listed_ids, listed_len}
use Rattle.replica.specs.declared.holding.Holding.{Holding}
use Rattle.recovery_plan.specs.declared.fault.PlanFault.{PlanFault}
use Rattle.recovery_plan.specs.declared.fault.PlanFault.TheVariants.{Missing, NoMemory}
use Rattle.recovery_plan.specs.Good.{IsOf}
use Rattle.recovery_plan.specs.Preferred.{IsBest}

-- the replicas, whatever their places in memory
abbrev pub lent : List (Bor Holding) → List Holding
lent hs = map (λ (h : Bor Holding). h.now) hs

-- the look-up has the preferred replica of each segment
abbrev pub ArePreferred : ℕ → List Holding → (ℕ → Option (Bor Holding)) → Type 0
ArePreferred master hs look = (id : ℕ) → IsBest (IsOf master id) hs (option_copied (look id))

-- the ids of a digest but the last, which is the head's own
abbrev pub without_last : List ℕ → List ℕ
without_last ids = take (length ids - 1) ids

-- the replica may be used for this segment of the digest
abbrev pub IsUsableFor : Digest → ℕ → Holding → Type 0
IsUsableFor d id h = (h.is_open ≡ false) ⊎ IfSome (listed_len id d) (λ n. n ≤ length h.bytes)

-- what is found of a segment: the replica that the look-up has of it, if that may be used
abbrev pub IsFound : (ℕ → Option (Bor Holding)) → Digest → ℕ → Option (Bor Holding) → Type 0
IsFound look d id None = (h : Bor Holding) → look id ≡ Some h → IsUsableFor d id h.now → ⊥
IsFound look d id (Some h) = (look id ≡ Some h) × IsUsableFor d id h.now

-- what is found of the segments, id by id
abbrev pub AreFound : (ℕ → Option (Bor Holding)) → Digest → List ℕ → List (Bor Holding) → Type 0
AreFound look d [] [] = Unit {0}
AreFound look d [] (h ∷ hs) = ⊥
AreFound look d (id ∷ ids) [] = ⊥
AreFound look d (id ∷ ids) (h ∷ hs) = IsFound look d id (Some h) × AreFound look d ids hs

-- the first id, except the last one, of which nothing is found
pub record IsFirstLacking (look : ℕ → Option (Bor Holding)) (d : Digest) (id : ℕ) : Type 0 where
  pub place : ℕ
  pub within : place + 1 < length (listed_ids d)
  pub listed : slice_index (listed_ids d) place ≡ id
  pub lacking : IsFound look d id None
  pub before : (k : ℕ) → k < place → (h : Bor Holding) × IsFound look d (slice_index (listed_ids d) k) (Some h)

-- why replicas are not found for all ids
abbrev pub IsLack : (ℕ → Option (Bor Holding)) → Digest → PlanFault → Type 0
IsLack look d (Missing id) = IsFirstLacking look d id
IsLack look d NoMemory = Unit {0}
IsLack look d _ = ⊥
