-- After which losses of backups a recovery still gets a master's log. 'IsHome s b' says that backup b is a home of
-- segment s, and the layer above defines it. 'keep' says which backups are left.
use Rattle.std.specs.Prelude.{◌≡◌, ℕ, ◌<◌, ◌≤◌, ◌⊎◌, Bool, true, Option, Some, None, IsSome, IsSomeAnd}
use Rattle.entry.specs.Bag.{IsAmong}
use Rattle.entry.specs.Text.{Opening, opening_in, listed_ids}
use Rattle.replica.specs.Choice.{IsUsableHead}
use Rattle.replica.specs.Picture.{Replica, Shown}

-- the backup holds a replica of the segment, and this replica bears a digest
abbrev pub HoldsHead : Shown → ℕ → ℕ → ℕ → Type 0
HoldsHead shown master b s = IsSomeAnd (shown.holds b master s) (λ (r : Replica). IsSome (opening_in r.bytes))

-- some backup that is left holds a replica of the segment, and this replica bears a digest
abbrev pub IsHeadLeft : Shown → ℕ → (ℕ → Bool) → ℕ → Type 0
IsHeadLeft shown master keep s = (b : ℕ) × (keep b ≡ true) × HoldsHead shown master b s

-- some home of the segment is left
abbrev pub IsHomeLeft : (ℕ → ℕ → Type 0) → (ℕ → Bool) → ℕ → Type 0
IsHomeLeft IsHome keep s = (b : ℕ) × IsHome s b × (keep b ≡ true)

-- If s is the newest head that was opened on all its homes, some home of s is left, or a replica of a later head. If no
-- head was opened on all its homes, a replica of some head that a recovery may use is left.
abbrev pub HeadSurvives : (ℕ → ℕ → Type 0) → Option ℕ → Shown → ℕ → (ℕ → Bool) → Type 0
HeadSurvives IsHome (Some s) shown master keep =
    IsHomeLeft IsHome keep s ⊎ ((t : ℕ) × (s < t) × IsHeadLeft shown master keep t)
HeadSurvives IsHome None shown master keep = (t : ℕ) × IsUsableHead shown.least t × IsHeadLeft shown master keep t

-- s is the newest head of which a replica is left, and one of these replicas bears this opening
pub record IsNewestLeft (shown : Shown) (master : ℕ) (keep : ℕ → Bool) (s : ℕ) (opening : Opening) : Type 0 where
  pub b : ℕ
  pub r : Replica
  pub is_kept : keep b ≡ true
  pub held : shown.holds b master s ≡ Some r
  pub bears : opening_in r.bytes ≡ Some opening
  pub newest : (t : ℕ) → IsHeadLeft shown master keep t → t ≤ s

-- for the newest head that is left: each other segment that its digest lists has a home that is left
abbrev pub SegmentsSurvive : (ℕ → ℕ → Type 0) → Shown → ℕ → (ℕ → Bool) → Type 0
SegmentsSurvive IsHome shown master keep = (s : ℕ) (opening : Opening) → IsNewestLeft shown master keep s opening →
    (id : ℕ) → IsAmong id (listed_ids opening.digest) → (id ≡ s → ⊥) → IsHomeLeft IsHome keep id

-- Both the head and the segments that its digest lists survive if these backups are left. 'opened' is the newest head
-- that was opened on all its homes, if there was one.
pub record BothSurvive (IsHome : ℕ → ℕ → Type 0) (opened : Option ℕ) (shown : Shown) (master : ℕ)
    (keep : ℕ → Bool) : Type 0 where
  pub head : HeadSurvives IsHome opened shown master keep
  pub segments : SegmentsSurvive IsHome shown master keep
