-- How a recovery may choose the newest log from what is shown, and which losses of backups leave it a choice.
use Rattle.std.specs.Prelude.{◌≡◌, ℕ, ◌<◌, ◌≤◌, ◌⊎◌, List, [], ◌∷◌, ◌++◌, map, Bool, true, Some}
use Rattle.std.specs.List.{flat_map, AllByRecursion}
use Rattle.entry.specs.declared.entry.Entry.{Entry}
use Rattle.entry.specs.Bag.{IsAmong}
use Rattle.entry.specs.Text.{Opening, listed_ids}
use Rattle.log_laws.specs.Text.{Replica, IsUsable}
use Rattle.log_laws.specs.Shown.{Shown, HoldsHead}

-- ---- a choice

-- a replica, and the backup and the segment of which it is
pub record Holding : Type 0 where
  pub backup : ℕ
  pub segment : ℕ
  pub replica : Replica

abbrev pub IsHeld : Shown → Holding → Type 0
IsHeld s h = s.holds h.backup h.segment ≡ Some h.replica

-- a replica of the head with its opening, and one replica of each other id of the digest, in the digest's order
pub record Choice : Type 0 where
  pub opening : Opening
  pub head : Holding
  pub others : List Holding

-- all objects and tombstones of the choice
abbrev pub bag_of : Choice → List Entry
bag_of c = flat_map (λ (h : Holding). h.replica.text.entries) c.others ++ c.head.replica.text.entries

-- A choice of the newest log. Its head is the newest one that is held and isn't below the registry's least head, and
-- the head's replica is open. A recovery may use each other replica.
pub record IsChoice (s : Shown) (c : Choice) : Type 0 where
  pub held : IsHeld s c.head
  pub is_open : c.head.replica.is_open ≡ true
  pub opening : c.head.replica.text.opening ≡ Some c.opening
  pub usable : s.least ≤ c.head.segment
  pub newest : (b t : ℕ) → HoldsHead s b t → t ≤ c.head.segment
  pub others : AllByRecursion (λ (h : Holding). IsHeld s h × IsUsable c.opening.digest h.segment h.replica) c.others
  pub ids : map (λ (h : Holding). h.segment) c.others ++ c.head.segment ∷ [] ≡ listed_ids c.opening.digest

-- ---- which losses leave it

-- The layer above names the homes of segments (the backups that took an Open or a Seal of them and haven't failed), and
-- the opened heads (as many backups as a segment has replicas took their Open).

-- a replica of the head is on a backup that is left
abbrev pub IsHeadLeft : Shown → (ℕ → Bool) → ℕ → Type 0
IsHeadLeft s keep t = (b : ℕ) × (keep b ≡ true) × HoldsHead s b t

-- the head `t` is the newest opened head, and a recovery may use it
pub record IsNewestOpened (IsOpenedHead : ℕ → Type 0) (least t : ℕ) : Type 0 where
  pub opened : IsOpenedHead t
  pub usable : least ≤ t
  pub newest : (u : ℕ) → IsOpenedHead u → u ≤ t

-- one of the segment's homes is left
abbrev pub IsHomeLeft : (ℕ → ℕ → Type 0) → (ℕ → Bool) → ℕ → Type 0
IsHomeLeft IsHome keep t = (b : ℕ) × IsHome t b × (keep b ≡ true)

-- The head survives if a home of the newest opened head is left, or a replica of a later head. If no opened head may
-- be used, a replica of any head is enough.
abbrev pub HeadSurvives : (ℕ → ℕ → Type 0) → (ℕ → Type 0) → Shown → (ℕ → Bool) → Type 0
HeadSurvives IsHome IsOpenedHead s keep =
    ((t : ℕ) × IsNewestOpened IsOpenedHead s.least t
    × (IsHomeLeft IsHome keep t ⊎ ((u : ℕ) × (t < u) × IsHeadLeft s keep u)))
    ⊎ (((t : ℕ) → IsOpenedHead t → s.least ≤ t → ⊥) × ((u : ℕ) × IsHeadLeft s keep u))

-- the head `t` is the newest that is left, and a replica of it that is left has this opening
pub record IsNewestLeft (s : Shown) (keep : ℕ → Bool) (t : ℕ) (opening : Opening) : Type 0 where
  pub b : ℕ
  pub r : Replica
  pub is_kept : keep b ≡ true
  pub held : s.holds b t ≡ Some r
  pub bears : r.text.opening ≡ Some opening
  pub usable : s.least ≤ t
  pub newest : (u : ℕ) → IsHeadLeft s keep u → u ≤ t

-- For each other id of the digest of the newest head that is left, a home of that segment is left.
abbrev pub SegmentsSurvive : (ℕ → ℕ → Type 0) → Shown → (ℕ → Bool) → Type 0
SegmentsSurvive IsHome s keep = (t : ℕ) (opening : Opening) → IsNewestLeft s keep t opening →
    (id : ℕ) → IsAmong id (listed_ids opening.digest) → (id ≡ t → ⊥) → IsHomeLeft IsHome keep id

-- both the head and the segments survive if these backups are left
pub record BothSurvive (IsHome : ℕ → ℕ → Type 0) (IsOpenedHead : ℕ → Type 0) (s : Shown) (keep : ℕ → Bool) : Type 0
  where
    pub head : HeadSurvives IsHome IsOpenedHead s keep
    pub segments : SegmentsSurvive IsHome s keep
