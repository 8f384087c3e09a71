-- Which replicas a recovery may choose as a master's newest log.
use Rattle.std.specs.Prelude.{◌≡◌, ◌⊎◌, ℕ, ◌≤◌, List, [], ◌∷◌, ◌++◌, map, length, true, false, Some, IsSome, IfSome}
use Rattle.std.specs.List.{flat_map, AllByRecursion}
use Rattle.entry.specs.declared.entry.Entry.{Entry}
use Rattle.entry.specs.Text.{Opening, opening_in, data_in, listed_ids, listed_len}
use Rattle.replica.specs.declared.holding.Holding.{Holding}
use Rattle.replica.specs.Picture.{Shown, IsHeld}

-- a recovery may use the head of this id: the id is not below the least one
abbrev pub IsUsableHead : ℕ → ℕ → Type 0
IsUsableHead least segment = least ≤ segment

-- A recovery may use a replica of a listed segment if the replica is closed, or has at least the listed length. If the
-- digest lists no length for the segment, the recovery may use each replica.
abbrev pub IsUsableReplica : Opening → Holding → Type 0
IsUsableReplica opening h =
    (h.is_open ≡ false) ⊎ IfSome (listed_len h.segment opening.digest) (λ n. n ≤ length h.bytes)

-- a replica of the head with its opening, and one replica of each other segment that its digest lists, in the digest's
-- order
pub record Choice : Type 0 where
  pub opening : Opening
  pub head : Holding
  pub others : List Holding

-- all objects and tombstones in the chosen replicas
abbrev pub bag_of : Choice → List Entry
bag_of c = flat_map (λ (h : Holding). data_in h.bytes) (c.others ++ c.head ∷ [])

-- the replica is the master's and bears a digest, and a recovery may use its head
abbrev pub IsUsableHeadOf : ℕ → ℕ → Holding → Type 0
IsUsableHeadOf least master h = (h.master ≡ master) × IsSome (opening_in h.bytes) × IsUsableHead least h.segment

-- the replica is the master's, and a recovery may use it for a listed segment other than the head
abbrev pub IsUsableOf : ℕ → Opening → Holding → Type 0
IsUsableOf master opening h = (h.master ≡ master) × IsUsableReplica opening h

-- A choice of a master's newest log from the replicas that are held. 'least' is the least id of a head that a recovery
-- may use.
pub record IsChoice (holds : Holding → Type 0) (least master : ℕ) (c : Choice) : Type 0 where
  pub held : holds c.head
  pub of_master : c.head.master ≡ master
  pub is_open : c.head.is_open ≡ true
  pub opening : opening_in c.head.bytes ≡ Some c.opening
  pub usable : IsUsableHead least c.head.segment
  -- no head that may be used is newer
  pub newest : (h : Holding) → holds h → IsUsableHeadOf least master h → h.segment ≤ c.head.segment
  pub others : AllByRecursion (λ (h : Holding). holds h × IsUsableOf master c.opening h) c.others
  pub ids : map (λ (h : Holding). h.segment) c.others ++ c.head.segment ∷ [] ≡ listed_ids c.opening.digest

-- a choice of a master's newest log from what a recovery is shown
abbrev pub IsShownChoice : Shown → ℕ → Choice → Type 0
IsShownChoice s master c = IsChoice (IsHeld s.holds) s.least master c
