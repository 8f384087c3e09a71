-- The model's choices as replicas with bytes, and the newest opened head.
use Rattle.std.specs.Prelude.{ℕ, ◌≤◌, max, List, [], ◌∷◌, ◌++◌, map, length, Bool, Option, Some, None, nat_le}
use Rattle.std.specs.Prelude.{if◌then◌else◌, option_to_list}
use Rattle.replica.specs.declared.holding.Holding.{Holding}
use Rattle.replica.specs.Choice.{Choice}
use Rattle.replica.specs.Picture.{Shown}
use Rattle.replica.specs.Survival.{HoldsHead}
use Rattle.log_laws.specs.Choice.{Choice as ModelChoice, Holding as ModelHolding, IsNewestOpened}
use Rattle.log_laws.specs.Heads.{Start}
use Rattle.log_laws.specs.Data.{FailData, HasTaken, new_of}
use Rattle.log_bytes.specs.Text.{bytes_for}

-- ---- choices

abbrev pub holding_for : ℕ → ModelHolding → Holding
holding_for master h = record {
  backup = h.backup;
  master = master;
  segment = h.segment;
  bytes = bytes_for master h.segment h.replica.text;
  is_open = h.replica.is_open;
}

abbrev pub choice_for : ℕ → ModelChoice → Choice
choice_for master c = record {
  opening = c.opening;
  head = holding_for master c.head;
  others = map (holding_for master) c.others;
}

-- ---- which losses leave one

-- An opened head: as many backups as a segment has replicas took its Open, and one of them holds it as a head that may
-- be used.
abbrev pub IsOpenedHead : FailData → ℕ → Shown → ℕ → Type 0
IsOpenedHead d master shown s =
    (d.config.replicas ≤ length (d.took s)) × ((b : ℕ) × HasTaken d s b × HoldsHead shown master b s)

-- `Some s` is the newest opened head, and a recovery may use it; None means that no opened head may be used
abbrev pub IsNewestOpenedOrNone : (ℕ → Type 0) → ℕ → Option ℕ → Type 0
IsNewestOpenedOrNone IsOpened least (Some s) = IsNewestOpened IsOpened least s
IsNewestOpenedOrNone IsOpened least None = (s : ℕ) → IsOpened s → least ≤ s → ⊥

-- ---- which that is, of a log that is kept

-- true if as many backups as a segment has replicas took the head's Open
abbrev pub is_opened : FailData → ℕ → Bool
is_opened d s = nat_le d.config.replicas (length (d.took s))

-- the greater of a head and another one, if there is one
abbrev pub greater : ℕ → Option ℕ → Option ℕ
greater s None = Some s
greater s (Some t) = Some (max s t)

-- the greatest of these heads that as many backups took as a segment has replicas
abbrev pub greatest_opened : FailData → List Start → Option ℕ
greatest_opened d [] = None
greatest_opened d (n ∷ ns) = if is_opened d n.id then greater n.id (greatest_opened d ns) else greatest_opened d ns

-- the new heads and the head in force
abbrev pub heads_now : FailData → List Start
heads_now d = option_to_list (new_of d.mode) ++ (d.abandoned ++ d.head.start ∷ [])

-- the newest head that as many backups took as a segment has replicas
abbrev pub newest_opened : FailData → Option ℕ
newest_opened d = greatest_opened d (heads_now d)
