-- What the replicas on the backups mean, whichever backups are left.
use Rattle.std.specs.Prelude.{◌≡◌, ℕ, ◌≤◌, max, length, take, Bool, Some}
use Rattle.entry.specs.Meaning.{IsMeaning, IsClean, among, bound_of}
use Rattle.versioned_map.specs.History.{commands_of}
use Rattle.versioned_map.specs.Versioned.{IsSafeAfter}
use Rattle.log_laws.specs.Text.{Replica}
use Rattle.log_laws.specs.Shown.{Shown, survivors, HoldsHead}
use Rattle.log_laws.specs.Choice.{Choice, IsChoice, bag_of, BothSurvive}
use Rattle.log_laws.specs.Data.{FailData, HasTaken, IsHome, state_after, durable_of}
use Rattle.log_laws.specs.Log.{AreOfTablets}

-- An opened head: as many backups as a segment has replicas took its Open, and one of them holds it as a head that may
-- be used.
abbrev pub IsOpenedHead : FailData → Shown → ℕ → Type 0
IsOpenedHead d p s = (d.config.replicas ≤ length (d.took s)) × ((b : ℕ) × HasTaken d s b × HoldsHead p b s)

-- a choice of the newest log from what the backups that are left hold
abbrev pub IsSurvivingChoice : Shown → (ℕ → Bool) → Choice → Type 0
IsSurvivingChoice p keep c = IsChoice (survivors keep p) c

-- any two replicas of a segment have the same opening, so the same digest
abbrev pub BearOneDigest : Shown → Type 0
BearOneDigest p = (b c s : ℕ) (r q : Replica) → p.holds b s ≡ Some r → p.holds c s ≡ Some q
    → r.text.opening ≡ q.text.opening

-- The entries of the choice mean the map after the first `count` commands, and every durable command is among these.
-- The choice also gives a safe version for the commands that follow.
pub record IsPrefix (d : FailData) (c : Choice) (count : ℕ) : Type 0 where
  pub durable : durable_of d ≤ count
  pub within : count ≤ length d.history
  pub meaning : IsMeaning (among (bag_of c)) (state_after d count).contents
  pub safe : IsSafeAfter d.opening (take count (commands_of d.history)) (max c.opening.safe (bound_of (bag_of c)))

-- What the backups show is sound: whichever of them are left, no choice of the newest log loses a durable command, and
-- there is a choice if both survive.
pub record IsSound (d : FailData) (p : Shown) : Type 0 where
  pub digests : BearOneDigest p
  -- whichever backups are left, each choice is clean, has only keys of the master's tablets, and means a prefix
  pub clean : (keep : ℕ → Bool) (c : Choice) → IsSurvivingChoice p keep c → IsClean (among (bag_of c))
  pub keys : (keep : ℕ → Bool) (c : Choice) → IsSurvivingChoice p keep c → AreOfTablets d.config (bag_of c)
  pub prefix : (keep : ℕ → Bool) (c : Choice) → IsSurvivingChoice p keep c → (count : ℕ) × IsPrefix d c count
  -- if both survive there is a choice
  pub choice : (keep : ℕ → Bool) → BothSurvive (IsHome d) (IsOpenedHead d p) p keep
      → (c : Choice) × IsSurvivingChoice p keep c
