-- What the bytes of replicas on the backups mean, whichever backups are left.
use Rattle.std.specs.Prelude.{◌≡◌, ℕ, ◌≤◌, max, length, take, Bool, Option, Some}
use Rattle.entry.specs.Meaning.{IsMeaning, IsClean, among, bound_of}
use Rattle.replica.specs.Choice.{Choice, IsShownChoice, bag_of}
use Rattle.replica.specs.Picture.{Replica, Shown, survivors}
use Rattle.replica.specs.Survival.{BothSurvive}
use Rattle.versioned_map.specs.History.{commands_of}
use Rattle.versioned_map.specs.Versioned.{IsSafeAfter}
use Rattle.log_laws.specs.ReplicaBytes.{IsTextOfSegment, BearOneDigest}
use Rattle.log_laws.specs.Data.{FailData, IsHome, state_after, durable_of}
use Rattle.log_laws.specs.Log.{AreOfTablets}
use Rattle.log_bytes.specs.Choice.{IsOpenedHead, IsNewestOpenedOrNone}

-- a choice of the master's newest log from what is shown if these backups are left
abbrev pub IsLeftChoice : ℕ → Shown → (ℕ → Bool) → Choice → Type 0
IsLeftChoice master shown keep c = IsShownChoice (survivors keep shown) master c

-- The entries of the choice mean the map after the first `count` commands, and every durable command is among these.
-- The choice also gives a safe version for the commands that follow.
pub record StandsForPrefix (d : FailData) (c : Choice) (count : ℕ) : Type 0 where
  pub durable : durable_of d ≤ count
  pub within : count ≤ length d.history
  pub meaning : IsMeaning (among (bag_of c)) (state_after d count).contents
  pub safe : IsSafeAfter d.opening (take count (commands_of d.history)) (max c.opening.safe (bound_of (bag_of c)))

-- What the backups show is sound: whichever of them are left, no choice of the newest log loses a durable command, and
-- there is a choice if both survive.
pub record IsSoundInBytes (master : ℕ) (d : FailData) (shown : Shown) : Type 0 where
  -- each replica of the master is a segment's text, whose header names the master and the segment
  pub texts : (b s : ℕ) (r : Replica) → shown.holds b master s ≡ Some r → IsTextOfSegment r.bytes master s
  pub digests : BearOneDigest shown.holds master
  -- whichever backups are left, each choice is clean, has only keys of the master's tablets, and means a prefix
  pub clean : (keep : ℕ → Bool) (c : Choice) → IsLeftChoice master shown keep c → IsClean (among (bag_of c))
  pub keys : (keep : ℕ → Bool) (c : Choice) → IsLeftChoice master shown keep c → AreOfTablets d.config (bag_of c)
  pub prefix : (keep : ℕ → Bool) (c : Choice) → IsLeftChoice master shown keep c
      → (count : ℕ) × StandsForPrefix d c count
  -- if both survive there is a choice
  pub choice : (keep : ℕ → Bool) (newest : Option ℕ) → IsNewestOpenedOrNone (IsOpenedHead d master shown) shown.least
      newest
      → BothSurvive (IsHome d) newest shown master keep → (c : Choice) × IsLeftChoice master shown keep c
