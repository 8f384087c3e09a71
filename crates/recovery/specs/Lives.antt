-- Lives of a log one after another: each begins with what was recovered of the one before it.
use Rattle.std.specs.Prelude.{◌≡◌, ℕ, ◌<◌, ◌≤◌, ◌⊎◌, List, [], ◌∷◌, ◌++◌, take, drop, Some}
use Rattle.entry.specs.declared.key.Key.{Key}
use Rattle.entry.specs.Bag.{IsAmong}
use Rattle.entry.specs.Meaning.{Versioned, contents_of}
use Rattle.claims.specs.declared.rebuilt.Rebuilt.{Rebuilt}
use Rattle.versioned_map.specs.declared.command.Command.{Command}
use Rattle.versioned_map.specs.declared.command.Command.TheVariants.{Get, Put, Delete}
use Rattle.versioned_map.specs.History.{commands_of}
use Rattle.versioned_map.specs.Versioned.{State}
use Rattle.replay.specs.master.log_laws.Data.{FailData, state_after}
use Rattle.recovery.specs.Recovered.{IsRecovered}

-- one life: its log, and what was recovered at its end, which is the map after some number of its commands
pub record Life : Type 0 where
  pub log : FailData
  pub recovered : Rebuilt
  pub found : IsRecovered log recovered

-- the state that the next life begins with
abbrev pub taken_over : Rebuilt → State
taken_over r = record { contents = contents_of r.objects; safe = r.safe }

-- the log of the first of these lives, or that of the life that goes on after them
abbrev pub first_log : List Life → FailData → FailData
first_log [] on = on
first_log (l ∷ ls) on = l.log

-- the logs of these lives, and that of the life that goes on after them
abbrev pub logs_of : List Life → FailData → List FailData
logs_of [] on = on ∷ []
logs_of (l ∷ ls) on = l.log ∷ logs_of ls on

-- Each of these lives ended in a recovery. The next life begins with what was recovered, and after the last one the
-- life with the log `on`, which goes on.
abbrev pub AreLives : List Life → FailData → Type 0
AreLives [] on = Unit {0}
AreLives (l ∷ ls) on = ((first_log ls on).opening ≡ taken_over l.recovered) × AreLives ls on

-- y has the version and the value of x, or a greater version
abbrev pub IsSameOrNewer : Versioned → Versioned → Type 0
IsSameOrNewer x y = (x ≡ y) ⊎ (x.version < y.version)

-- ---- commands that leave a key alone

-- the command is no put and no delete of the key
abbrev pub Spares : Key → Command → Type 0
Spares k (Get q) = Unit {0}
Spares k (Put q value when) = q ≡ k → ⊥
Spares k (Delete q) = q ≡ k → ⊥

abbrev pub AllSpare : Key → List Command → Type 0
AllSpare k cs = (c : Command) → IsAmong c cs → Spares k c

-- the commands of a life that were recovered
abbrev pub recovered_of : Life → List Command
recovered_of l = take l.found.count (commands_of l.log.history)

-- ---- laws

-- Say a key has a version and a value in a life, after records that were recovered. In each later life, up to the one
-- that goes on, it has the same version and value, or a greater version, or nothing. Records behind the recovered ones
-- are lost, and their versions may be given again.
abbrev pub VersionsRise : Type 0
VersionsRise = (l : Life) (later : List Life) (on d : FailData) (a b : ℕ) (k : Key) (x y : Versioned)
    → AreLives (l ∷ later) on → IsAmong d (logs_of later on)
    → a ≤ l.found.count → (state_after l.log a).contents k ≡ Some x
    → (state_after d b).contents k ≡ Some y → IsSameOrNewer x y

-- Say a key has a version and a value in a life, after records that were recovered, as the acknowledged ones are. It
-- has them in each later life too, up to the one that goes on, unless a put or delete of it comes between: among the
-- records that were recovered, or in the later life itself.
abbrev pub AcknowledgedOutlive : Type 0
AcknowledgedOutlive = (l : Life) (between later : List Life) (on : FailData) (a b : ℕ) (k : Key)
    → AreLives (l ∷ (between ++ later)) on → a ≤ l.found.count
    → AllSpare k (drop a (recovered_of l))
    → ((n : Life) → IsAmong n between → AllSpare k (recovered_of n))
    → AllSpare k (take b (commands_of (first_log later on).history))
    → (state_after (first_log later on) b).contents k ≡ (state_after l.log a).contents k
