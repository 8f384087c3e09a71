-- A log writes whole segments.
use Rattle.std.specs.Prelude.{◌≡◌, ◌⊎◌, ℕ, length, Some, None}
use Rattle.versioned_map.specs.Versioned.{State}
use Rattle.log_laws.specs.Heads.{Start}
use Rattle.log_laws.specs.Shown.{Open, Extend, Close, Seal, Free, Op, On, Raise, Shown as ModelShown, taken}
use Rattle.log_laws.specs.Data.{front, bare, Mode, FailData, new_of, IsNew}
use Rattle.log_laws.specs.Log.{Texts, IsLogHeld}
use Rattle.log_laws.specs.Steps.{adopted, rolling, id_taken, ended, failing, mended, Extends, OpensNew, Replaces}
use Rattle.log_laws.specs.Steps.{Raises, ClosesOld, Reseals, Seals, Frees}
use Rattle.log_bytes.specs.Text.{IsWholeText}
use Rattle.log_bytes.specs.Spelled.{AreSegments}

-- The text of the head in force is a whole segment, and so is the opening of each new head.
pub record HeadsAreSegments (master : ℕ) (d : FailData) : Type 0 where
  pub head : IsWholeText master d.head.start.id (front d.head (length d.head.units))
  pub new : (n : Start) → IsNew d n → IsWholeText master n.id (bare n)

-- the text that the op seals is a whole segment; true of an op that seals nothing
abbrev pub SealsSegment : ℕ → Op → Type 0
SealsSegment master (On b s (Open text)) = Unit {0}
SealsSegment master (On b s (Extend at more)) = Unit {0}
SealsSegment master (On b s Close) = Unit {0}
SealsSegment master (On b s (Seal text)) = IsWholeText master s text
SealsSegment master (On b s Free) = Unit {0}
SealsSegment master (Raise id) = Unit {0}

-- the master `d`, which may be loading, may ask for the op, and is `e` once the op is taken
abbrev pub IsHeldOp : FailData → Texts → ModelShown → Op → FailData → Type 0
IsHeldOp d texts p o e = Extends d o e ⊎ (OpensNew d o e ⊎ (Replaces d o e ⊎ (Raises d o e
    ⊎ (ClosesOld d o e ⊎ (Reseals d texts o e ⊎ (Seals d texts p o e ⊎ Frees d o e))))))

-- ---- laws

-- An op leaves replicas that are segments, if the replicas, the heads and what the op seals are segments.
abbrev pub OpLeavesSegments : Type 0
OpLeavesSegments = (master : ℕ) (d e : FailData) (texts : Texts) (p q : ModelShown) (o : Op) → IsLogHeld d texts p
    → IsHeldOp d texts p o e → taken p o ≡ Some q → HeadsAreSegments master d → SealsSegment master o
    → AreSegments master p → AreSegments master q

-- The heads are segments once a new head is being opened, if its opening is a segment.
abbrev pub RollingHasSegments : Type 0
RollingHasSegments = (master : ℕ) (d : FailData) (n : Start) (mode : Mode) → HeadsAreSegments master d
    → new_of mode ≡ Some n → IsWholeText master n.id (bare n) → HeadsAreSegments master (rolling d n mode)

-- The heads are segments once a new head is in force.
abbrev pub EndedHasSegments : Type 0
EndedHasSegments = (master : ℕ) (d : FailData) (n : Start) (mode : Mode) → HeadsAreSegments master d
    → new_of d.mode ≡ Some n → new_of mode ≡ None → HeadsAreSegments master (ended d n mode)

-- The heads stay segments through an op, an id that is taken, a backup's failure, the end of a failover, and adoption.
abbrev pub OpHasSegments : Type 0
OpHasSegments = (master : ℕ) (d e : FailData) (texts : Texts) (p : ModelShown) (o : Op) → HeadsAreSegments master d
    → IsHeldOp d texts p o e → HeadsAreSegments master e

abbrev pub OthersHaveSegments : Type 0
OthersHaveSegments = (master : ℕ) (d : FailData) → HeadsAreSegments master d → HeadsAreSegments master (id_taken d)
    × ((b : ℕ) → HeadsAreSegments master (failing d b)) × HeadsAreSegments master (mended d)
    × ((st : State) → HeadsAreSegments master (adopted d st))
