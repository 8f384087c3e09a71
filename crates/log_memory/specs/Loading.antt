-- A master that is loading what was recovered, before its history begins.
use Rattle.std.specs.Prelude.{◌≡◌, ℕ, ◌<◌, ◌≤◌, ◌⊎◌, List, [], ◌∷◌, ◌++◌, length, true, false, Some, None}
use Rattle.entry.specs.declared.key.Key.{Key}
use Rattle.entry.specs.declared.entry.Object.{Object}
use Rattle.entry.specs.declared.entry.Entry.{Entry}
use Rattle.entry.specs.declared.entry.Entry.TheVariants as entry
use Rattle.entry.specs.Bag.{IsAmong}
use Rattle.entry.specs.Tablet.{have_key}
use Rattle.versioned_map.specs.Represents.{Represents}
use Rattle.log_bytes.specs.log_laws.Adopt.{with_loaded}
use Rattle.log_bytes.specs.log_laws.Heads.{Start, LogUnit}
use Rattle.log_bytes.specs.log_laws.Loading.{HasOnly}
use Rattle.log_bytes.specs.log_laws.Memory.{no_pass, grown}
use Rattle.log_bytes.specs.log_laws.ImageSteps.{index_after}
use Rattle.log_bytes.specs.log_laws.Tracked.{IsTracked, IsAround}
use Rattle.log_bytes.specs.log_laws.Shown.{Shown, Op, taken}
use Rattle.log_bytes.specs.log_laws.Data.{front_entries, Calm, Repairs, Mode, FailConfig, FailData, HasTaken, new_of}
use Rattle.log_bytes.specs.log_laws.Log.{Texts, IsBase, BasesStand, IsLogHeld}
use Rattle.log_bytes.specs.log_laws.Runs.{IsThere}
use Rattle.log_bytes.specs.log_laws.Steps.{restored, MayBegin, ids_now, adopted, rolling, next_start, MayTurn, ended}
use Rattle.log_bytes.specs.log_laws.Steps.{EndsRoll, failing, MayFail, mended}
use Rattle.log_memory.specs.Intact.{AreRepaired, AreUnrepaired, IsIntactWith, Knows}
use Rattle.log_memory.specs.Memory.{FailMemory, log_set_of, AreImages}
use Rattle.log_memory.specs.Ops.{IsHeadOp, RepairsImage}
use Rattle.log_memory.specs.Same.{IsSameMemory}
use Rattle.log_memory.specs.Steps.{first_memory, rolled, stopped}

-- ---- an object is loaded

-- The master once the object is loaded: it is a unit of the head that belongs to no record, and the state that the
-- history will begin with has it.
abbrev pub with_object : FailData → Object → FailData
with_object d o = record d {
  opening = with_loaded d.opening o;
  head = record d.head { units = d.head.units ++ record { number = 0; entries = entry.Object o ∷ [] } ∷ [] };
}

-- memory with the object at the end of the head's image, where the index finds it
abbrev pub object_loaded : FailData → FailMemory → Object → FailMemory
object_loaded d m o = record m {
  images = grown m.images d.head.start.id (entry.Object o);
  index = index_after m.images m.index d.head.start.id (entry.Object o);
}

-- The object may be loaded: no roll and no failover is under way, its key lies in the master's tablets and was not
-- loaded before, and its version is below the safe version.
pub record MayLoad (d : FailData) (o : Object) : Type 0 where
  pub calm : d.mode ≡ Calm
  pub key : have_key d.config.tablets o.key ≡ true
  pub absent : d.opening.contents o.key ≡ None
  pub low : o.version < d.opening.safe

-- ---- ops

-- the op is one on the head in force or a new head, a raise of the registry, or a repair
abbrev pub IsLoadingOp : FailData → FailMemory → Op → FailData → Type 0
IsLoadingOp d m o e = IsHeadOp d o e ⊎ RepairsImage d m o e

-- ---- what holds while it loads

-- No pass is open, nothing waits to be freed, and no roll is a commit.
pub record IsIdle (m : FailMemory) : Type 0 where
  pub pass : m.pass ≡ no_pass
  pub rest : m.rest ≡ []
  pub commits : m.commits ≡ false
  pub waiting : m.waiting ≡ []

-- What is true of a loading master. The opening is the state that was loaded so far. The backups hold texts that
-- represent it, and images and index track it. No pass is open, but a failover may be open.
pub record IsLoading (d : FailData) (m : FailMemory) (p : Shown) : Type 0 where
  pub texts : Texts
  pub held : IsLogHeld d texts p
  -- the master has no history, and its units belong to no record
  pub begins : d.history ≡ []
  pub numbers : (u : LogUnit) → IsAmong u d.head.units → u.number ≡ 0
  -- if there is a head, its base with all its units represents the opening, and so does the base of a new head
  pub stands : (d.head.start.id ≡ 0 → ⊥) → (base : List Entry) → IsBase texts d.head.start.others base
      → Represents d.head.start.safe (base ++ front_entries d.head (length d.head.units)) d.opening
  pub new : (n : Start) → new_of d.mode ≡ Some n → BasesStand texts n d.opening
  pub rolling : (n : Start) → new_of d.mode ≡ Some n → n.others ≡ ids_now d.head.start
  -- before the first head nothing was loaded
  pub empty : d.head.start.id ≡ 0
      → (d.head.start.others ≡ []) × (front_entries d.head (length d.head.units) ≡ [])
  pub blank : d.head.start.id ≡ 0 → (k : Key) → d.opening.contents k ≡ None
  -- there is a head while no roll is under way and no new head is opened
  pub real : (d.mode ≡ Calm) ⊎ (d.mode ≡ Repairs) → d.head.start.id ≡ 0 → ⊥
  pub only : HasOnly (log_set_of d m texts) d.opening.contents
  pub tracked : IsTracked (log_set_of d m texts) m.pass m.index d.opening.contents
  pub around : IsAround (log_set_of d m texts) m.pass d.opening.contents d.opening.safe d.next
  pub recorded : (n : Start) → new_of d.mode ≡ Some n → n.safe ≡ d.opening.safe
  pub repairs : d.mode ≡ Repairs → d.opening.safe ≤ d.head.start.safe
  pub images : AreImages d m texts
  pub repaired : AreRepaired m texts
  pub whole : AreUnrepaired d texts
  pub idle : IsIdle m

-- ---- laws

-- A new master is loading and knows what is held, if the backups hold nothing of it.
abbrev pub RestoredIsLoading : Type 0
RestoredIsLoading = (c : FailConfig) (safe : ℕ) (p : Shown) → MayBegin c p
    → IsLoading (restored c safe) (first_memory c safe) p × Knows (restored c safe) (first_memory c safe) p

-- The master goes on to load once it has loaded one more object.
abbrev pub LoadKeeps : Type 0
LoadKeeps = (d : FailData) (m : FailMemory) (p : Shown) (o : Object) → IsLoading d m p → MayLoad d o
    → IsLoading (with_object d o) (object_loaded d m o) p
    × (Knows d m p → Knows (with_object d o) (object_loaded d m o) p)

-- The master goes on to load once an op on a head is taken, whether or not it learns that the op was taken.
abbrev pub LoadingOpKeeps : Type 0
LoadingOpKeeps = (d e : FailData) (m : FailMemory) (p q : Shown) (o : Op) → IsLoading d m p → IsHeadOp d o e
    → IsThere d.config o → taken p o ≡ Some q → IsLoading d m q × IsLoading e m q

-- An op on a head fits, and the loading master knows what is held once the op is taken.
abbrev pub LoadingOpFits : Type 0
LoadingOpFits = (d e : FailData) (m : FailMemory) (p : Shown) (o : Op) → IsLoading d m p → Knows d m p
    → IsHeadOp d o e → (q : Shown) × (taken p o ≡ Some q) × Knows e m q

-- The master goes on to load once a repair is taken, whether or not it learns that the repair was taken.
abbrev pub LoadingRepairKeeps : Type 0
LoadingRepairKeeps = (d e : FailData) (m : FailMemory) (p q : Shown) (o : Op) → IsLoading d m p → RepairsImage d m o e
    → IsThere d.config o → taken p o ≡ Some q → IsLoading d m q × IsLoading e m q

-- A repair fits, and the loading master knows what is held once the repair is taken.
abbrev pub LoadingRepairFits : Type 0
LoadingRepairFits = (d e : FailData) (m : FailMemory) (p : Shown) (o : Op) → IsLoading d m p → Knows d m p
    → RepairsImage d m o e → (q : Shown) × (taken p o ≡ Some q) × Knows e m q

-- The master goes on to load when a backup fails, and when the failover ends.
abbrev pub LoadingFails : Type 0
LoadingFails = (d : FailData) (m : FailMemory) (p : Shown) (b : ℕ) → IsLoading d m p → MayFail d
    → IsLoading (failing d b) (stopped m) p

abbrev pub LoadingMends : Type 0
LoadingMends = (d : FailData) (m : FailMemory) (p : Shown) → IsLoading d m p → Knows d m p → d.mode ≡ Repairs
    → IsLoading (mended d) m p × Knows (mended d) m p

-- The master goes on to load when a roll begins and when it ends, in a failover too.
abbrev pub LoadingRollKeeps : Type 0
LoadingRollKeeps = (d : FailData) (m : FailMemory) (p : Shown) (mode : Mode) → IsLoading d m p → MayTurn d mode
    → IsLoading (rolling d (next_start d) mode) (rolled d m (next_start d) false) p
    × (Knows d m p → Knows (rolling d (next_start d) mode) (rolled d m (next_start d) false) p)

abbrev pub LoadingEndKeeps : Type 0
LoadingEndKeeps = (d : FailData) (m : FailMemory) (p : Shown) (n : Start) (mode : Mode) → IsLoading d m p
    → Knows d m p → EndsRoll d n mode → IsLoading (ended d n mode) m p × Knows (ended d n mode) m p

-- The master goes on to load with another memory that has the same images and pass, and whose index leads to the same
-- objects.
abbrev pub SameIsLoading : Type 0
SameIsLoading = (d : FailData) (m n : FailMemory) (p : Shown) → IsLoading d m p → IsSameMemory d m n
    → IsLoading d n p

-- Once all that was loaded is on the backups, the log is intact of the master whose history begins with what was
-- loaded.
abbrev pub FinishIsIntact : Type 0
FinishIsIntact = (d : FailData) (m : FailMemory) (p : Shown) → IsLoading d m p → Knows d m p → d.mode ≡ Calm
    → ((b : ℕ) → HasTaken d d.head.start.id b → d.counts b ≡ length d.head.units)
    → IsIntactWith [] (adopted d d.opening) m p × Knows (adopted d d.opening) m p
