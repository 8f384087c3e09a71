-- The ops of a master: on the head in force and a new head, seals of survivors, repairs and frees.
use Rattle.std.specs.Prelude.{◌≡◌, ◌⊎◌, ℕ, Some}
use Rattle.log_bytes.specs.log_laws.Shown.{Shown, Op, taken}
use Rattle.log_bytes.specs.log_laws.Data.{FailData}
use Rattle.log_bytes.specs.log_laws.Runs.{IsThere}
use Rattle.log_bytes.specs.log_laws.Steps.{with_taken, MayRepair, Extends, OpensNew, Replaces, Raises, ClosesOld}
use Rattle.log_bytes.specs.Text.{IsWholeText}
use Rattle.log_memory.specs.Intact.{IsIntact, IsIntactWith, Knows}
use Rattle.log_memory.specs.Memory.{FailMemory, text_in}
use Rattle.log_memory.specs.Steps.{seal_op, MaySeal, free_op, freed, MayFree}

-- the op is on a replica of the head in force or of a new one, or it raises the registry
abbrev pub IsHeadOp : FailData → Op → FailData → Type 0
IsHeadOp d o e = Extends d o e ⊎ (OpensNew d o e ⊎ (Replaces d o e ⊎ (Raises d o e ⊎ ClosesOld d o e)))

-- A survivor of the open pass is sealed.
pub record SealsSurvivor (d : FailData) (m : FailMemory) (o : Op) (e : FailData) : Type 0 where
  pub s : ℕ
  pub b : ℕ
  pub may : MaySeal d m s b
  pub whole : IsWholeText d.config.master s (text_in m s)
  pub op : o ≡ seal_op m s b
  pub gives : e ≡ record d { took = with_taken d.took s b }

-- A lost replica of a segment of the log is sealed anew, with the segment's image in memory.
pub record RepairsImage (d : FailData) (m : FailMemory) (o : Op) (e : FailData) : Type 0 where
  pub s : ℕ
  pub b : ℕ
  pub may : MayRepair d s b
  pub whole : IsWholeText d.config.master s (text_in m s)
  pub op : o ≡ seal_op m s b
  pub gives : e ≡ record d { took = with_taken d.took s b }

-- A replica that waits to be freed is freed.
pub record FreesSpot (d : FailData) (m : FailMemory) (o : Op) (n : FailMemory) : Type 0 where
  pub s : ℕ
  pub b : ℕ
  pub may : MayFree d m s b
  pub op : o ≡ free_op s b
  pub gives : n ≡ freed m (record { segment = s; backup = b })

-- the master may ask for the op; once the op is taken, `e` is the master and `n` its memory
abbrev pub IsOp : FailData → FailMemory → Op → FailData → FailMemory → Type 0
IsOp d m o e n =
    (IsHeadOp d o e × (n ≡ m))
    ⊎ ((SealsSurvivor d m o e × (n ≡ m))
    ⊎ ((RepairsImage d m o e × (n ≡ m))
    ⊎ (FreesSpot d m o n × (e ≡ d))))

-- ---- laws

-- The log is intact once an op is taken: with the old master and memory, if the master doesn't learn that the op was
-- taken, and with the new ones, if it does.
abbrev pub OpKeeps : Type 0
OpKeeps = (d e : FailData) (m n : FailMemory) (p q : Shown) (o : Op) → (i : IsIntact d m p) → IsOp d m o e n
    → IsThere d.config o → taken p o ≡ Some q → IsIntactWith i.past d m q × IsIntactWith i.past e n q

-- The op fits what is held, and the master knows what is held once the op is taken.
abbrev pub OpFits : Type 0
OpFits = (d e : FailData) (m n : FailMemory) (p : Shown) (o : Op) → IsIntact d m p → Knows d m p → IsOp d m o e n
    → (q : Shown) × (taken p o ≡ Some q) × Knows e n q
