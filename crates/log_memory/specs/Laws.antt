-- What stays true through every step.
use Rattle.std.specs.Prelude.{◌≡◌, ℕ, ◌+◌, ◌<◌, List, [], Some, true, false}
use Rattle.std.specs.List.{range_with_len}
use Rattle.entry.specs.declared.entry.Entry.{Entry}
use Rattle.versioned_map.specs.declared.command.Record.{Record}
use Rattle.log_bytes.specs.log_laws.Heads.{Start}
use Rattle.log_bytes.specs.log_laws.Memory.{Place}
use Rattle.log_bytes.specs.log_laws.ImageSteps.{survivors_begun}
use Rattle.log_bytes.specs.log_laws.Shown.{Shown, Op, taken}
use Rattle.log_bytes.specs.log_laws.Data.{FailConfig, Mode, Repairs, FailData}
use Rattle.log_bytes.specs.log_laws.Durable.{TakenHead}
use Rattle.log_bytes.specs.log_laws.Steps.{fresh, MayBegin, applied, MayApply, rolling, next_start, MayTurn, ended}
use Rattle.log_bytes.specs.log_laws.Steps.{EndsRoll, failing, MayFail, mended, IsKnown, Extends, OpensNew, Replaces}
use Rattle.log_bytes.specs.log_laws.Steps.{Raises}
use Rattle.log_bytes.specs.log_laws.Steps.{ClosesOld, with_taken, MayRepair, Reseals}
use Rattle.log_memory.specs.Covered.{IsCovered}
use Rattle.log_memory.specs.Intact.{IsIntact, IsIntactWith}
use Rattle.log_memory.specs.Memory.{FailMemory, data_of}
use Rattle.log_memory.specs.Past.{past_after}
use Rattle.log_memory.specs.Steps.{seal_op, MaySeal, ids_taken, pass_begun, MayBeginClean, first_memory, recorded}
use Rattle.log_memory.specs.Steps.{IsNamed, compacted, MayCompact, copy_done, MayCopy, rolled, stopped, MayCommit}
use Rattle.log_memory.specs.Steps.{finished, free_op, freed, MayFree}

-- ---- what is intact

-- An intact log is covered, at every point of a roll and of a failover.
abbrev pub IntactIsCovered : Type 0
IntactIsCovered = (d : FailData) (m : FailMemory) (p : Shown) → IsIntact d m p → IsCovered d m p

-- ---- a new master and its commands

-- A new master's log is intact if the backups hold nothing of the master.
abbrev pub FreshIsIntact : Type 0
FreshIsIntact = (c : FailConfig) (p : Shown) → MayBegin c p → IsIntactWith [] (fresh c) (first_memory c 1) p

-- A command that is applied leaves the log intact, while a pass or a failover is open too.
abbrev pub ApplyKeeps : Type 0
ApplyKeeps = (d : FailData) (m : FailMemory) (p : Shown) (segment : ℕ) (r : Record) → (i : IsIntact d m p)
    → MayApply d segment r → IsNamed m segment r → IsIntactWith i.past (applied d segment r) (recorded d m segment r) p

-- ---- compaction and copies

-- Compaction leaves the log intact, while a failover is open too.
abbrev pub CompactKeeps : Type 0
CompactKeeps = (d : FailData) (m : FailMemory) (p : Shown) (s : ℕ) → (i : IsIntact d m p) → MayCompact d m s
    → IsIntactWith i.past d (compacted d m s) p

-- A pass's step over one entry of the victims leaves the log intact, whether it moves, carries or drops it.
abbrev pub CopyKeeps : Type 0
CopyKeeps = (d : FailData) (m : FailMemory) (p : Shown) (first : Place) (rest : List Place) (s : ℕ) (e : Entry)
    → (i : IsIntact d m p) → MayCopy d m first rest s e → IsIntactWith i.past d (copy_done d m first rest s e) p

-- ---- ops

-- The log is intact with the master `d`, which didn't learn that an op was taken, and with the master `e`, which did.
abbrev pub BothIntact : List TakenHead → FailData → FailData → FailMemory → Shown → Type 0
BothIntact past d e m q = IsIntactWith past d m q × IsIntactWith past e m q

abbrev pub ExtendKeeps : Type 0
ExtendKeeps = (d e : FailData) (m : FailMemory) (p q : Shown) (o : Op) → (i : IsIntact d m p) → Extends d o e
    → taken p o ≡ Some q → BothIntact i.past d e m q

abbrev pub OpenKeeps : Type 0
OpenKeeps = (d e : FailData) (m : FailMemory) (p q : Shown) (o : Op) → (i : IsIntact d m p) → (is : OpensNew d o e)
    → is.b < d.config.backups → taken p o ≡ Some q → BothIntact i.past d e m q

abbrev pub ReplaceKeeps : Type 0
ReplaceKeeps = (d e : FailData) (m : FailMemory) (p q : Shown) (o : Op) → (i : IsIntact d m p) → (is : Replaces d o e)
    → is.b < d.config.backups → taken p o ≡ Some q → BothIntact i.past d e m q

abbrev pub RaiseKeeps : Type 0
RaiseKeeps = (d e : FailData) (m : FailMemory) (p q : Shown) (o : Op) → (i : IsIntact d m p) → Raises d o e
    → taken p o ≡ Some q → BothIntact i.past d e m q

abbrev pub CloseKeeps : Type 0
CloseKeeps = (d e : FailData) (m : FailMemory) (p q : Shown) (o : Op) → (i : IsIntact d m p) → ClosesOld d o e
    → taken p o ≡ Some q → BothIntact i.past d e m q

-- ---- rolls and failovers

-- An ordinary roll that begins leaves the log intact, while a pass is open too. So does a failover that begins to open
-- its new head.
abbrev pub RollKeeps : Type 0
RollKeeps = (d : FailData) (m : FailMemory) (p : Shown) (mode : Mode) → (i : IsIntact d m p) → MayTurn d mode
    → IsIntactWith i.past (rolling d (next_start d) mode) (rolled d m (next_start d) false) p

-- A commit that begins leaves the log intact.
abbrev pub CommitKeeps : Type 0
CommitKeeps = (d : FailData) (m : FailMemory) (p : Shown) (n : Start) (mode : Mode) → (i : IsIntact d m p)
    → MayCommit d m n mode → IsIntactWith i.past (rolling d n mode) (rolled d m n true) p

-- The end of an ordinary roll leaves the log intact.
abbrev pub EndKeeps : Type 0
EndKeeps = (d : FailData) (m : FailMemory) (p : Shown) (n : Start) (mode : Mode) → (i : IsIntact d m p) → IsKnown d p
    → EndsRoll d n mode → m.commits ≡ false → IsIntactWith (past_after d i.past) (ended d n mode) m p

-- The end of a commit leaves the log intact. The pass has ended, and the victims have left the log.
abbrev pub FinishKeeps : Type 0
FinishKeeps = (d : FailData) (m : FailMemory) (p : Shown) (n : Start) (mode : Mode) → (i : IsIntact d m p) → IsKnown d p
    → EndsRoll d n mode → m.commits ≡ true → IsIntactWith (past_after d i.past) (ended d n mode) (finished d m) p

-- A backup's failure leaves the log intact. The master abandons a roll or commit that was under way, and opens a
-- failover.
abbrev pub FailKeeps : Type 0
FailKeeps = (d : FailData) (m : FailMemory) (p : Shown) (b : ℕ) → (i : IsIntact d m p) → MayFail d
    → IsIntactWith i.past (failing d b) (stopped m) p

-- The end of a failover leaves the log intact.
abbrev pub MendKeeps : Type 0
MendKeeps = (d : FailData) (m : FailMemory) (p : Shown) → (i : IsIntact d m p) → IsKnown d p → d.mode ≡ Repairs
    → IsIntactWith i.past (mended d) m p

-- ---- repairs

-- A failover may seal a lost replica of a segment anew with the segment's image, while a pass is open too.
abbrev pub ImageIsRepair : Type 0
ImageIsRepair = (d : FailData) (m : FailMemory) (p : Shown) (s b : ℕ) (i : IsIntact d m p) → MayRepair d s b
    → Reseals d i.log.texts (seal_op m s b) (record d { took = with_taken d.took s b })

abbrev pub RepairKeeps : Type 0
RepairKeeps = (d e : FailData) (m : FailMemory) (p q : Shown) (o : Op) (i : IsIntact d m p)
    → (is : Reseals d i.log.texts o e) → is.image ≡ data_of m is.s → is.b < d.config.backups → taken p o ≡ Some q
    → BothIntact i.past d e m q

-- ---- a pass begins

-- A pass that begins leaves the log intact, whatever number of survivors it has.
abbrev pub BeginKeeps : Type 0
BeginKeeps = (d : FailData) (m : FailMemory) (p : Shown) (victims : List ℕ) (count : ℕ) → (i : IsIntact d m p)
    → MayBeginClean d m victims → IsIntactWith i.past (ids_taken count d) (pass_begun d m victims count) p

-- ---- seals

-- A survivor that is sealed on a backup leaves the log intact, whether or not the master learns it.
abbrev pub SealKeeps : Type 0
SealKeeps = (d : FailData) (m : FailMemory) (p q : Shown) (s b : ℕ) → (i : IsIntact d m p) → MaySeal d m s b
    → b < d.config.backups → taken p (seal_op m s b) ≡ Some q
    → BothIntact i.past d (record d { took = with_taken d.took s b }) m q

-- ---- frees

-- A replica that waited and is freed leaves the log intact, whether or not the master learns it.
abbrev pub FreeKeeps : Type 0
FreeKeeps = (d : FailData) (m : FailMemory) (p q : Shown) (s b : ℕ) → (i : IsIntact d m p) → MayFree d m s b
    → taken p (free_op s b) ≡ Some q
    → IsIntactWith i.past d m q × IsIntactWith i.past d (freed m (record { segment = s; backup = b })) q

-- ---- a pass that has begun

-- The survivors of a pass that has begun have the next ids, one after the other. The image of each is its header.
abbrev pub BegunSurvivors : Type 0
BegunSurvivors = (d : FailData) (m : FailMemory) (victims : List ℕ) (count : ℕ) → MayBeginClean d m victims
    → ((pass_begun d m victims count).pass.survivors ≡ range_with_len d.next count)
    × ((ids_taken count d).next ≡ d.next + count)
    × ((s : ℕ) → (pass_begun d m victims count).images s
    ≡ survivors_begun d.config.master (range_with_len d.next count) m.images s)
