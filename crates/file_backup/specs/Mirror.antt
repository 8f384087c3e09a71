-- A backup in memory, and the file of its journal.
use Rattle.std.specs.Prelude.{◌≡◌, ◌⊎◌, ℕ, Bool, true, false, List, [], Some, length, take, ⊤}
use Rattle.replica.specs.Op.{OpValue}
use Rattle.backup.specs.declared.memory.MemoryBackup.{MemoryBackup}
use Rattle.take_journal.specs.Crash.{HasVersion, MayBeLeft}
use Rattle.take_journal.specs.Frames.{frames, recovered}
use Rattle.take_journal.specs.Journal.{IsSettled, device_of, end_at, takes_more}
use Rattle.take_journal.specs.declared.fault.OpenFault.{OpenFault}
use Rattle.take_journal.specs.declared.fault.OpenFault.TheVariants as open_fault
use Rattle.take_journal.specs.declared.journal.Journal.{Journal}
use Rattle.file_backup.specs.Replay.{IsFirstWrong, Replicas, after_op, held_in, shown}
use Rattle.file_backup.specs.declared.fault.BackupFault.{BackupFault}
use Rattle.file_backup.specs.declared.fault.BackupFault.TheVariants as fault
use Rattle.file_backup.specs.declared.mirror.FileBackup.{FileBackup}

-- the file's texts show these replicas
abbrev pub Shows : Replicas → List ℕ → Type 0
Shows p file = shown (recovered file) ≡ Some p

abbrev pub memory_of : {D : Type 0} → FileBackup D → MemoryBackup
memory_of f = f.memory

-- what the backup holds
abbrev pub replicas_of : {D : Type 0} → FileBackup D → Replicas
replicas_of f = held_in f.memory

abbrev pub journal_of : {D : Type 0} → FileBackup D → Journal D
journal_of f = f.journal

abbrev pub is_out : {D : Type 0} → FileBackup D → Bool
is_out f = f.is_out

-- The next start can open the file: the file has the version of this format, and a crash may leave it.
pub record CanBeOpened (file : List ℕ) : Type 0 where
  pub version : HasVersion (recovered file)
  pub left : MayBeLeft file

-- The journal takes more, all of its file is on the disk, and the file shows these replicas.
pub record IsJournalOf {D : Type 0} (contents : D → List ℕ) (may_leave : D → List ℕ → Type 0) (has_failed : D → Bool)
    (p : Replicas) (journal : Journal D) : Type 0 where
  pub ready : takes_more journal ≡ true
  pub settled : IsSettled contents may_leave has_failed (device_of journal) (end_at journal)
  pub version : HasVersion (recovered (contents (device_of journal)))
  pub shows : Shows p (contents (device_of journal))

-- if the backup isn't out, its journal shows what it holds
abbrev pub IsBacked : {D : Type 0} → (D → List ℕ) → (D → List ℕ → Type 0) → (D → Bool) → FileBackup D → Type 0
IsBacked contents may_leave has_failed f =
    is_out f ≡ false → IsJournalOf contents may_leave has_failed (replicas_of f) (journal_of f)

-- A crash in a take leaves a file that shows the replicas from before the op, or those after it.
pub record LeftByTake (p : Replicas) (op : OpValue) (file : List ℕ) : Type 0 where
  pub shows : Shows p file ⊎ ((q : Replicas) × (after_op p op ≡ Some q) × Shows q file)
  pub opens : CanBeOpened file

-- A crash amid the making of a file leaves one without texts, or one that shows these replicas.
pub record LeftByMaking (p : Replicas) (file : List ℕ) : Type 0 where
  pub shows : (recovered file ≡ []) ⊎ Shows p file
  pub opens : CanBeOpened file

-- why texts aren't replayed
abbrev pub TellsWrong : BackupFault → List (List ℕ) → Type 0
TellsWrong fault.NoMemory texts = ⊤
TellsWrong fault.OtherVersion texts = ⊥
TellsWrong fault.NotBegun texts = texts ≡ []
TellsWrong (fault.Damaged at) texts = ⊥
TellsWrong (fault.WrongFrame i) texts = IsFirstWrong texts i × ((p : Replicas) → shown texts ≡ Some p → ⊥)
TellsWrong fault.Full texts = ⊥
TellsWrong fault.Failed texts = ⊥

-- Why a file isn't opened. It is named damaged only if no crash can have left it.
abbrev pub TellsWhy : BackupFault → List ℕ → Type 0
TellsWhy fault.NoMemory file = ⊤
TellsWhy fault.OtherVersion file = HasVersion (recovered file) → ⊥
TellsWhy fault.NotBegun file = recovered file ≡ []
TellsWhy (fault.Damaged at) file = (at ≡ length (frames (recovered file))) × (MayBeLeft file → ⊥)
TellsWhy (fault.WrongFrame i) file =
    IsFirstWrong (recovered file) i × ((p : Replicas) → Shows p file → ⊥)
TellsWhy fault.Full file = ⊥
TellsWhy fault.Failed file = ⊤

-- Why a file isn't read of which only the first n texts count.
abbrev pub TellsFirst : ℕ → BackupFault → List ℕ → Type 0
TellsFirst n fault.NoMemory file = ⊤
TellsFirst n fault.OtherVersion file = HasVersion (recovered file) → ⊥
TellsFirst n fault.NotBegun file = take n (recovered file) ≡ []
TellsFirst n (fault.Damaged at) file = (at ≡ length (frames (recovered file))) × (MayBeLeft file → ⊥)
TellsFirst n (fault.WrongFrame i) file = IsFirstWrong (take n (recovered file)) i
    × ((p : Replicas) → shown (take n (recovered file)) ≡ Some p → ⊥)
TellsFirst n fault.Full file = ⊥
TellsFirst n fault.Failed file = ⊤

-- why a journal isn't opened, as a fault of its backup
abbrev pub told : OpenFault → BackupFault
told open_fault.NoMemory = fault.NoMemory
told open_fault.OtherVersion = fault.OtherVersion
told (open_fault.Damaged at) = fault.Damaged at
told open_fault.Failed = fault.Failed

-- ---- a law

-- memory ran out, or the device failed
abbrev pub IsNoDamage : BackupFault → Type 0
IsNoDamage fault.NoMemory = ⊤
IsNoDamage fault.OtherVersion = ⊥
IsNoDamage fault.NotBegun = ⊥
IsNoDamage (fault.Damaged at) = ⊥
IsNoDamage (fault.WrongFrame i) = ⊥
IsNoDamage fault.Full = ⊥
IsNoDamage fault.Failed = ⊤

-- Whatever a crash in a take leaves is opened, unless memory runs out or the device fails.
abbrev pub CrashesAreOpened : Type 0
CrashesAreOpened =
    (p : Replicas) (op : OpValue) (file : List ℕ) (f : BackupFault) → LeftByTake p op file → TellsWhy f file
    → IsNoDamage f
