-- A registry in memory, and the file of its journal.
use Rattle.std.specs.Prelude.{◌≡◌, ◌⊎◌, ℕ, Bool, true, false, List, [], Some, length, ⊤}
use Rattle.take_journal.specs.Crash.{HasVersion, MayBeLeft}
use Rattle.take_journal.specs.Frames.{frames, recovered}
use Rattle.take_journal.specs.Journal.{IsSettled, device_of, end_at, takes_more}
use Rattle.take_journal.specs.declared.fault.OpenFault.{OpenFault}
use Rattle.take_journal.specs.declared.fault.OpenFault.TheVariants as open_fault
use Rattle.take_journal.specs.declared.journal.Journal.{Journal}
use Rattle.registry_file.specs.Kept.{IsFirstWrong, Kept, after, kept_in, kept_of}
use Rattle.registry_file.specs.declared.fault.RegistryFault.{RegistryFault}
use Rattle.registry_file.specs.declared.fault.RegistryFault.TheVariants as fault
use Rattle.registry_file.specs.declared.file.RegistryFile.{RegistryFile}
use Rattle.registry_text.specs.declared.record.Record.{Record}

-- this is what the file's texts keep
abbrev pub Shows : Kept → List ℕ → Type 0
Shows k file = kept_of (recovered file) ≡ Some k

-- what the registry keeps in memory
abbrev pub kept_by : {D : Type 0} → RegistryFile D → Kept
kept_by f = kept_in f.registry

abbrev pub journal_of : {D : Type 0} → RegistryFile D → Journal D
journal_of f = f.journal

abbrev pub is_out : {D : Type 0} → RegistryFile D → Bool
is_out f = f.is_out

-- The next start can open the file: the file has the version of this format, and a crash may leave it.
pub record CanBeOpened (file : List ℕ) : Type 0 where
  pub version : HasVersion (recovered file)
  pub left : MayBeLeft file

-- The journal takes more, all of its file is on the disk, and this is what the file keeps.
pub record IsJournalOf {D : Type 0} (contents : D → List ℕ) (may_leave : D → List ℕ → Type 0) (has_failed : D → Bool)
    (k : Kept) (journal : Journal D) : Type 0 where
  pub ready : takes_more journal ≡ true
  pub settled : IsSettled contents may_leave has_failed (device_of journal) (end_at journal)
  pub version : HasVersion (recovered (contents (device_of journal)))
  pub shows : Shows k (contents (device_of journal))

-- if the registry isn't out, its file keeps what it keeps in memory
abbrev pub IsBacked : {D : Type 0} → (D → List ℕ) → (D → List ℕ → Type 0) → (D → Bool) → RegistryFile D → Type 0
IsBacked contents may_leave has_failed f =
    is_out f ≡ false → IsJournalOf contents may_leave has_failed (kept_by f) (journal_of f)

-- A crash in a put leaves a file that keeps what was kept before the record, or after it.
pub record LeftByPut (k : Kept) (r : Record) (file : List ℕ) : Type 0 where
  pub shows : Shows k file ⊎ Shows (after k r) file
  pub opens : CanBeOpened file

-- A crash amid the making of a file leaves one without texts, or one that keeps all of this.
pub record LeftByMaking (k : Kept) (file : List ℕ) : Type 0 where
  pub shows : (recovered file ≡ []) ⊎ Shows k file
  pub opens : CanBeOpened file

-- why texts aren't a registry's
abbrev pub TellsWrong : RegistryFault → List (List ℕ) → Type 0
TellsWrong fault.NoMemory texts = ⊤
TellsWrong fault.OtherVersion texts = ⊥
TellsWrong fault.NotBegun texts = texts ≡ []
TellsWrong (fault.Damaged at) texts = ⊥
TellsWrong (fault.WrongRecord i) texts = IsFirstWrong texts i × ((k : Kept) → kept_of texts ≡ Some k → ⊥)
TellsWrong fault.Full texts = ⊥
TellsWrong fault.Failed texts = ⊥

-- Why a file isn't opened. It is named damaged only if no crash can have left it.
abbrev pub TellsWhy : RegistryFault → List ℕ → Type 0
TellsWhy fault.NoMemory file = ⊤
TellsWhy fault.OtherVersion file = HasVersion (recovered file) → ⊥
TellsWhy fault.NotBegun file = recovered file ≡ []
TellsWhy (fault.Damaged at) file = (at ≡ length (frames (recovered file))) × (MayBeLeft file → ⊥)
TellsWhy (fault.WrongRecord i) file = IsFirstWrong (recovered file) i × ((k : Kept) → Shows k file → ⊥)
TellsWhy fault.Full file = ⊥
TellsWhy fault.Failed file = ⊤

-- why a journal isn't opened, as a fault of its registry
abbrev pub told : OpenFault → RegistryFault
told open_fault.NoMemory = fault.NoMemory
told open_fault.OtherVersion = fault.OtherVersion
told (open_fault.Damaged at) = fault.Damaged at
told open_fault.Failed = fault.Failed

-- why a record may be refused
abbrev pub MayRefuse : RegistryFault → Type 0
MayRefuse fault.NoMemory = ⊤
MayRefuse fault.OtherVersion = ⊥
MayRefuse fault.NotBegun = ⊥
MayRefuse (fault.Damaged at) = ⊥
MayRefuse (fault.WrongRecord i) = ⊥
MayRefuse fault.Full = ⊤
MayRefuse fault.Failed = ⊤

-- ---- laws

-- memory ran out, or the device failed
abbrev pub IsNoDamage : RegistryFault → Type 0
IsNoDamage fault.NoMemory = ⊤
IsNoDamage fault.OtherVersion = ⊥
IsNoDamage fault.NotBegun = ⊥
IsNoDamage (fault.Damaged at) = ⊥
IsNoDamage (fault.WrongRecord i) = ⊥
IsNoDamage fault.Full = ⊥
IsNoDamage fault.Failed = ⊤

-- Whatever a crash in a put leaves is opened, unless memory runs out or the device fails. The registry then keeps what
-- was kept before the record, or after it.
pub record CrashesAreOpened : Type 0 where
  pub opened : (k : Kept) (r : Record) (file : List ℕ) (f : RegistryFault) → LeftByPut k r file → TellsWhy f file
      → IsNoDamage f
  pub kept : (k : Kept) (r : Record) (file : List ℕ) (found : Kept) → LeftByPut k r file → Shows found file
      → (found ≡ k) ⊎ (found ≡ after k r)
