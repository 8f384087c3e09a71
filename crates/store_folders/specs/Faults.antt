-- Why a store in a folder isn't opened.
use Rattle.std.specs.Prelude.{◌≡◌, ℕ, List, Option, ⊤}
use Rattle.file_backup.specs.declared.fault.BackupFault.{BackupFault}
use Rattle.file_backup.specs.declared.fault.BackupFault.TheVariants as backup_fault
use Rattle.registry_file.specs.File.{TellsWhy}
use Rattle.registry_file.specs.declared.fault.RegistryFault.{RegistryFault}
use Rattle.registry_file.specs.declared.fault.RegistryFault.TheVariants as registry_fault
use Rattle.fleet_start.specs.Options.{AreMet, DiffersAt}
use Rattle.store_folders.specs.declared.fault.StoreFault.{StoreFault}
use Rattle.store_folders.specs.declared.fault.StoreFault.TheVariants as fault
use Rattle.store_folders.specs.declared.naming.FileName.{FileName}
use Rattle.store_folders.specs.declared.naming.FileName.TheVariants as name

-- its number
abbrev pub number_of : StoreFault → ℕ
number_of (fault.Folder error) = 1
number_of fault.InUse = 2
number_of (fault.Registry why) = 3
number_of fault.NoRegistry = 3
number_of (fault.OtherOption i) = 4
number_of (fault.Journal file why) = 5
number_of (fault.Foreign file) = 5
number_of (fault.File file error) = 6
number_of (fault.Disk file) = 6
number_of fault.NoMemory = 7

-- why the registry isn't opened or made
abbrev pub of_registry : RegistryFault → StoreFault
of_registry registry_fault.NoMemory = fault.NoMemory
of_registry registry_fault.OtherVersion = fault.Registry registry_fault.OtherVersion
of_registry registry_fault.NotBegun = fault.Registry registry_fault.NotBegun
of_registry (registry_fault.Damaged at) = fault.Registry (registry_fault.Damaged at)
of_registry (registry_fault.WrongRecord i) = fault.Registry (registry_fault.WrongRecord i)
of_registry registry_fault.Full = fault.Registry registry_fault.Full
of_registry registry_fault.Failed = fault.Disk name.Registry

-- why a journal isn't opened or made
abbrev pub of_journal : FileName → BackupFault → StoreFault
of_journal file backup_fault.NoMemory = fault.NoMemory
of_journal file backup_fault.OtherVersion = fault.Journal file backup_fault.OtherVersion
of_journal file backup_fault.NotBegun = fault.Journal file backup_fault.NotBegun
of_journal file (backup_fault.Damaged at) = fault.Journal file (backup_fault.Damaged at)
of_journal file (backup_fault.WrongFrame i) = fault.Journal file (backup_fault.WrongFrame i)
of_journal file backup_fault.Full = fault.Journal file backup_fault.Full
of_journal file backup_fault.Failed = fault.Disk file

-- what the fault says of the registry's file is so
abbrev pub TellsOfRegistry : StoreFault → List ℕ → Type 0
TellsOfRegistry (fault.Folder error) bytes = ⊥
TellsOfRegistry fault.InUse bytes = ⊥
TellsOfRegistry (fault.Registry why) bytes = TellsWhy why bytes
TellsOfRegistry fault.NoRegistry bytes = ⊥
TellsOfRegistry (fault.OtherOption i) bytes = ⊥
TellsOfRegistry (fault.Journal file why) bytes = ⊥
TellsOfRegistry (fault.Foreign file) bytes = ⊥
TellsOfRegistry (fault.File file error) bytes = ⊥
TellsOfRegistry (fault.Disk file) bytes = file ≡ name.Registry
TellsOfRegistry fault.NoMemory bytes = ⊤

-- the options before this one are met, and this one is another
abbrev pub TellsFirst : StoreFault → List ℕ → List (Option ℕ) → Type 0
TellsFirst f kept asked = (i : ℕ) × (f ≡ fault.OtherOption i) × AreMet i kept asked × DiffersAt i kept asked
