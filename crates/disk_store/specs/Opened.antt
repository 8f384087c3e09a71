-- A store that was opened in a folder: what the files showed, the table of that, and the master that began with it.
use Rattle.std.specs.Prelude.{◌≡◌, ℕ, List, [], ◌∷◌, length, Option, Some, None, Ok, ⊤, slice_get}
use Rattle.disk_file.specs.declared.disk.DiskFile.{DiskFile}
use Rattle.embedded.specs.Options.{tables_to}
use Rattle.embedded.specs.declared.options.Options.{Options}
use Rattle.file_fleet.specs.Files.{Noted}
use Rattle.file_fleet.specs.Fleet.{FleetValue, fleet_state}
use Rattle.file_fleet.specs.Noting.{noted_by}
use Rattle.file_fleet.specs.declared.member.Member.{Member}
use Rattle.file_store.specs.Started.{IsStarted}
use Rattle.file_store.specs.declared.store.FileStore.{FileStore}
use Rattle.fleet_start.specs.Found.{FindsWhatIsLeft}
use Rattle.fleet_start.specs.Options.{AreMet}
use Rattle.found_recovery.specs.Starts.{IsLossOfStart, IsRecoveredOfStart}
use Rattle.recovery.specs.Orders.{Covers}
use Rattle.recovery.specs.claims.declared.rebuilt.Rebuilt.{Rebuilt}
use Rattle.recovery.specs.declared.recovery.RecoveryFault.{RecoveryFault}
use Rattle.recovery.specs.master.Valid.{IsValid}
use Rattle.recovery.specs.master.World.{MasterValue}
use Rattle.recovery.specs.replay.rebuilding.declared.order.GroupOrder.TheVariants.{Forward}
use Rattle.registry_file.specs.File.{kept_by}
use Rattle.registry_file.specs.declared.file.RegistryFile.{RegistryFile}
use Rattle.replica.specs.Retire.{Retires}
use Rattle.store_folders.specs.Files.{AreFoundHere}
use Rattle.tablet_will.specs.declared.part.Part.{Part}
use Rattle.disk_store.specs.declared.fault.NotOpened.{NotOpened}
use Rattle.disk_store.specs.declared.fault.NotOpened.TheVariants as why

-- ---- options

-- the numbers of a new store in so many folders, in the order in which its registry has them
abbrev pub numbers_of : Options → ℕ → List ℕ
numbers_of o folders = o.backups ∷ o.replicas ∷ o.step ∷ o.segment ∷ o.seglet ∷ o.seglets ∷ o.tables ∷ o.history
    ∷ o.format ∷ o.largest ∷ o.live ∷ folders ∷ []

-- What each life of a store has in common. The memory, the length of the history and the limits may be others in each.
abbrev pub asked_of : Options → List (Option ℕ)
asked_of o = Some o.backups ∷ Some o.replicas ∷ Some o.step ∷ Some o.segment ∷ Some o.seglet ∷ None ∷ Some o.tables
    ∷ None ∷ Some o.format ∷ []

-- a store with these options was made with these numbers
pub record AreKept (kept : List ℕ) (o : Options) : Type 0 where
  pub backups : slice_get kept 0 ≡ Some o.backups
  pub replicas : slice_get kept 1 ≡ Some o.replicas
  pub step : slice_get kept 2 ≡ Some o.step
  pub segment : slice_get kept 3 ≡ Some o.segment
  pub seglet : slice_get kept 4 ≡ Some o.seglet
  pub seglets : slice_get kept 5 ≡ Some o.seglets
  pub tables : slice_get kept 6 ≡ Some o.tables
  pub history : slice_get kept 7 ≡ Some o.history
  pub format : slice_get kept 8 ≡ Some o.format
  pub largest : slice_get kept 9 ≡ Some o.largest
  pub live : slice_get kept 10 ≡ Some o.live

abbrev pub RegistryHere : Type 0
RegistryHere = RegistryFile DiskFile

-- the registry's store was made with these
abbrev pub Meets : Options → RegistryFile DiskFile → Type 0
Meets o registry = AreMet 9 (kept_by registry).fleet.options (asked_of o)

-- ---- the table

-- The table is that of the master that the registry names, as far as the files that were found show it. It has nothing
-- if none is named: then no master has served.
abbrev pub IsTableBy : Option ℕ → Noted → List (Option (Member DiskFile)) → Rebuilt → Type 0
IsTableBy None noted places table = (table.objects ≡ []) × (table.safe ≡ 1)
IsTableBy (Some master) noted places table = IsRecoveredOfStart noted places master table

abbrev pub IsTableOf : Noted → List (Option (Member DiskFile)) → Rebuilt → Type 0
IsTableOf noted places table = IsTableBy noted.master noted places table

-- Nothing could be rebuilt, though each key of the tables was looked for.
pub record IsLossOf (o : Options) (noted : Noted) (places : List (Option (Member DiskFile))) (fault : RecoveryFault)
    : Type 0 where
  pub master : ℕ
  pub named : noted.master ≡ Some master
  pub will : List Part
  pub covers : Covers (tables_to o.tables) will
  pub loss : IsLossOfStart noted places master will Forward fault

-- a refusal that says that there is no table names what is lost
abbrev pub IsNoTable : Options → Noted → List (Option (Member DiskFile)) → NotOpened → Type 0
IsNoTable o noted places (why.NotRecovered fault) = IsLossOf o noted places fault
IsNoTable o noted places _ = ⊤

-- the refusal doesn't say that there is no table
abbrev pub IsNoLoss : NotOpened → Type 0
IsNoLoss (why.NotRecovered fault) = ⊥
IsNoLoss _ = ⊤

-- ---- a store

-- what a master of a folder is to contracts
abbrev pub MasterHere : Type 0
MasterHere = MasterValue (FleetValue DiskFile (RegistryFile DiskFile))

-- A master adopted the table, and the registry names it. Then it freed the replicas of all others.
pub record IsBegun (o : Options) (table : Rebuilt) (m : MasterHere) : Type 0 where
  pub began : MasterHere
  pub started : IsStarted noted_by o table began
  pub same : m.knows ≡ began.knows
  pub freed : Retires (fleet_state noted_by began.fleet) began.knows.config.master (Ok tt)
      (fleet_state noted_by m.fleet)
  pub valid : IsValid m.knows (fleet_state noted_by m.fleet)

-- What the last life left in a folder: the registry, and of each backup its file, if it was there. The backups that
-- were found hold what their files show.
pub record IsLeft (o : Options) (registry : RegistryFile DiskFile) (places : List (Option (Member DiskFile)))
    : Type 0 where
  pub found : AreFoundHere places registry
  pub meets : Meets o registry
  pub count : length places ≡ o.backups
  pub left : FindsWhatIsLeft (noted_by registry) places

-- The store's master began with the table of what was left, which has so many objects.
pub record IsOpened (o : Options) (recovered : ℕ) (store : FileStore DiskFile (RegistryFile DiskFile)) : Type 0 where
  pub registry : RegistryFile DiskFile
  pub places : List (Option (Member DiskFile))
  pub left : IsLeft o registry places
  pub table : Rebuilt
  pub is_table : IsTableOf (noted_by registry) places table
  pub count : recovered ≡ length table.objects
  pub begun : IsBegun o table store.master

-- Why no store is opened. If it says that there is no table, it names what is lost of what was left.
abbrev pub IsWhy : Options → NotOpened → Type 0
IsWhy o (why.NotRecovered fault) = (registry : RegistryFile DiskFile) × (places : List (Option (Member DiskFile)))
    × IsLeft o registry places × IsLossOf o (noted_by registry) places fault
IsWhy o _ = ⊤
