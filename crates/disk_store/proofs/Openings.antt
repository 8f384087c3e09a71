-- The opening of a store, step by step.
use Rattle.std.proofs.Common.{subst}
use Rattle.std.specs.Prelude.{◌≡◌, ℕ, List, length, Option, Some, None, Result, Ok, Err, IfOk, IfSome}
use Rattle.disk_file.specs.declared.disk.DiskFile.{DiskFile}
use Rattle.embedded.specs.declared.options.Options.{Options}
use Rattle.file_fleet.specs.Noting.{noted_by}
use Rattle.file_fleet.specs.declared.member.Member.{Member}
use Rattle.file_store.specs.declared.store.FileStore.{FileStore}
use Rattle.recovery.specs.claims.declared.rebuilt.Rebuilt.{Rebuilt}
use Rattle.registry_file.specs.declared.file.RegistryFile.{RegistryFile}
use Rattle.registry_file.specs.File.{kept_by}
use Rattle.store_folders.specs.Files.{IsSoundHere}
use Rattle.disk_store.specs.Opened.{AreKept, IsBegun, IsLeft, IsNoTable, IsOpened, IsTableOf, IsWhy, RegistryHere}
use Rattle.disk_store.specs.declared.fault.NotOpened.{NotOpened}
use Rattle.disk_store.specs.declared.fault.NotOpened.TheVariants as why

-- a master that begins with the table of what was left opens the store
pub opened : (o : Options) (registry : RegistryFile DiskFile) (places : List (Option (Member DiskFile)))
    (table : Rebuilt)
    (r : Result (FileStore DiskFile (RegistryFile DiskFile) × ℕ) NotOpened) → IsLeft o registry places
    → IsTableOf (noted_by registry) places table → IfOk r (λ s. IsBegun o table s.0.master)
    → IfOk r (λ s. s.1 ≡ length table.objects) → IfOk r (λ s. IsOpened o s.1 s.0)
opened o registry places table (Ok s) left is begun count = record {
  registry = registry;
  places = places;
  left = left;
  table = table;
  is_table = is;
  count = count;
  begun = begun;
}
opened o registry places table (Err e) left is begun count = tt

-- one that says that there is no table names what is lost
pub lost : (o : Options) (registry : RegistryFile DiskFile) (places : List (Option (Member DiskFile))) (e : NotOpened)
    → IsLeft o registry places → IsNoTable o (noted_by registry) places e → IsWhy o e
lost o registry places (why.Files _) left none = tt
lost o registry places (why.NotRecovered _) left none = (registry, places, left, none)
lost o registry places (why.NotStarted _) left none = tt
lost o registry places (why.NotFreed _) left none = tt

-- the options of a registry's numbers are those that its store was made with
pub kept_in : (registry : RegistryHere) (kept : List ℕ) → IsSoundHere registry
    → kept ≡ (kept_by registry).fleet.options → (o : Option Options) → IfSome o (AreKept kept)
    → IfSome o (λ options. (r : RegistryHere) × IsSoundHere r × AreKept (kept_by r).fleet.options options)
kept_in registry kept sound same None are = tt
kept_in registry kept sound same (Some options) are =
    (registry, sound, subst (λ (xs : List ℕ). AreKept xs options) same are)
