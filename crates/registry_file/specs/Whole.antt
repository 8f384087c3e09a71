-- The fewest texts that keep what a registry keeps.
use Rattle.std.specs.Prelude.{ℕ, List, [], ◌∷◌, ◌++◌, map, Option, Some, None}
use Rattle.std.specs.List.{AllByRecursion}
use Rattle.registry_file.specs.Kept.{kept_in}
use Rattle.registry_text.specs.RecordText.{FitsRecord, fleet_text, record_text}
use Rattle.registry_text.specs.declared.record.Record.{Record}
use Rattle.registry_text.specs.declared.record.Record.TheVariants as says
use Rattle.registry_file.specs.declared.registry.BackupJournal.{BackupJournal}
use Rattle.registry_file.specs.declared.registry.LeastHead.{LeastHead}
use Rattle.registry_file.specs.declared.registry.Registry.{Registry}

abbrev pub naming : BackupJournal → Record
naming j = says.Journal j.backup j.file.id j.file.count

abbrev pub raising : LeastHead → Record
raising l = says.Raise l.master l.head

abbrev pub for_master : Option ℕ → List Record
for_master None = []
for_master (Some number) = says.Master number ∷ []

abbrev pub of_format : Option ℕ → List Record
of_format None = []
of_format (Some number) = says.Format number ∷ []

-- one record for each journal and each least head, and for the master and the format
abbrev pub records_of : Registry → List Record
records_of r = map naming r.journals.items ++ map raising r.leasts.items ++ for_master r.master ++ of_format r.format

abbrev pub AreFit : List Record → Type 0
AreFit rs = AllByRecursion FitsRecord rs

-- the text that names the store, and those of the records
abbrev pub whole_texts : Registry → List (List ℕ)
whole_texts r = fleet_text (kept_in r).fleet ∷ map record_text (records_of r)
