-- What a fleet notes in the file of a registry.
use Rattle.std.specs.Prelude.{◌≡◌, ℕ, ◌==◌, Bool, false, List, Option, Some, None, if◌then◌else◌}
use Rattle.replica.specs.Take.{no_limit}
use Rattle.take_journal.specs.Journal.{device_of}
use Rattle.registry_file.specs.File.{IsBacked, Shows, is_out, journal_of, kept_by}
use Rattle.registry_file.specs.Kept.{Kept}
use Rattle.registry_file.specs.declared.file.RegistryFile.{RegistryFile}
use Rattle.registry_file.specs.declared.registry.JournalFile.{JournalFile}
use Rattle.file_fleet.specs.Files.{Noted}
use Rattle.file_fleet.specs.declared.registry.Span.{Span}
use Rattle.file_fleet.specs.declared.registry.Span.TheVariants.{First, Nothing, Whole}

-- how much of a backup's journal counts: nothing without a record, or if its file has the id 0
abbrev pub span_of : Option JournalFile → Span
span_of None = Nothing
span_of (Some file) =
    if file.id == 0 then Nothing else (if file.count == no_limit then Whole else First file.count)

-- the id of a backup's file: 0 without a record
abbrev pub id_of : Option JournalFile → ℕ
id_of None = 0
id_of (Some file) = file.id

abbrev pub noted_in : Kept → Noted
noted_in k = record {
  least = k.least;
  span = λ b. span_of (k.journal b);
  file = λ b. id_of (k.journal b);
  master = k.master;
}

abbrev pub noted_by : {D : Type 0} → RegistryFile D → Noted
noted_by r = noted_in (kept_by r)

-- All that it keeps is on the disk, and it takes more.
pub record IsSound {D : Type 0} (contents : D → List ℕ) (may_leave : D → List ℕ → Type 0) (has_failed : D → Bool)
    (r : RegistryFile D) : Type 0 where
  pub goes_on : is_out r ≡ false
  pub backed : IsBacked contents may_leave has_failed r

abbrev pub file_of : {D : Type 0} → RegistryFile D → D
file_of r = device_of (journal_of r)

-- This may be noted in one of these files. Of a file that keeps nothing, anything may be.
pub record IsIn (files : List ℕ → Type 0) (noted : Noted) : Type 0 where
  pub file : List ℕ
  pub left : files file
  pub reads : (k : Kept) → Shows k file → noted ≡ noted_in k
