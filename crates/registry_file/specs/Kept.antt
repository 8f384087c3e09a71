-- What the texts of a registry keep.
use Rattle.std.specs.Prelude.{◌≡◌, ◌⊎◌, ℕ, ◌+◌, ◌<◌, ◌==◌, List, [], ◌∷◌, length, take, max, Option, Some, None}
use Rattle.std.specs.Prelude.{IsSome, if◌then◌else◌}
use Rattle.std.specs.Option.{option_and_then, option_map}
use Rattle.registry_text.specs.RecordText.{FleetValue, fleet_in, record_in, shown_fleet}
use Rattle.registry_file.specs.declared.registry.JournalFile.{JournalFile}
use Rattle.registry_text.specs.declared.record.Record.{Record}
use Rattle.registry_text.specs.declared.record.Record.TheVariants as says
use Rattle.registry_file.specs.declared.registry.BackupJournal.{BackupJournal}
use Rattle.registry_file.specs.declared.registry.LeastHead.{LeastHead}
use Rattle.registry_file.specs.declared.registry.Registry.{Registry}

-- What a store keeps beside its backups. `journal` gives the file of each backup's journal, and `least` the least head
-- that a recovery of a master may use. A recovery is for `master`.
pub record Kept : Type 0 where
  pub fleet : FleetValue
  pub journal : ℕ → Option JournalFile
  pub least : ℕ → ℕ
  pub master : Option ℕ
  pub format : Option ℕ

-- a store that has no record yet
abbrev pub begun : FleetValue → Kept
begun f = record { fleet = f; journal = λ b. None; least = λ m. 0; master = None; format = None }

-- the same, but with this file for one backup
abbrev pub journal_at : (ℕ → Option JournalFile) → ℕ → JournalFile → ℕ → Option JournalFile
journal_at journal backup file = λ b. if backup == b then Some file else journal b

-- the same, but one least head is no less than this
abbrev pub raised_at : (ℕ → ℕ) → ℕ → ℕ → ℕ → ℕ
raised_at least master head = λ m. if master == m then max (least m) head else least m

-- what is kept after a record: the latest one counts, and of raises the greatest
abbrev pub after : Kept → Record → Kept
after k (says.Journal backup id count) = record {
  fleet = k.fleet;
  journal = journal_at k.journal backup (record { id = id; count = count });
  least = k.least;
  master = k.master;
  format = k.format;
}
after k (says.Raise master head) = record {
  fleet = k.fleet;
  journal = k.journal;
  least = raised_at k.least master head;
  master = k.master;
  format = k.format;
}
after k (says.Master number) =
    record { fleet = k.fleet; journal = k.journal; least = k.least; master = Some number; format = k.format }
after k (says.Format number) =
    record { fleet = k.fleet; journal = k.journal; least = k.least; master = k.master; format = Some number }

-- what is kept after the record of a text; None if the text is no record's
abbrev pub after_text : Kept → List ℕ → Option Kept
after_text k text = option_map (after k) (record_in text)

-- what is kept after the records of these texts, in their order
abbrev pub replayed : Kept → List (List ℕ) → Option Kept
replayed k [] = Some k
replayed k (text ∷ texts) = option_and_then (λ j. replayed j texts) (after_text k text)

-- What the texts of a file keep: the first names the store, and the others are records. None if there is no first text,
-- or if it names no store, or if another text is no record's.
abbrev pub kept_of : List (List ℕ) → Option Kept
kept_of [] = None
kept_of (first ∷ texts) = option_and_then (λ f. replayed (begun f) texts) (fleet_in first)

-- The texts before the i-th are a registry's, and with the i-th they aren't.
pub record IsFirstWrong (texts : List (List ℕ)) (i : ℕ) : Type 0 where
  pub within : i < length texts
  pub before : (i ≡ 0) ⊎ IsSome (kept_of (take i texts))
  pub here : kept_of (take (i + 1) texts) ≡ None

-- ---- in memory

-- this if it is there, else the other
abbrev pub or_else : Option JournalFile → Option JournalFile → Option JournalFile
or_else (Some file) other = Some file
or_else None other = other

-- the file of a backup's journal: the last one that is listed for it
abbrev pub file_in : List BackupJournal → ℕ → Option JournalFile
file_in [] b = None
file_in (x ∷ xs) b = or_else (file_in xs b) (if x.backup == b then Some x.file else None)

-- the least head of a master: the greatest that is listed for it
abbrev pub least_in : List LeastHead → ℕ → ℕ
least_in [] m = 0
least_in (x ∷ xs) m = max (least_in xs m) (if x.master == m then x.head else 0)

-- what a registry in memory keeps
abbrev pub kept_in : Registry → Kept
kept_in r = record {
  fleet = shown_fleet r.fleet;
  journal = λ b. file_in r.journals.items b;
  least = λ m. least_in r.leasts.items m;
  master = r.master;
  format = r.format;
}
