-- What outlives a process: what the registry keeps, and the journals of the backups.
use Rattle.std.specs.Prelude.{◌≡◌, ◌<◌, ◌==◌, ℕ, List, Option, Some, take, if◌then◌else◌}
use Rattle.replica.specs.Picture.{Picture}
use Rattle.replica.specs.Registry.{with_least}
use Rattle.take_journal.specs.Frames.{recovered}
use Rattle.file_backup.specs.Mirror.{Shows}
use Rattle.file_backup.specs.Replay.{Replicas, no_replicas, shown}
use Rattle.file_fleet.specs.declared.registry.Span.{Span}
use Rattle.file_fleet.specs.declared.registry.Span.TheVariants.{First, Nothing, Whole}

-- What a registry keeps: of each master the least id of a head that a recovery may use, of each backup the id of the
-- file that is its journal, and how much of it counts, and the master that a recovery is for.
pub record Noted : Type 0 where
  pub least : ℕ → ℕ
  pub span : ℕ → Span
  pub file : ℕ → ℕ
  pub master : Option ℕ

-- the least head of this master becomes the greater of its old one and this id
abbrev pub with_head : Noted → ℕ → ℕ → Noted
with_head k master id =
    record { least = with_least k.least master id; span = k.span; file = k.file; master = k.master }

-- so much counts of this backup's journal
abbrev pub with_span : Noted → ℕ → Span → Noted
with_span k b span =
    record { least = k.least; span = λ c. if b == c then span else k.span c; file = k.file; master = k.master }

-- this backup's journal is the file with this id, and all of it counts
abbrev pub with_file : Noted → ℕ → ℕ → Noted
with_file k b id = record {
  least = k.least;
  span = λ c. if b == c then Whole else k.span c;
  file = λ c. if b == c then id else k.file c;
  master = k.master;
}

-- a recovery is for this master
abbrev pub with_master : Noted → ℕ → Noted
with_master k master = record { least = k.least; span = k.span; file = k.file; master = Some master }

-- The files of a fleet: of each backup those that were its journal or may become it, by id, and what the registry's
-- file keeps.
pub record Files : Type 0 where
  pub journal : ℕ → ℕ → List ℕ
  pub registry : Noted

-- the file that is a backup's journal
abbrev pub named : Files → ℕ → List ℕ
named files b = files.journal b (files.registry.file b)

-- a journal shows these replicas if so much of it counts
abbrev pub ShowsUnder : Span → Replicas → List ℕ → Type 0
ShowsUnder Nothing p file = p ≡ no_replicas
ShowsUnder Whole p file = Shows p file
ShowsUnder (First n) p file = shown (take n (recovered file)) ≡ Some p

-- The files of a fleet of so many backups show this picture and these least heads.
pub record ShowsFleet (backups : ℕ) (picture : Picture) (least : ℕ → ℕ) (files : Files) : Type 0 where
  pub heads : files.registry.least ≡ least
  pub each : (b : ℕ) → b < backups → ShowsUnder (files.registry.span b) (picture b) (named files b)
