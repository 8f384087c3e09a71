-- What a crash in a take leaves is opened.
use Rattle.std.proofs.Common.{◌≡◌, ◌⊎◌, inl, inr, ℕ, List, [], Some, sym, ◌∙◌, ap}
use Rattle.std.proofs.lemmas.Option.{none-some}
use Rattle.replica.specs.Op.{OpValue}
use Rattle.take_journal.specs.Frames.{recovered}
use Rattle.file_backup.specs.Mirror.{CrashesAreOpened, LeftByTake, Shows}
use Rattle.file_backup.specs.Replay.{Replicas, after_op, shown}
use Rattle.file_backup.specs.declared.fault.BackupFault.TheVariants as fault

-- a file that shows something has a text
has_text : (p : Replicas) (file : List ℕ) → Shows p file → recovered file ≡ [] → ⊥
has_text p file shows none = none-some p (sym (ap (λ (l : List (List ℕ)). shown l) none) ∙ shows)

-- the file shows something
shows_some : (p : Replicas) (op : OpValue) (file : List ℕ) → LeftByTake p op file → (q : Replicas) × Shows q file
shows_some p op file left = by_shows left.shows
  where
    by_shows : Shows p file ⊎ ((q : Replicas) × (after_op p op ≡ Some q) × Shows q file) → (q : Replicas) × Shows q file
    by_shows (inl same) = (p, same)
    by_shows (inr more) = (more.0, more.2)

pub opened : CrashesAreOpened
opened p op file fault.NoMemory left tells = tt
opened p op file fault.OtherVersion left tells = tells left.opens.version
opened p op file fault.NotBegun left tells = let some = shows_some p op file left in has_text some.0 file some.1 tells
opened p op file (fault.Damaged at) left tells = tells.1 left.opens.left
opened p op file (fault.WrongFrame i) left tells = let some = shows_some p op file left in tells.1 some.0 some.1
opened p op file fault.Full left tells = tells
opened p op file fault.Failed left tells = tt
