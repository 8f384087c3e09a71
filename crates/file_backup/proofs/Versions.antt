-- The version that the first text of a file names.
use Rattle.std.proofs.Common.{◌≡◌, ℕ, List, [], ◌∷◌, ◌++◌, Some}
use Rattle.std.proofs.lemmas.Option.{none-some}
use Rattle.take_journal.specs.Crash.{HasVersion}
use Rattle.file_backup.specs.Replay.{Replicas, shown}

-- it is the first text's
pub version_first : (first : List ℕ) (texts : List (List ℕ)) → HasVersion (first ∷ []) → HasVersion (first ∷ texts)
version_first [] texts has = absurd has
version_first (x ∷ xs) texts has = has

-- one text more
pub version_more : (p : Replicas) (texts : List (List ℕ)) (text : List ℕ) → shown texts ≡ Some p → HasVersion texts
    → HasVersion (texts ++ text ∷ [])
version_more p [] text shows has = absurd (none-some p shows)
version_more p ([] ∷ texts) text shows has = absurd has
version_more p ((x ∷ xs) ∷ texts) text shows has = has
