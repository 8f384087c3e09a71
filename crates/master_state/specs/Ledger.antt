-- What a master's backups answered, as the model of the log counts it.
use Rattle.std.specs.Prelude.{ℕ, zero, suc, ◌+◌, ◌==◌, List, [], ◌∷◌, Bool, if◌then◌else◌}
use Rattle.log_memory.specs.log_laws.Steps.{with_taken, with_count}
use Rattle.master_state.specs.declared.ledger.Posting.{Posting}
use Rattle.master_state.specs.declared.ledger.Posting.TheVariants as posting
use Rattle.master_state.specs.Data.{MasterData}

-- the same lists of backups, but for the segments with so many ids from the first on, which no backup has taken
abbrev pub forgotten : ℕ → ℕ → (ℕ → List ℕ) → ℕ → List ℕ
forgotten first zero took = took
forgotten first (suc n) took = λ s. if s == first + n then [] else forgotten first n took s

-- for each segment, the backups that took an Open or a Seal of it
abbrev pub took_in : List Posting → ℕ → List ℕ
took_in [] = λ s. []
took_in (posting.Began id ∷ ps) = λ s. if s == id then [] else took_in ps s
took_in (posting.Survivors first count ∷ ps) = forgotten first count (took_in ps)
took_in (posting.Took id b ∷ ps) = with_taken (took_in ps) id b
took_in (posting.Has b n ∷ ps) = took_in ps
took_in (posting.Shut b ∷ ps) = took_in ps
took_in (posting.Ended ∷ ps) = took_in ps
took_in (posting.Settled ∷ ps) = took_in ps

-- for each backup, how many units of the head it took
abbrev pub counts_in : List Posting → ℕ → ℕ
counts_in [] = λ b. 0
counts_in (posting.Began id ∷ ps) = counts_in ps
counts_in (posting.Survivors first count ∷ ps) = counts_in ps
counts_in (posting.Took id b ∷ ps) = counts_in ps
counts_in (posting.Has b n ∷ ps) = with_count (counts_in ps) b n
counts_in (posting.Shut b ∷ ps) = counts_in ps
counts_in (posting.Ended ∷ ps) = λ b. 0
counts_in (posting.Settled ∷ ps) = λ b. 0

-- the backups on which the head was closed since the last roll ended
abbrev pub shut_in : List Posting → List ℕ
shut_in [] = []
shut_in (posting.Began id ∷ ps) = shut_in ps
shut_in (posting.Survivors first count ∷ ps) = shut_in ps
shut_in (posting.Took id b ∷ ps) = shut_in ps
shut_in (posting.Has b n ∷ ps) = shut_in ps
shut_in (posting.Shut b ∷ ps) = b ∷ shut_in ps
shut_in (posting.Ended ∷ ps) = []
shut_in (posting.Settled ∷ ps) = shut_in ps

-- the data with one posting more
abbrev pub posted : MasterData → Posting → MasterData
posted d p = record d { ledger = p ∷ d.ledger }

-- the postings, with the end of a roll if this was its last op
abbrev pub ended_with : Bool → List Posting → List Posting
ended_with is_last ps = if is_last then posting.Ended ∷ ps else ps
