-- A master that knows what its backups hold also knows it after every step that takes no op.
use Rattle.std.specs.Prelude.{◌≡◌, ℕ, List, true, false}
use Rattle.versioned_map.specs.declared.command.Record.{Record}
use Rattle.log_bytes.specs.log_laws.Heads.{Start}
use Rattle.log_bytes.specs.log_laws.Shown.{Shown}
use Rattle.log_bytes.specs.log_laws.Data.{FailConfig, Mode, FailData}
use Rattle.log_bytes.specs.log_laws.Steps.{fresh, MayBegin, applied, MayApply, rolling, next_start, MayTurn, ended}
use Rattle.log_bytes.specs.log_laws.Steps.{EndsRoll, failing, mended}
use Rattle.log_memory.specs.Intact.{IsIntact, Knows}
use Rattle.log_memory.specs.Memory.{FailMemory}
use Rattle.log_memory.specs.Steps.{first_memory, recorded, ids_taken, pass_begun, MayBeginClean, rolled, stopped}
use Rattle.log_memory.specs.Steps.{MayCommit, finished}

abbrev pub FreshKnows : Type 0
FreshKnows = (c : FailConfig) (p : Shown) → MayBegin c p → Knows (fresh c) (first_memory c 1) p

abbrev pub ApplyKnows : Type 0
ApplyKnows = (d : FailData) (m : FailMemory) (p : Shown) (segment : ℕ) (r : Record) → IsIntact d m p → Knows d m p
    → MayApply d segment r → Knows (applied d segment r) (recorded d m segment r) p

-- The master knows what is held with another memory too, if the same replicas wait to be freed in it.
abbrev pub WaitingKnows : Type 0
WaitingKnows = (d : FailData) (m n : FailMemory) (p : Shown) → Knows d m p → n.waiting ≡ m.waiting → Knows d n p

abbrev pub BeginKnows : Type 0
BeginKnows = (d : FailData) (m : FailMemory) (p : Shown) (victims : List ℕ) (count : ℕ) → IsIntact d m p
    → Knows d m p → MayBeginClean d m victims → Knows (ids_taken count d) (pass_begun d m victims count) p

abbrev pub RollKnows : Type 0
RollKnows = (d : FailData) (m : FailMemory) (p : Shown) (mode : Mode) → IsIntact d m p → Knows d m p
    → MayTurn d mode → Knows (rolling d (next_start d) mode) (rolled d m (next_start d) false) p

abbrev pub CommitKnows : Type 0
CommitKnows = (d : FailData) (m : FailMemory) (p : Shown) (n : Start) (mode : Mode) → IsIntact d m p → Knows d m p
    → MayCommit d m n mode → Knows (rolling d n mode) (rolled d m n true) p

abbrev pub EndKnows : Type 0
EndKnows = (d : FailData) (m : FailMemory) (p : Shown) (n : Start) (mode : Mode) → IsIntact d m p → Knows d m p
    → EndsRoll d n mode → m.commits ≡ false → Knows (ended d n mode) m p

-- Each home of a victim holds a replica of it, which waits to be freed once the commit has ended.
abbrev pub FinishKnows : Type 0
FinishKnows = (d : FailData) (m : FailMemory) (p : Shown) (n : Start) (mode : Mode) → IsIntact d m p → Knows d m p
    → EndsRoll d n mode → m.commits ≡ true → Knows (ended d n mode) (finished d m) p

-- The master knows what the other backups hold once one backup has failed, whatever that one did with its last op.
abbrev pub FailKnows : Type 0
FailKnows = (d : FailData) (m : FailMemory) (p q : Shown) (b : ℕ) → Knows d m p
    → ((c s : ℕ) → (c ≡ b → ⊥) → q.holds c s ≡ p.holds c s) → Knows (failing d b) (stopped m) q

abbrev pub MendKnows : Type 0
MendKnows = (d : FailData) (m : FailMemory) (p : Shown) → Knows d m p → Knows (mended d) m p
