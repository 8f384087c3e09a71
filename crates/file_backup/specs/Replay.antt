-- What the texts of ops make of a backup's replicas.
use Rattle.std.specs.Prelude.{◌≡◌, ℕ, ◌+◌, ◌<◌, ◌==◌, ◌&&◌, List, [], ◌∷◌, length, take, Option, Some, None, IsSome}
use Rattle.std.specs.Prelude.{if◌then◌else◌, Result, Ok, Err, ⊤}
use Rattle.std.specs.Option.{option_and_then, option_map}
use Rattle.replica.specs.Op.{OpValue}
use Rattle.replica.specs.Picture.{Replica}
use Rattle.replica.specs.Take.{effect}
use Rattle.replica.specs.declared.op.TakeFault.{TakeFault}
use Rattle.replica.specs.declared.op.TakeFault.TheVariants as take_fault
use Rattle.backup.specs.Shelf.{replica_at}
use Rattle.backup.specs.declared.memory.MemoryBackup.{MemoryBackup}
use Rattle.op_text.specs.OpText.{op_in}

-- the replica, if any, that a backup has of a master's segment; its arguments are master and segment
abbrev pub Replicas : Type 0
Replicas = ℕ → ℕ → Option Replica

abbrev pub no_replicas : Replicas
no_replicas = λ m s. None

-- what a backup in memory holds
abbrev pub held_in : MemoryBackup → Replicas
held_in memory = λ m s. replica_at memory m s

-- the same replicas, but this one, or none, for one segment of a master
abbrev pub with_at : Replicas → ℕ → ℕ → Option Replica → Replicas
with_at p m s r = λ n t. if (m == n) && (s == t) then r else p n t

-- the replicas after an op; None if the op doesn't fit
abbrev pub after_op : Replicas → OpValue → Option Replicas
after_op p op = option_map (with_at p op.master op.segment) (effect op.act (p op.master op.segment))

-- the replicas after the op of a text; None if the text is no op's, or the op doesn't fit
abbrev pub after_text : Replicas → List ℕ → Option Replicas
after_text p text = option_and_then (after_op p) (op_in text)

-- the replicas after the ops of these texts, in their order
abbrev pub replayed : Replicas → List (List ℕ) → Option Replicas
replayed p [] = Some p
replayed p (text ∷ texts) = option_and_then (λ q. replayed q texts) (after_text p text)

-- what a backup makes of a text, by its answer
abbrev pub TakesText : Replicas → List ℕ → Result Unit TakeFault → Replicas → Type 0
TakesText old text (Ok u) new = after_text old text ≡ Some new
TakesText old text (Err take_fault.NoMemory) new = ⊤
TakesText old text (Err take_fault.Wrong) new = after_text old text ≡ None
TakesText old text (Err take_fault.Fault) new = ⊥
TakesText old text (Err take_fault.Spent) new = ⊥

-- What the texts of a file show: the first names the format, and the others are those of ops. None if there is no first
-- text, or if a text isn't that of an op that fits.
abbrev pub shown : List (List ℕ) → Option Replicas
shown [] = None
shown (first ∷ texts) = replayed no_replicas texts

-- The texts before the i-th show replicas, and with the i-th they don't.
pub record IsFirstWrong (texts : List (List ℕ)) (i : ℕ) : Type 0 where
  pub within : i < length texts
  pub before : IsSome (shown (take i texts))
  pub here : shown (take (i + 1) texts) ≡ None
