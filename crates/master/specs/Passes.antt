-- The op that a seal or a free hands to a backup.
use Rattle.std.specs.Prelude.{◌≡◌, ℕ, None, Some}
use Rattle.master_core.specs.log_laws.Shown.{Op}
use Rattle.master_core.specs.log_bytes.Ops.{TakesOp}
use Rattle.master_core.specs.log_bytes.Text.{entries_for}
use Rattle.master_core.specs.log_memory.Memory.{text_in}
use Rattle.master_core.specs.log_memory.Steps.{seal_op, free_op}
use Rattle.master_core.specs.master_state.declared.ledger.Posting.TheVariants as posting
use Rattle.master_core.specs.master_state.declared.step.StepAnswer.{StepAnswer}
use Rattle.master_core.specs.master_state.declared.step.StepAnswer.TheVariants.{Sealed, Freed}
use Rattle.master_core.specs.master_state.Causes.{seal_refusal, free_refusal}
use Rattle.master_core.specs.master_state.Data.{MasterData}
use Rattle.master_core.specs.master_state.Ledger.{posted}
use Rattle.master_core.specs.master_state.Log.{home, images_of, memory_of}
use Rattle.master_core.specs.master_state.Steps.{sealed_data, freed_data}
use Rattle.master_core.specs.master_state.Waits.{next_seal, next_free}
use Rattle.master.specs.World.{World}

-- The op seals the next replica of the survivors of the open pass, which go one after the other: the survivor's image
-- is written whole to the replica's home.
pub record IsSealOp (d : MasterData) (o : Op) : Type 0 where
  pub segment : ℕ
  pub replica : ℕ
  pub next : next_seal d ≡ Some (segment, replica)
  pub is : o ≡ seal_op (memory_of d) segment (home d.config d.failed segment replica)
  pub whole : entries_for d.config.master segment (text_in (memory_of d) segment) ≡ images_of d segment

-- A seal that is accepted: one op, which the fleet took.
pub record Seals (old : World) (answer : StepAnswer) (new : World) : Type 0 where
  pub op : Op
  pub passed : seal_refusal old.knows ≡ None
  pub next : IsSealOp old.knows op
  pub told : answer ≡ Sealed (home old.knows.config old.knows.failed next.segment next.replica)
  pub rest : new.knows ≡ sealed_data (posted old.knows
      (posting.Took next.segment (home old.knows.config old.knows.failed next.segment next.replica)))
  pub takes : TakesOp old.knows.config.master old.fleet op new.fleet

-- The op frees the next replica of the first segment that waits.
pub record IsFreeOp (d : MasterData) (o : Op) : Type 0 where
  pub segment : ℕ
  pub replica : ℕ
  pub next : next_free d ≡ Some (segment, replica)
  pub is : o ≡ free_op segment (home d.config d.failed segment replica)

-- A free that is accepted: one op, which the fleet took.
pub record Frees (old : World) (answer : StepAnswer) (new : World) : Type 0 where
  pub op : Op
  pub passed : free_refusal old.knows ≡ None
  pub next : IsFreeOp old.knows op
  pub told : answer ≡ Freed next.segment (home old.knows.config old.knows.failed next.segment next.replica)
  pub rest : new.knows ≡ freed_data old.knows
  pub takes : TakesOp old.knows.config.master old.fleet op new.fleet
