-- What pushes and a roll make of a master and its fleet.
use Rattle.std.specs.Prelude.{◌≡◌, ◌⊎◌, ℕ, zero, suc, ◌≤◌, Bool, true, false, Some, None, IfSome, Result, Ok}
use Rattle.std.specs.Prelude.{Err}
use Rattle.master.specs.log_head.declared.head.Roll.{Roll}
use Rattle.master.specs.log_head.Head.{is_open}
use Rattle.master.specs.master_state.declared.failover.Failover.{Failover}
use Rattle.master.specs.master_state.declared.failover.Part.TheVariants as part
use Rattle.master.specs.master_state.Budget.{is_working}
use Rattle.master.specs.master_state.Data.{MasterData}
use Rattle.master.specs.master_state.declared.step.Refusal.{Refusal}
use Rattle.master.specs.master_state.declared.step.Refusal.TheVariants as refusal
use Rattle.master.specs.master_state.declared.step.Refusal.TheVariants.{Rolling, Nothing}
use Rattle.master.specs.master_state.declared.step.Step.{Step}
use Rattle.master.specs.master_state.declared.step.Step.TheVariants.{Push, BeginRoll}
use Rattle.master.specs.master_state.declared.step.StepAnswer.{StepAnswer}
use Rattle.master.specs.Steps.{Accepts, Declines}
use Rattle.master.specs.World.{World}

-- the refusal tells of a failed backup, without which the master goes on
abbrev pub is_lost : Refusal → Bool
is_lost (refusal.Lost b) = true
is_lost _ = false

-- the step was accepted; or a backup failed in it, and a failover is open since
abbrev pub Advances : Step → World → World → Type 0
Advances step old new = ((answer : StepAnswer) × Accepts old step answer new)
    ⊎ ((b : ℕ) × Declines old step (refusal.Lost b) new)

-- this many pushes were made, one after another
abbrev pub ArePushed : ℕ → World → World → Type 0
ArePushed zero old new = new ≡ old
ArePushed (suc count) old new = (mid : World) × ArePushed count old mid × Advances Push mid new

-- pushes were made until one was refused for good
abbrev pub PushesUntil : World → Refusal → World → Type 0
PushesUntil old r new =
    (count : ℕ) × (mid : World) × ArePushed count old mid × Declines mid Push r new × (is_lost r ≡ false)

-- a roll begins; or none may begin, since the head isn't open yet or a failover is open
abbrev pub GoesRolling : World → World → Type 0
GoesRolling old new = ((answer : StepAnswer) × Accepts old BeginRoll answer new) ⊎ Declines old BeginRoll Rolling new

-- a failover that is open has made its new head
abbrev pub HasTurned : MasterData → Type 0
HasTurned d = IfSome d.failover (λ (f : Failover). f.part ≡ part.Mends → ⊥)

-- A roll began if the head was open and no failover was open, and pushes were made until nothing waited. The head has
-- this id now.
pub record IsRolled (old : World) (id : ℕ) (new : World) : Type 0 where
  pub mid : World
  pub rolling : GoesRolling old mid
  pub pushed : PushesUntil mid Nothing new
  pub opened : is_open new.knows.head ≡ true
  pub calm : new.knows.failover ≡ None
  pub head : id ≡ new.knows.head.id
  -- after an open head comes a new one
  pub later : is_working old.knows ≡ true → old.knows.next ≤ id
  -- if no backup fails meanwhile, the new head has the first id that no segment had
  pub next : new.knows.failed ≡ old.knows.failed → is_working old.knows ≡ true → id ≡ old.knows.next
  -- if a roll was under way, or a failover had made one, the head is that of this roll
  pub awaited : new.knows.failed ≡ old.knows.failed → HasTurned old.knows → (roll : Roll)
      → old.knows.head.roll ≡ Some roll → id ≡ roll.id

-- A roll couldn't begin, or one of its pushes was refused.
abbrev pub IsNotRolled : World → Refusal → World → Type 0
IsNotRolled old r new = (Declines old BeginRoll r new × (r ≡ Rolling → ⊥))
    ⊎ ((mid : World) × GoesRolling old mid × PushesUntil mid r new × (r ≡ Nothing → ⊥))

-- a roll, by the id of the head that it ends with or by its refusal
abbrev pub Rolls : World → Result ℕ Refusal → World → Type 0
Rolls old (Ok id) new = IsRolled old id new
Rolls old (Err r) new = IsNotRolled old r new
