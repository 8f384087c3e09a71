-- What a step of the cleaner does to the value under the lock.
use Rattle.std.specs.Prelude.{◌≡◌, ◌≤◌, ◌⊎◌, ℕ, Option, Some, None, IfSome, Result, Ok, Err}
use Rattle.store_step.specs.master.master_state.declared.step.Refusal.{Refusal}
use Rattle.store_step.specs.master.master_state.declared.step.Refusal.TheVariants as refusal
use Rattle.store_step.specs.master.master_state.declared.step.StepAnswer.{StepAnswer}
use Rattle.store_step.specs.declared.turn.CleanTurn.{CleanTurn}
use Rattle.store_step.specs.declared.turn.CleanTurn.TheVariants as turn
use Rattle.store_step.specs.Turns.{MakesTurn, step_of}
use Rattle.tending.specs.declared.policy.Policy.{Policy}
use Rattle.tending.specs.Low.{MayRest}
use Rattle.tending.specs.Tends.{IsTendStep}
use Rattle.store_seat.specs.Stops.{StopsPush}
use Rattle.store_step.specs.master.master_state.Forgetting.{ForgetsTo}
use Rattle.store_seat.specs.Accounts.{IsOpen, IsSettled}
use Rattle.locked_log.specs.Held.{Held, knows, history, durable}

-- One step that is no command. For Next it is the step that the master says is next. Book, row and total stay.
pub record Turns (s : Held) (turn : CleanTurn) (answer : Result StepAnswer Refusal) (t : Held) : Type 0 where
  pub steps : MakesTurn s.world turn answer t.world
  pub history : (knows t).history ≡ (knows s).history
  pub book : t.book ≡ s.book
  pub row : t.row ≡ s.row
  pub total : t.total ≡ s.total
  pub refused : t.is_refused ≡ s.is_refused

-- ---- a cleaner that tends the log

-- A turn that asks for the step that is under way, or, if none is, for a compaction or the begin of a pass.
abbrev pub TendsBy : Held → Result StepAnswer Refusal → Held → Type 0
TendsBy s answer t = (turn : CleanTurn) × IfSome (step_of (knows s) turn) (IsTendStep (knows s))
    × Turns s turn answer t

-- One such turn. Without one the cleaner may rest, and nothing changes. If memory for the choice runs out, nothing
-- changes either.
abbrev pub TendsHeld : Policy → Held → Result (Option StepAnswer) Refusal → Held → Type 0
TendsHeld policy s (Ok None) t = MayRest policy (knows s) × (t ≡ s)
TendsHeld policy s (Ok (Some answer)) t = TendsBy s (Ok answer) t
TendsHeld policy s (Err e) t = TendsBy s (Err e) t ⊎ ((e ≡ refusal.NoMemory) × (t ≡ s))

-- ---- a push of a call

-- Whoever pushes may go on: the push was made, or nothing waits, since another thread made it, or a backup failed in
-- the push, and further pushes end the failover.
abbrev pub GoesOn : Result StepAnswer Refusal → Type 0
GoesOn (Ok answer) = Unit {0}
GoesOn (Err refusal.Nothing) = Unit {0}
GoesOn (Err (refusal.Lost backup)) = Unit {0}
GoesOn (Err _) = ⊥

-- One push. It answers Ok if whoever pushes may go on, and else the refusal of the step.
abbrev pub PushesHeld : Held → Result Unit Refusal → Held → Type 0
PushesHeld s (Ok u) t = (answer : Result StepAnswer Refusal) × Turns s turn.Push answer t × GoesOn answer
PushesHeld s (Err e) t = Turns s turn.Push (Err e) t × StopsPush e

-- ---- records that are forgotten

-- The master forgets up to the bound, which is as great as it may be: no seat can settle a record below it, and one can
-- settle the record there, or what is durable ends there. Nothing else changes. The result is how many records are
-- forgotten then.
pub record ForgetsHeldTo (bound : ℕ) (s : Held) (result : ℕ) (t : Held) : Type 0 where
  pub settled : IsSettled s.start s.book (history s) bound
  pub near : IsOpen s.book (history s) bound ⊎ (durable s ≤ bound)
  pub forgets : ForgetsTo bound (knows s) (knows t)
  pub rest : t ≡ record s { world = record s.world { knows = knows t } }
  pub told : result ≡ (knows t).forgotten

abbrev pub ForgetsHeld : Held → ℕ → Held → Type 0
ForgetsHeld s result t = (bound : ℕ) × ForgetsHeldTo bound s result t
