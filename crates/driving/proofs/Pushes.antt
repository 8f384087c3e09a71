-- Pushes that are made for a record.
use Rattle.std.proofs.Common.{◌≡◌, ℕ, zero, suc, Bool, true, false, subst}
use Rattle.std.specs.Prelude.{Ok}
use Rattle.master.specs.master_state.declared.step.Refusal.{Refusal}
use Rattle.master.specs.master_state.declared.step.Step.TheVariants.{Push}
use Rattle.master.specs.master_state.declared.step.StepAnswer.{StepAnswer}
use Rattle.master.specs.Steps.{Accepts, PushesFor}
use Rattle.master.specs.World.{World}
use Rattle.driving.specs.Commands.{ArePushedFor, IsAwaited, IsDurable, StopsShort}
use Rattle.driving.specs.Rolls.{Advances, ArePushed, PushesUntil}

-- one push more
pub one_more_for : (place : ℕ) (from old new : World) → IsAwaited place old → Advances Push old new
    → ((count : ℕ) × ArePushedFor place count from old)
    → (count : ℕ) × ArePushedFor place count from new
one_more_for place from old new awaited push (count, before) = (suc count, (old, before, awaited, push))

-- what a push for a record did
module _ (place : ℕ) (old new : World) where
  pub found_durable : (b : Bool) → b ≡ true → PushesFor place old (Ok b) new → IsDurable place old × (new ≡ old)
  found_durable b same is = subst (λ (x : Bool). PushesFor place old (Ok x) new) same is

  pub found_awaited : (b : Bool) → b ≡ false → PushesFor place old (Ok b) new
      → IsAwaited place old × (a : StepAnswer) × Accepts old Push a new
  found_awaited b same is = subst (λ (x : Bool). PushesFor place old (Ok x) new) same is

pushed_for : (place count : ℕ) (old new : World) → ArePushedFor place count old new → ArePushed count old new
pushed_for place zero old new same = same
pushed_for place (suc count) old new (mid, before, awaited, push) =
    (mid, pushed_for place count old mid before, push)

pub stops_until : (place : ℕ) (old new : World) (r : Refusal) → StopsShort place old r new → PushesUntil old r new
stops_until place old new r (count, mid, before, awaited, declines, lost) =
    (count, mid, pushed_for place count old mid before, declines, lost)
