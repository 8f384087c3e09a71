-- A push that is accepted is one of the head while no failover is open, or one of the open failover.
use Rattle.std.proofs.Common.{◌≡◌, ◌⊎◌, ℕ, inl, inr, false, true, refl, sym, ap, subst, ◌∙◌}
use Rattle.std.specs.Prelude.{Some, None, IsSome}
use Rattle.log_head.specs.declared.next.Next.{Next}
use Rattle.log_head.specs.Next.{IsNextPush}
use Rattle.master_core.specs.log_laws.Shown.{Op}
use Rattle.master_core.specs.log_bytes.Ops.{TakesOp}
use Rattle.master_core.specs.master_failover.declared.push.Push.{Push}
use Rattle.master_core.specs.master_failover.declared.push.Push.TheVariants as push
use Rattle.master_core.specs.master_failover.declared.push.Push.TheVariants.{Turn}
use Rattle.master_core.specs.master_failover.Mending.{IsNextMend, IsNextPushOf, mended_data, pushed}
use Rattle.master_core.proofs.master_failover.PushKinds.{mend_fails, not_calm, next_of, mends_as, calm_as}
use Rattle.master_core.specs.master_state.declared.step.StepAnswer.{StepAnswer}
use Rattle.master_core.specs.master_state.Budget.{may_turn}
use Rattle.master_core.specs.master_state.Data.{MasterData}
use Rattle.master_core.specs.master_state.Log.{log_of, image_of}
use Rattle.master_core.specs.master_state.Steps.{pushed_data}
use Rattle.master.specs.Pushes.{HasLeft, IsMendOp, IsNextOp, IsOpOf, Pushes, push_answer}
use Rattle.master.specs.World.{World}
use Rattle.master.proofs.MendedRest.{mended_rest}
use Rattle.master.proofs.PushedRest.{SameRest, same_rest}

-- one of the head
pub record CalmPush (old : World) (answer : StepAnswer) (new : World) : Type 0 where
  pub op : Op
  pub running : old.knows.is_halted ≡ false
  pub calm : old.knows.failover ≡ None
  pub next : IsNextOp old.knows op answer (log_of new.knows)
  pub push : Next
  pub waits : IsNextPush old.knows.head (Some push)
  pub rest : new.knows ≡ pushed_data old.knows push
  pub images : (s : ℕ) → HasLeft old.knows new.knows s ⊎ (image_of new.knows s ≡ image_of old.knows s)
  pub takes : TakesOp old.knows.config.master old.fleet op new.fleet

-- one of a failover
pub record MendsOn (old : World) (answer : StepAnswer) (new : World) : Type 0 where
  pub op : Op
  pub running : old.knows.is_halted ≡ false
  pub failing : IsSome old.knows.failover
  pub mend : Push
  pub next : IsNextMend old.knows mend
  pub may : mend ≡ Turn → may_turn old.knows ≡ true
  pub does : IsMendOp old.knows mend op (log_of new.knows)
  pub told : answer ≡ push_answer old.knows mend
  pub rest : new.knows ≡ mended_data old.knows mend
  pub takes : TakesOp old.knows.config.master old.fleet op new.fleet

pub calm_on : (old : World) (answer : StepAnswer) (new : World) (p : CalmPush old answer new)
    → answer ≡ push_answer old.knows (push.Head p.push) → Pushes old answer new
calm_on old answer new p told = record {
  op = p.op;
  running = p.running;
  push = push.Head p.push;
  next = inl (p.calm, p.waits);
  may = λ turn. absurd (cc);
  does = inl (p.calm, subst (λ (a : StepAnswer). IsNextOp old.knows p.op a (log_of new.knows)) told p.next);
  told = told;
  rest = p.rest ∙ sym (calm_as old.knows p.push p.calm);
  images = λ calm. p.images;
  takes = p.takes;
}

pub mends_on : (old : World) (answer : StepAnswer) (new : World) → MendsOn old answer new → Pushes old answer new
mends_on old answer new m = record {
  op = m.op;
  running = m.running;
  push = m.mend;
  next = next_of old.knows m.mend m.next;
  may = m.may;
  does = inr (m.failing, m.does);
  told = m.told;
  rest = m.rest ∙ sym (mends_as old.knows m.mend m.failing);
  images = λ calm. absurd (not_calm old.knows.failover calm m.failing);
  takes = m.takes;
}

module _ (old : World) (answer : StepAnswer) (new : World) (is : Pushes old answer new) where
  failing_kind : (p : Push) → is.push ≡ p → IsNextMend old.knows p → MendsOn old answer new
  failing_kind p same next =
      let some = mend_fails old.knows p next in
      record {
        op = is.op;
        running = is.running;
        failing = some;
        mend = p;
        next = next;
        may = subst (λ (x : Push). x ≡ Turn → may_turn old.knows ≡ true) same is.may;
        does = does some (subst (λ (x : Push). IsOpOf old.knows x is.op (log_of new.knows)) same is.does);
        told = is.told ∙ ap (push_answer old.knows) same;
        rest = is.rest ∙ ap (pushed old.knows) same ∙ mends_as old.knows p some;
        takes = is.takes;
      }
    where
      does : IsSome old.knows.failover → IsOpOf old.knows p is.op (log_of new.knows)
          → IsMendOp old.knows p is.op (log_of new.knows)
      does some (inl calm) = absurd (not_calm old.knows.failover calm.0 some)
      does some (inr mends) = mends.1

  calm_kind : (n : Next) → is.push ≡ push.Head n → old.knows.failover ≡ None → IsNextPush old.knows.head (Some n)
      → CalmPush old answer new
  calm_kind n same calm waits = record {
    op = is.op;
    running = is.running;
    calm = calm;
    next = subst (λ (a : StepAnswer). IsNextOp old.knows is.op a (log_of new.knows))
        (sym (is.told ∙ ap (push_answer old.knows) same))
        (does (subst (λ (x : Push). IsOpOf old.knows x is.op (log_of new.knows)) same is.does));
    push = n;
    waits = waits;
    rest = is.rest ∙ ap (pushed old.knows) same ∙ calm_as old.knows n calm;
    images = is.images calm;
    takes = is.takes;
  } where
    does : IsOpOf old.knows (push.Head n) is.op (log_of new.knows)
        → IsNextOp old.knows is.op (push_answer old.knows (push.Head n)) (log_of new.knows)
    does (inl told) = told.1
    does (inr mends) = absurd (not_calm old.knows.failover calm mends.0)

  pub kinds : CalmPush old answer new ⊎ MendsOn old answer new
  kinds = go is.push refl is.next where
    go : (p : Push) → is.push ≡ p → IsNextPushOf old.knows (Some p) → CalmPush old answer new ⊎ MendsOn old answer new
    go (push.Head n) same (inl calm) = inl (calm_kind n same calm.0 calm.1)
    go (push.Head n) same (inr next) = inr (failing_kind (push.Head n) same next)
    go push.Turn same next = inr (failing_kind push.Turn same next)
    go (push.Raise id) same next = inr (failing_kind (push.Raise id) same next)
    go (push.Repair s j) same next = inr (failing_kind (push.Repair s j) same next)

  -- what a push leaves as it was
  pub pushes_rest : SameRest new.knows old.knows
  pushes_rest = elim kinds as (λ _. SameRest new.knows old.knows) [
    | inl p ↦ subst (λ (x : MasterData). SameRest x old.knows) (sym p.rest) (same_rest old.knows p.push)
    | inr m ↦ subst (λ (x : MasterData). SameRest x old.knows) (sym m.rest) (mended_rest old.knows m.mend)
  ]
