-- Each step keeps the limit, and so do any steps.
use Rattle.std.proofs.Common.{◌≡◌, ◌⊎◌, ℕ, List, [], ◌∷◌, inl, inr, refl, sym, ap, subst, ◌∙◌}
use Rattle.std.specs.Prelude.{Option, Some, None, Result, Ok, Err}
use Rattle.std.specs.Option.{option_map_or}
use Rattle.versioned_map.specs.declared.command.Command.{Command}
use Rattle.versioned_map.specs.declared.command.Record.{Record}
use Rattle.replay.specs.master.log_laws.Shown.{Op}
use Rattle.replay.specs.master.master_state.declared.config.Config.{Config}
use Rattle.replay.specs.master.master_state.declared.step.Refusal.{Refusal}
use Rattle.replay.specs.master.master_state.declared.step.Step.{Step}
use Rattle.replay.specs.master.master_state.declared.step.Step.TheVariants.{Apply, Push, BeginRoll, Compact, BeginClean}
use Rattle.replay.specs.master.master_state.declared.step.Step.TheVariants.{Copy, Seal, Free}
use Rattle.replay.specs.master.master_state.declared.step.StepAnswer.{StepAnswer}
use Rattle.replay.specs.master.master_state.Data.{MasterData, Origin, fresh_data}
use Rattle.replay.specs.master.master_state.declared.ledger.Posting.TheVariants as posting
use Rattle.replay.specs.master.master_state.Ledger.{posted}
use Rattle.replay.specs.master.master_state.Log.{home}
use Rattle.replay.specs.master.master_state.Steps.{Applies, sealed_data}
use Rattle.replay.specs.master.master_state.Waits.{next_seal}
use Rattle.replay.specs.master.master_failover.Mending.{turned_data}
use Rattle.replay.specs.master.Passes.{IsSealOp, IsFreeOp}
use Rattle.replay.specs.master.Steps.{Steps, FailsTake, IsPushOp}
use Rattle.replay.specs.master.World.{World}
use Rattle.replay.proofs.of_driving.of_master.Keeping.{take_failed}
use Rattle.replay.proofs.of_driving.of_master.PushKinds.{pushes_rest}
use Rattle.replay.proofs.of_driving.of_master.MendedRest.{turned_rest}
use Rattle.replay.proofs.of_driving.of_master.PushedRest.{SameRest}
use Rattle.adoptable.specs.Laws.{StepKeepsLimit, RunKeepsLimit}
use Rattle.adoptable.specs.Limit.{KeepsLimit}
use Rattle.adoptable.proofs.Applying.{applied_keeps}

-- ---- what the limit speaks of

-- the configuration, the history with what it began with, and the bytes that are counted
record Told : Type 0 where
  config : Config
  origin : Origin
  history : List Record
  live : ℕ

abbrev told : MasterData → Told
told d = record { config = d.config; origin = d.origin; history = d.history; live = d.live }

-- a master of which just this is known keeps its limit
abbrev KeepsTold : Told → Type 0
KeepsTold t = KeepsLimit (record (fresh_data t.config) { origin = t.origin; history = t.history; live = t.live })

told_keeps : (d e : MasterData) → told e ≡ told d → KeepsLimit d → KeepsLimit e
told_keeps d e same keeps =
    let now = subst KeepsTold (sym same)
    (record { limit = keeps.limit; counted = keeps.counted; admitted = keeps.admitted }) in
    record { limit = now.limit; counted = now.counted; admitted = now.admitted }

-- ---- steps that leave it

rest_told : (e d : MasterData) → SameRest e d → told e ≡ told d
rest_told e d same i =
    record { config = same.0 i; origin = same.3 i; history = same.1 i; live = same.4 i }

turned_told : (d : MasterData) → told (turned_data d) ≡ told d
turned_told d = rest_told (turned_data d) d (turned_rest d)

-- a change that leaves it, if there is one
option_told : (d : MasterData) (step : ℕ × ℕ → MasterData) (o : Option (ℕ × ℕ))
    → ((x : ℕ × ℕ) → told (step x) ≡ told d) → told (option_map_or step o d) ≡ told d
option_told d step None same = refl
option_told d step (Some x) same = same x

sealed_told : (d : MasterData) → told (sealed_data d) ≡ told d
sealed_told d = option_told d _ (next_seal d) (λ x. refl)

world_told : (old new : World) → new ≡ old → told new.knows ≡ told old.knows
world_told old new same = ap (λ (w : World). told w.knows) same

-- a take that failed
failed_told : (IsOp : Op → Type 0) (old new : World) (r : Refusal) → FailsTake IsOp old r new
    → told new.knows ≡ told old.knows
failed_told IsOp old new r t = take_failed IsOp old new r t (world_told old new)
    (λ b h. ap told h.1) (λ h. ap told h.1)

others_told : (old new : World) (step : Step) (answer : Result StepAnswer Refusal) → Steps old step answer new
    → (told new.knows ≡ told old.knows)
    ⊎ ((seat : ℕ) × (command : Command) × (a : StepAnswer) × Applies old.knows seat command a new.knows)
others_told old new (Apply seat command) (Ok a) h = inr (seat, command, a, h.0)
others_told old new (Apply seat command) (Err r) h = inl (world_told old new h.0)
others_told old new Push (Ok a) h = inl (rest_told new.knows old.knows (pushes_rest old a new h))
others_told old new Push (Err r) (inl h) = inl (world_told old new h.1)
others_told old new Push (Err r) (inr (test, inl h)) = inl (ap (λ (w : World). told w.knows) h.3)
others_told old new Push (Err r) (inr (test, inr (inl h))) = inl (ap told h.3 ∙ turned_told old.knows)
others_told old new Push (Err r) (inr (test, inr (inr h))) = inl (failed_told (IsPushOp old) old new r h.1)
others_told old new BeginRoll (Ok a) h = inl (ap told h.0.rest)
others_told old new BeginRoll (Err r) h = inl (world_told old new h.0)
others_told old new (Compact id) (Ok a) h = inl (ap told h.0.rest)
others_told old new (Compact id) (Err r) h = inl (world_told old new h.0)
others_told old new (BeginClean ids) (Ok a) h = inl (ap told h.0.rest)
others_told old new (BeginClean ids) (Err r) h = inl (world_told old new h.0)
others_told old new Copy (Ok a) h = inl (ap told h.0.rest)
others_told old new Copy (Err r) h = inl (world_told old new h.0)
others_told old new Seal (Ok a) h =
    inl (ap told h.rest ∙ sealed_told (posted old.knows
    (posting.Took h.next.segment (home old.knows.config old.knows.failed h.next.segment h.next.replica))))
others_told old new Seal (Err r) (inl h) = inl (world_told old new h.1)
others_told old new Seal (Err r) (inr h) = inl (failed_told (IsSealOp old.knows) old new r h.1)
others_told old new Free (Ok a) h = inl (ap told h.rest)
others_told old new Free (Err r) (inl h) = inl (world_told old new h.1)
others_told old new Free (Err r) (inr h) = inl (failed_told (IsFreeOp old.knows) old new r h.1)

-- ---- steps

pub step_keeps_limit : StepKeepsLimit
step_keeps_limit old new step answer steps keeps = go (others_told old new step answer steps)
  where
    go : (told new.knows ≡ told old.knows)
        ⊎ ((seat : ℕ) × (command : Command) × (a : StepAnswer) × Applies old.knows seat command a new.knows)
        → KeepsLimit new.knows
    go (inl same) = told_keeps old.knows new.knows same keeps
    go (inr (seat, command, a, applies)) = applied_keeps old.knows new.knows seat command a applies keeps

pub run_keeps_limit : RunKeepsLimit
run_keeps_limit old new [] [] run keeps = subst (λ (w : World). KeepsLimit w.knows) (sym run) keeps
run_keeps_limit old new [] (a ∷ answers) run keeps = absurd run
run_keeps_limit old new (s ∷ steps) [] run keeps = absurd run
run_keeps_limit old new (s ∷ steps) (a ∷ answers) run keeps =
    run_keeps_limit run.0 new steps answers run.3 (step_keeps_limit old run.0 s a run.1 keeps)
