-- What a step asked of the fleet, and which record it made.
use Rattle.std.proofs.Common.{◌≡◌, ℕ, List, [], ◌∷◌, ◌++◌, inl, inr, refl, sym, ap, subst, ◌∙◌}
use Rattle.std.specs.Prelude.{Result, Ok, Err}
use Rattle.std.proofs.lemmas.List.{append-nil, append_assoc}
use Rattle.replica.specs.declared.op.TakeFault.TheVariants as take_fault
use Rattle.replica.specs.Picture.{FleetState}
use Rattle.versioned_map.specs.declared.command.Record.{Record}
use Rattle.replay.specs.master.log_laws.Data.{FailData}
use Rattle.replay.specs.master.log_laws.Shown.{Op, On, Raise}
use Rattle.replay.specs.master.log_bytes.Ops.{TakesOp, RefusesOp, act_for}
use Rattle.replay.specs.master.master_state.declared.config.Config.{Config}
use Rattle.replay.specs.master.master_state.declared.step.Refusal.{Refusal}
use Rattle.replay.specs.master.master_state.declared.step.Refusal.TheVariants as refusal
use Rattle.replay.specs.master.master_state.declared.step.Step.{Step}
use Rattle.replay.specs.master.master_state.declared.step.Step.TheVariants.{Apply, Push, BeginRoll, Compact, BeginClean}
use Rattle.replay.specs.master.master_state.declared.step.Step.TheVariants.{Copy, Seal, Free}
use Rattle.replay.specs.master.master_state.declared.step.StepAnswer.{StepAnswer}
use Rattle.replay.specs.master.Passes.{IsSealOp, IsFreeOp}
use Rattle.replay.specs.master.Steps.{Steps, FailsTake, IsPushOp, IsRun}
use Rattle.replay.specs.master.World.{World}
use Rattle.recovery.proofs.of_driving.MasterSteps.{begun_history, compacted_history, pushed_history}
use Rattle.recovery.proofs.of_driving.PassSteps.{clean_history, copied_history, freed_history, sealed_history}
use Rattle.recovery.specs.Headline.{Asked, Backup, Registry, MakeOf, record_of, records_of}

-- ---- takes

-- what was asked led from the one to the other
abbrev Led : ℕ → FleetState → FleetState → Type 0
Led master f g = (xs : List Asked) × MakeOf master f xs g

stays : (master : ℕ) (f g : FleetState) → g ≡ f → Led master f g
stays master f g same = ([], same)

taken : (master : ℕ) (f g : FleetState) (o : Op) → TakesOp master f o g → Led master f g
taken master f g (On b s act) takes = (Backup b s (act_for master s act) (Ok tt) ∷ [], (g, takes, refl))
taken master f g (Raise id) takes = (Registry id (Ok tt) ∷ [], (g, takes, refl))

refused : (master : ℕ) (f g : FleetState) (o : Op) → RefusesOp master f o take_fault.Fault g → Led master f g
refused master f g (On b s act) refuses =
    (Backup b s (act_for master s act) (Err take_fault.Fault) ∷ [], (g, refuses, refl))
refused master f g (Raise id) refuses = (Registry id (Err take_fault.Fault) ∷ [], (g, refuses, refl))

abbrev fleet_in : World → FleetState
fleet_in w = w.fleet

failed : (IsOp : Op → Type 0) (old new : World) (r : Refusal) → FailsTake IsOp old r new
    → Led old.knows.config.master old.fleet new.fleet
failed IsOp old new refusal.NoMemory h = stays _ _ _ (ap fleet_in h)
failed IsOp old new refusal.Spent h = stays _ _ _ (ap fleet_in h.1)
failed IsOp old new (refusal.Lost b) h = refused _ _ _ h.2.0 h.2.3
failed IsOp old new refusal.Halted h = refused _ _ _ h.2.0 h.2.2
failed IsOp old new r h = absurd h

led : (s : Step) (old new : World) (r : Result StepAnswer Refusal) → Steps old s r new
    → Led old.knows.config.master old.fleet new.fleet
led (Apply seat command) old new (Ok a) h = stays _ _ _ h.1
led (Apply seat command) old new (Err r) h = stays _ _ _ (ap fleet_in h.0)
led Push old new (Ok a) h = taken _ _ _ h.op h.takes
led Push old new (Err r) (inl h) = stays _ _ _ (ap fleet_in h.1)
led Push old new (Err r) (inr (test, inl h)) = stays _ _ _ (ap fleet_in h.3)
led Push old new (Err r) (inr (test, inr (inl h))) = refused _ _ _ h.4.0 h.4.3
led Push old new (Err r) (inr (test, inr (inr h))) = failed (IsPushOp old) old new r h.1
led BeginRoll old new (Ok a) h = stays _ _ _ h.1
led BeginRoll old new (Err r) h = stays _ _ _ (ap fleet_in h.0)
led (Compact id) old new (Ok a) h = stays _ _ _ h.1
led (Compact id) old new (Err r) h = stays _ _ _ (ap fleet_in h.0)
led (BeginClean ids) old new (Ok a) h = stays _ _ _ h.1
led (BeginClean ids) old new (Err r) h = stays _ _ _ (ap fleet_in h.0)
led Copy old new (Ok a) h = stays _ _ _ h.1
led Copy old new (Err r) h = stays _ _ _ (ap fleet_in h.0)
led Seal old new (Ok a) h = taken _ _ _ h.op h.takes
led Seal old new (Err r) (inl h) = stays _ _ _ (ap fleet_in h.1)
led Seal old new (Err r) (inr h) = failed (IsSealOp old.knows) old new r h.1
led Free old new (Ok a) h = taken _ _ _ h.op h.takes
led Free old new (Err r) (inl h) = stays _ _ _ (ap fleet_in h.1)
led Free old new (Err r) (inr h) = failed (IsFreeOp old.knows) old new r h.1

made_both : (master : ℕ) (f mid g : FleetState) (xs ys : List Asked) → MakeOf master f xs mid → MakeOf master mid ys g
    → MakeOf master f (xs ++ ys) g
made_both master f mid g [] ys one two = subst (λ (x : FleetState). MakeOf master x ys g) one two
made_both master f mid g (a ∷ xs) ys one two = (one.0, one.1, made_both master one.0 mid g xs ys one.2 two)

pub led_all : (old new : World) (steps : List Step) (answers : List (Result StepAnswer Refusal))
    → IsRun old steps answers new → (xs : List Asked) × MakeOf old.knows.config.master old.fleet xs new.fleet
led_all old new [] [] run = ([], ap fleet_in run)
led_all old new [] (a ∷ rest) run = absurd run
led_all old new (s ∷ ss) [] run = absurd run
led_all old new (s ∷ ss) (a ∷ rest) run =
    let mid = run.0 in
    let one = led s old mid a run.1 in
    let two = led_all mid new ss rest run.3 in
    let same = ap (λ (c : Config). c.master) run.2.keeps.config in (
      one.0 ++ two.0,
      made_both _ _ mid.fleet _ one.0 two.0 one.1
          (subst (λ (m : ℕ). MakeOf m mid.fleet two.0 new.fleet) same two.1),
    )

-- ---- records

abbrev history_in : World → List Record
history_in w = w.knows.history

pub made : (s : Step) (old new : World) (r : Result StepAnswer Refusal) → Steps old s r new
    → new.knows.history ≡ old.knows.history ++ record_of s r
made (Apply seat command) old new (Ok a) h =
    ap (λ (l : FailData). l.history) h.0.log
    ∙ ap (λ (x : StepAnswer). old.knows.history ++ record_of (Apply seat command) (Ok x)) (sym h.0.told)
made (Apply seat command) old new (Err r) h = ap history_in h.0 ∙ sym (append-nil old.knows.history)
made Push old new r h = pushed_history old new r h ∙ sym (append-nil old.knows.history)
made BeginRoll old new r h = begun_history old new r h ∙ sym (append-nil old.knows.history)
made (Compact id) old new r h = compacted_history old new id r h ∙ sym (append-nil old.knows.history)
made (BeginClean ids) old new r h = clean_history old new ids r h ∙ sym (append-nil old.knows.history)
made Copy old new r h = copied_history old new r h ∙ sym (append-nil old.knows.history)
made Seal old new r h = sealed_history old new r h ∙ sym (append-nil old.knows.history)
made Free old new r h = freed_history old new r h ∙ sym (append-nil old.knows.history)

pub made_all : (old new : World) (steps : List Step) (answers : List (Result StepAnswer Refusal))
    → IsRun old steps answers new → new.knows.history ≡ old.knows.history ++ records_of steps answers
made_all old new [] [] run = ap history_in run ∙ sym (append-nil old.knows.history)
made_all old new [] (a ∷ rest) run = absurd run
made_all old new (s ∷ ss) [] run = absurd run
made_all old new (s ∷ ss) (a ∷ rest) run =
    made_all run.0 new ss rest run.3
    ∙ ap (λ (rs : List Record). rs ++ records_of ss rest) (made s old run.0 a run.1)
    ∙ append_assoc old.knows.history (record_of s a) (records_of ss rest)
