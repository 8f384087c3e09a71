-- What refuses the steps that a call makes.
use Rattle.std.proofs.Common.{◌≡◌, ◌⊎◌, ◌∙◌, refl, sym, ap, subst, inl, inr, ℕ, Bool, true, false, cond, Option, Some}
use Rattle.std.proofs.Common.{None}
use Rattle.std.proofs.Common.{List}
use Rattle.std.proofs.lemmas.Option.{same_Some}
use Rattle.std.specs.Prelude.{Result, Ok, Err, IfSome}
use Rattle.std.specs.Result.{result_err}
use Rattle.entry.specs.declared.entry.Entry.{Entry}
use Rattle.versioned_map.specs.declared.command.Command.{Command}
use Rattle.store_step.specs.master.master_state.Causes.{early_refusal, late_refusal, unit_refusal, unit_now}
use Rattle.store_step.specs.master.master_state.Causes.{command_refusal}
use Rattle.store_step.specs.master.master_state.Causes.{roll_refusal, is_done}
use Rattle.store_step.specs.master.master_state.Data.{MasterData}
use Rattle.store_step.specs.master.master_state.declared.step.Refusal.{Refusal}
use Rattle.store_step.specs.master.master_state.declared.step.Refusal.TheVariants as refusal
use Rattle.store_step.specs.master.master_state.declared.step.Step.TheVariants.{Apply, Push, BeginRoll}
use Rattle.store_step.specs.master.master_state.declared.step.StepAnswer.{StepAnswer}
use Rattle.store_step.specs.master.Steps.{Declines, FailsTake, FailsPush, FailsTurn, IsPushOp, IsStuck}
use Rattle.store_step.specs.master.World.{World}
use Rattle.store_step.specs.declared.turn.CleanTurn.TheVariants as turn
use Rattle.store_step.specs.Turns.{MakesTurn}
use Rattle.store_seat.specs.Stops.{StopsPush, RefusesCall, RefusesRoll}
use Rattle.locked_log.specs.Held.{Held, knows}
use Rattle.locked_log.specs.Steps.{Turns, GoesOn, PushesHeld}

-- ---- a command and a roll

-- a row of tests may give this
CanRefuse : Option Refusal → Type 0
CanRefuse None = Unit {0}
CanRefuse (Some r) = RefusesRoll r

may : (r : Refusal) → RefusesRoll r → CanRefuse (Some r)
unfolding CanRefuse
may r h = h

nothing : CanRefuse None
unfolding CanRefuse
nothing = tt

refuses : (r : Refusal) → CanRefuse (Some r) → RefusesRoll r
unfolding CanRefuse
refuses r h = h

pick : (a : Bool) (x y : Option Refusal) → CanRefuse x → CanRefuse y → CanRefuse (cond a x y)
pick true x y p q = p
pick false x y p q = q

early_can : (d : MasterData) (command : Command) → CanRefuse (early_refusal d command)
early_can d command = pick _ (Some refusal.Halted) _ (may refusal.Halted tt)
    (pick _ (Some refusal.TooBig) _ (may refusal.TooBig tt) (pick _ (Some refusal.NoTablet) _ (may refusal.NoTablet tt)
    (pick _ (Some refusal.HistoryFull) None (may refusal.HistoryFull tt) nothing)))

unit_can : (d : MasterData) (command : Command) (unit : List Entry) → CanRefuse (unit_refusal d command unit)
unit_can d command unit = pick _ None _ nothing (pick _ (Some refusal.Full) _ (may refusal.Full tt)
    (pick _ (Some refusal.Rolling) None (may refusal.Rolling tt) nothing))

late_can : (d : MasterData) (command : Command) → CanRefuse (late_refusal d command)
late_can d command = pick _ (Some refusal.VersionsSpent) _ (may refusal.VersionsSpent tt)
    (pick _ (Some refusal.Overcommit) _ (may refusal.Overcommit tt) (unit_can d command (unit_now d command)))

command_can : (d : MasterData) (command : Command) → CanRefuse (command_refusal d command)
command_can d command = pick _ (late_refusal d command) (early_refusal d command) (late_can d command)
    (early_can d command)

roll_can : (d : MasterData) → CanRefuse (roll_refusal d)
roll_can d = pick _ (Some refusal.Halted) _ (may refusal.Halted tt) (pick _ (Some refusal.Rolling) _
    (may refusal.Rolling tt) (pick _ (Some refusal.SegmentsSpent) _ (may refusal.SegmentsSpent tt)
    (pick _ (Some refusal.Full) None (may refusal.Full tt) nothing)))

-- without a roll
no_roll : (r : Refusal) → RefusesRoll r → (r ≡ refusal.Rolling → ⊥) → RefusesCall r
no_roll refusal.TooBig h other = tt
no_roll refusal.Full h other = tt
no_roll refusal.VersionsSpent h other = tt
no_roll refusal.HistoryFull h other = tt
no_roll refusal.NoMemory h other = tt
no_roll refusal.Halted h other = tt
no_roll refusal.Rolling h other = absurd (other refl)
no_roll refusal.Nothing h other = h
no_roll (refusal.Pass fault) h other = h
no_roll refusal.Spent h other = tt
no_roll refusal.SegmentsSpent h other = tt
no_roll refusal.NoTablet h other = tt
no_roll refusal.Overcommit h other = tt
no_roll (refusal.Lost b) h other = h

-- a command that needn't wait for a roll
pub command_refuses : (s t : World) (seat : ℕ) (command : Command) (r : Refusal) → Declines s (Apply seat command) r t
    → (command_refusal s.knows command ≡ Some refusal.Rolling → ⊥) → RefusesCall r
command_refuses s t seat command r (same, inl e) waits =
    no_roll r (refuses r (subst CanRefuse e (command_can s.knows command))) (λ is. waits (e ∙ ap Some is))
command_refuses s t seat command r (same, inr e) waits = subst RefusesCall (sym e.1) tt

-- the begin of a roll
pub roll_refuses : (s t : Held) (answer : Result StepAnswer Refusal) → Turns s turn.BeginRoll answer t
    → IfSome (result_err answer) RefusesRoll
roll_refuses s t (Ok a) h = tt
roll_refuses s t (Err r) h = begins h.steps where
  declines : Declines s.world BeginRoll r t.world → RefusesRoll r
  declines (same, inl e) = refuses r (subst CanRefuse e (roll_can (knows s)))
  declines (same, inr e) = subst RefusesRoll (sym e.1) tt

  begins : MakesTurn s.world turn.BeginRoll (Err r) t.world → RefusesRoll r
  begins (inl x) = declines x
  begins (inr x) = let other = x.0 in absurd (cc)

-- ---- a push

-- what a push may be refused for
abbrev Ends : Refusal → Type 0
Ends refusal.Nothing = Unit {0}
Ends (refusal.Lost b) = Unit {0}
Ends r = StopsPush r

push_can : (halted done : Bool) (r : Refusal)
    → cond halted (Some refusal.Halted) (cond done (Some refusal.Nothing) None) ≡ Some r → Ends r
push_can true done r e = subst Ends (same_Some _ _ e) tt
push_can false true r e = subst Ends (same_Some _ _ e) tt
push_can false false r e = absurd (cc)

module _ (s t : World) where
  take_ends : (r : Refusal) → FailsTake (IsPushOp s) s r t → Ends r
  take_ends refusal.NoMemory h = tt
  take_ends refusal.Spent h = tt
  take_ends (refusal.Lost b) h = tt
  take_ends refusal.Halted h = tt
  take_ends refusal.TooBig h = absurd h
  take_ends refusal.Full h = absurd h
  take_ends refusal.VersionsSpent h = absurd h
  take_ends refusal.HistoryFull h = absurd h
  take_ends refusal.Rolling h = absurd h
  take_ends refusal.Nothing h = tt
  take_ends (refusal.Pass fault) h = absurd h
  take_ends refusal.SegmentsSpent h = absurd h
  take_ends refusal.NoTablet h = absurd h
  take_ends refusal.Overcommit h = absurd h

  fails : (r : Refusal) → IsStuck s r t ⊎ (FailsTurn s r t ⊎ FailsPush s r t) → Ends r
  fails r (inl x) = subst Ends (sym x.2) tt
  fails r (inr (inl x)) = subst Ends (sym x.2) tt
  fails r (inr (inr x)) = take_ends r x.1

  declines_push : (r : Refusal) → Declines s Push r t → Ends r
  declines_push r (inl x) = push_can s.knows.is_halted (is_done s.knows) r x.0
  declines_push r (inr x) = fails r x.1

  turns_push : (r : Refusal) → MakesTurn s turn.Push (Err r) t → Ends r
  turns_push r (inl x) = declines_push r x
  turns_push r (inr x) = let other = x.0 in absurd (cc)

stops : (r : Refusal) → Ends r → (r ≡ refusal.Nothing → ⊥) → ((b : ℕ) → r ≡ refusal.Lost b → ⊥) → StopsPush r
stops refusal.NoMemory h idle lost = tt
stops refusal.Spent h idle lost = tt
stops (refusal.Lost b) h idle lost = absurd (lost b refl)
stops refusal.Halted h idle lost = tt
stops refusal.TooBig h idle lost = h
stops refusal.Full h idle lost = h
stops refusal.VersionsSpent h idle lost = h
stops refusal.HistoryFull h idle lost = h
stops refusal.Rolling h idle lost = h
stops refusal.Nothing h idle lost = absurd (idle refl)
stops (refusal.Pass fault) h idle lost = h
stops refusal.SegmentsSpent h idle lost = h
stops refusal.NoTablet h idle lost = h
stops refusal.Overcommit h idle lost = h

module _ (s t : Held) (answer : Result StepAnswer Refusal) (r : Refusal) (h : Turns s turn.Push answer t) where
  -- a push that is refused for another reason
  pub refused_push : answer ≡ Err r → (r ≡ refusal.Nothing → ⊥) → ((b : ℕ) → r ≡ refusal.Lost b → ⊥)
      → Turns s turn.Push (Err r) t × StopsPush r
  refused_push is idle lost =
      let turns = subst (λ (a : Result StepAnswer Refusal). Turns s turn.Push a t) is h in
      (turns, stops r (turns_push s.world t.world r turns.steps) idle lost)

  -- a push for which nothing waits
  pub idle_push : answer ≡ Err r → r ≡ refusal.Nothing → PushesHeld s (Ok tt) t
  idle_push is idle = (answer, h, subst GoesOn (sym (is ∙ ap Err idle)) tt)

  -- a push that opens a failover
  pub lost_push : (b : ℕ) → answer ≡ Err r → r ≡ refusal.Lost b → PushesHeld s (Ok tt) t
  lost_push b is lost = (answer, h, subst GoesOn (sym (is ∙ ap Err lost)) tt)

-- a push that was made
pub made_push : (s t : Held) (answer : Result StepAnswer Refusal) (a : StepAnswer) → Turns s turn.Push answer t
    → answer ≡ Ok a → PushesHeld s (Ok tt) t
made_push s t answer a h is = (answer, h, subst GoesOn (sym is) tt)
