-- Each push of an open failover that is accepted leaves fewer, and no other step adds any, unless a fault opens one.
use Rattle.std.proofs.Common.{◌≡◌, inl, inr, ℕ, ◌<◌, ◌≤◌, suc, Bool, true, false, List, [], ◌∷◌, length, refl, ap}
use Rattle.std.proofs.Common.{subst, ◌∙◌, arith}
use Rattle.std.specs.Prelude.{Option, Some, None, IsSome, Result, Ok, Err, ◌==◌, if◌then◌else◌}
use Rattle.std.specs.Option.{option_map_or}
use Rattle.entry.specs.declared.entry.Entry.{Entry}
use Rattle.master_core.specs.cleaner.declared.pass.Pass.{Pass as OpenPass}
use Rattle.log_head.specs.declared.head.Roll.{Roll}
use Rattle.log_head.specs.declared.next.Next.{Next}
use Rattle.log_head.specs.declared.next.Next.TheVariants as next
use Rattle.log_head.specs.Steps.{with_new_replica, with_closed_replica, old_image}
use Rattle.master_core.specs.log_laws.Shown.{Op}
use Rattle.versioned_map.specs.declared.command.Command.{Command}
use Rattle.images.specs.Sorted.{changed}
use Rattle.images.specs.Steps.{more_replicas}
use Rattle.master_core.specs.master_state.declared.failover.Failover.{Failover}
use Rattle.master_core.specs.master_state.declared.ledger.Posting.TheVariants as posting
use Rattle.master_core.specs.master_state.declared.step.Refusal.{Refusal}
use Rattle.master_core.specs.master_state.declared.step.Refusal.TheVariants as refusal
use Rattle.master_core.specs.master_state.declared.step.Step.{Step}
use Rattle.master_core.specs.master_state.declared.step.Step.TheVariants.{Apply, Push, BeginRoll, Compact, BeginClean}
use Rattle.master_core.specs.master_state.declared.step.Step.TheVariants.{Copy, Seal}
use Rattle.master_core.specs.master_state.declared.step.Step.TheVariants.{Free}
use Rattle.master_core.specs.master_state.declared.step.StepAnswer.{StepAnswer}
use Rattle.master_core.specs.master_state.Causes.{live_now, is_empty, step_refusal, unit_now}
use Rattle.master_core.specs.master_state.Data.{MasterData}
use Rattle.master_core.specs.master_state.Images.{with_closed}
use Rattle.master_core.specs.master_state.Invariant.{IsCore}
use Rattle.master_core.specs.master_state.Ledger.{posted}
use Rattle.master_core.specs.master_state.Log.{home}
use Rattle.master_core.specs.master_state.Steps.{appended, closed_data, halted, ledger_after, pass_ended, pushed_data}
use Rattle.master_core.specs.master_state.Steps.{roll_ended}
use Rattle.master_core.specs.master_state.Steps.{sealed_data, taken_data, Applies}
use Rattle.master_core.specs.master_state.Waits.{next_seal}
use Rattle.master_core.proofs.master_state.Refusals.{may_begin, unit_working, working_parts}
use Rattle.master_core.proofs.master_state.Calm.{calm_parts, passes_first}
use Rattle.master_core.specs.master_failover.Left.{left_in, left_now}
use Rattle.master_core.proofs.master_failover.PushKinds.{not_calm}
use Rattle.master_core.proofs.master_failover.LeftSteps.{mend_lowers, turn_lowers}
use Rattle.master.specs.Invariant.{IsWellKept}
use Rattle.master.specs.Left.{GoesOn}
use Rattle.master.specs.Passes.{IsSealOp, IsFreeOp}
use Rattle.master.proofs.PushKinds.{CalmPush, MendsOn, kinds}
use Rattle.master.specs.Steps.{Accepts, Declines, FailsTake, IsPushOp, Steps}
use Rattle.master.specs.World.{World}

-- ---- without a failover

-- nothing is left
none_left : (d : MasterData) → d.failover ≡ None → left_now d ≡ 0
none_left d calm = ap (λ (o : Option Failover). option_map_or (λ (f : Failover). left_in d f.part) o 0) calm

-- an ordinary push leaves the failover as it is
ended_failover : (o : Option OpenPass) (e : MasterData) → (roll_ended o e).failover ≡ e.failover
ended_failover None e = refl
ended_failover (Some p) e = go p.is_committing where
  go : (t : Bool) → (if t then pass_ended p e else e).failover ≡ e.failover
  go true = refl
  go false = refl

closed_failover : (d : MasterData) (r : Roll) → (closed_data d r).failover ≡ d.failover
closed_failover d r = go (suc r.closed == d.head.replicas) where
  closed_first : MasterData
  closed_first = record d {
    head = with_closed_replica d.head r;
    closed = with_closed d.closed d.head.id d.config.replicas (old_image d.head r);
  }

  go : (t : Bool) → (if t then roll_ended d.pass closed_first else closed_first).failover ≡ d.failover
  go true = ended_failover d.pass closed_first
  go false = refl

taken_failover : (d : MasterData) (push : Next) → (taken_data d push).failover ≡ d.failover
taken_failover d (next.OpenFirst j) = refl
taken_failover d (next.Extend j) = refl
taken_failover d (next.OpenWhole j) = refl
taken_failover d (next.OpenNew j) = go d.head.roll where
  go : (o : Option Roll)
      → (option_map_or (λ (r : Roll). record d { head = with_new_replica d.head r }) o d).failover ≡ d.failover
  go None = refl
  go (Some r) = refl
taken_failover d (next.CloseOld j) = go d.head.roll where
  go : (o : Option Roll) → (option_map_or (closed_data d) o d).failover ≡ d.failover
  go None = refl
  go (Some r) = closed_failover d r

pushed_failover : (d : MasterData) (push : Next) → (pushed_data d push).failover ≡ d.failover
pushed_failover d push = taken_failover (record d { ledger = ledger_after d push }) push

sealed_failover : (d : MasterData) → (sealed_data d).failover ≡ d.failover
sealed_failover d = go (next_seal d) where
  go : (o : Option (ℕ × ℕ))
      → (option_map_or (λ (x : ℕ × ℕ). record d { closed = changed d.closed x.0 more_replicas }) o d).failover
      ≡ d.failover
  go None = refl
  go (Some x) = refl

-- a step that leaves none open leaves nothing to be pushed
calm_stays : (d e : MasterData) → e.failover ≡ None → left_now e ≤ left_now d
calm_stays d e calm = let none = none_left e calm in omega arith

same_stays : (d e : MasterData) → e ≡ d → left_now e ≤ left_now d
same_stays d e same = let left = ap left_now same in omega arith

-- nor does one that changes nothing that is counted
same_left : (old new : World) (d : MasterData) → new.knows ≡ d → left_now d ≡ left_now old.knows
    → left_now new.knows ≤ left_now old.knows
same_left old new d is same = let left = ap left_now is in omega arith

-- ---- accepted

-- a command that is applied while a failover is open appends nothing
module _ (d e : MasterData) (seat : ℕ) (command : Command) (answer : StepAnswer)
    (is : Applies d seat command answer e) where
  abbrev after : List Entry → MasterData
  after unit = record d {
    head = appended d.head (length d.history) unit;
    index = e.index;
    safe = e.safe;
    history = e.history;
    live = live_now d command;
  }

  nothing : (unit : List Entry) → is_empty unit ≡ true → unit ≡ []
  nothing [] empty = refl
  nothing (x ∷ unit) empty = absurd (cc)

  applied_stays : left_now e ≤ left_now d
  applied_stays = go (is_empty (unit_now d command)) refl where
    go : (t : Bool) → is_empty (unit_now d command) ≡ t → left_now e ≤ left_now d
    go true empty =
        let same : left_now e ≡ left_now d =
        ap left_now is.rest ∙ ap (λ (unit : List Entry). left_now (after unit)) (nothing (unit_now d command) empty) in
        omega arith
    go false some =
        calm_stays d e (ap (λ (x : MasterData). x.failover) is.rest
        ∙ (working_parts d (unit_working d command is.passed some)).1)

mends_lower : (old : World) (answer : StepAnswer) (new : World) → IsCore old.knows → MendsOn old answer new
    → left_now new.knows < left_now old.knows
mends_lower old answer new core is =
    let less = mend_lowers old.knows is.mend core is.next in
    let same = ap left_now is.rest in omega arith

pushes_none : (old : World) (answer : StepAnswer) (new : World) → CalmPush old answer new → new.knows.failover ≡ None
pushes_none old answer new is =
    ap (λ (x : MasterData). x.failover) is.rest ∙ pushed_failover old.knows is.push ∙ is.calm

-- the step was made only without a failover
accepted_stays : (old : World) (step : Step) (answer : StepAnswer) (new : World) → IsCore old.knows
    → Accepts old step answer new → left_now new.knows ≤ left_now old.knows
accepted_stays old (Apply seat command) answer new core is =
    applied_stays old.knows new.knows seat command answer is.0
accepted_stays old Push answer new core is =
    elim (kinds old answer new is) as (λ _. left_now new.knows ≤ left_now old.knows) [
      | inl p ↦ calm_stays old.knows new.knows (pushes_none old answer new p)
      | inr m ↦ (let less = mends_lower old answer new core m in omega arith)
    ]
accepted_stays old BeginRoll answer new core is =
    calm_stays old.knows new.knows (ap (λ (x : MasterData). x.failover) is.0.rest
    ∙ (may_begin old.knows is.0.passed).calm)
accepted_stays old (Compact id) answer new core is =
    calm_stays old.knows new.knows (ap (λ (x : MasterData). x.failover) is.0.rest
    ∙ (calm_parts old.knows (passes_first (step_refusal old.knows) _ is.0.passed).0).1)
accepted_stays old (BeginClean ids) answer new core is =
    calm_stays old.knows new.knows (ap (λ (x : MasterData). x.failover) is.0.rest
    ∙ (calm_parts old.knows (passes_first (step_refusal old.knows) _ is.0.passed).0).1)
accepted_stays old Copy answer new core is =
    calm_stays old.knows new.knows (ap (λ (x : MasterData). x.failover) is.0.rest
    ∙ (calm_parts old.knows (passes_first (step_refusal old.knows) _ is.0.passed).0).1)
accepted_stays old Seal answer new core is =
    calm_stays old.knows new.knows (ap (λ (x : MasterData). x.failover) is.rest
    ∙ sealed_failover (posted old.knows
    (posting.Took is.next.segment (home old.knows.config old.knows.failed is.next.segment is.next.replica)))
    ∙ (calm_parts old.knows (passes_first (step_refusal old.knows) _ is.passed).0).1)
accepted_stays old Free answer new core is =
    calm_stays old.knows new.knows (ap (λ (x : MasterData). x.failover) is.rest
    ∙ (calm_parts old.knows (passes_first (step_refusal old.knows) _ is.passed).0).1)

-- ---- refused

world_stays : (old new : World) → new ≡ old → left_now new.knows ≤ left_now old.knows
world_stays old new same = same_stays old.knows new.knows (ap (λ (w : World). w.knows) same)

-- a failed take adds nothing, unless it opens a failover
fails_stays : (Is : Op → Type 0) (old : World) (r : Refusal) (new : World) → ((b : ℕ) → r ≡ refusal.Lost b → ⊥)
    → FailsTake Is old r new → left_now new.knows ≤ left_now old.knows
fails_stays Is old refusal.NoMemory new other is = world_stays old new is
fails_stays Is old refusal.Spent new other is = world_stays old new is.1
fails_stays Is old (refusal.Lost b) new other is = absurd (other b refl)
fails_stays Is old refusal.Halted new other is = same_left old new (halted old.knows) is.1 refl
fails_stays Is old refusal.TooBig new other is = absurd is
fails_stays Is old refusal.Full new other is = absurd is
fails_stays Is old refusal.VersionsSpent new other is = absurd is
fails_stays Is old refusal.HistoryFull new other is = absurd is
fails_stays Is old refusal.Rolling new other is = absurd is
fails_stays Is old refusal.Nothing new other is = absurd is
fails_stays Is old (refusal.Pass fault) new other is = absurd is
fails_stays Is old refusal.SegmentsSpent new other is = absurd is
fails_stays Is old refusal.NoTablet new other is = absurd is
fails_stays Is old refusal.Overcommit new other is = absurd is

declined_stays : (old : World) (step : Step) (r : Refusal) (new : World) → IsCore old.knows
    → ((b : ℕ) → r ≡ refusal.Lost b → ⊥) → Declines old step r new → left_now new.knows ≤ left_now old.knows
declined_stays old (Apply seat command) r new core other is = world_stays old new is.0
declined_stays old BeginRoll r new core other is = world_stays old new is.0
declined_stays old (Compact id) r new core other is = world_stays old new is.0
declined_stays old (BeginClean ids) r new core other is = world_stays old new is.0
declined_stays old Copy r new core other is = world_stays old new is.0
declined_stays old Push r new core other (inl is) = world_stays old new is.1
declined_stays old Push r new core other (inr (passed, inl stuck)) =
    same_left old new (halted old.knows) (ap (λ (w : World). w.knows) stuck.3) refl
declined_stays old Push r new core other (inr (passed, inr (inl turn))) =
    let less = turn_lowers old.knows core turn.0 in
    let same = ap left_now turn.3 in omega arith
declined_stays old Push r new core other (inr (passed, inr (inr (may, fails)))) =
    fails_stays (IsPushOp old) old r new other fails
declined_stays old Seal r new core other (inl is) = world_stays old new is.1
declined_stays old Seal r new core other (inr is) = fails_stays (IsSealOp old.knows) old r new other is.1
declined_stays old Free r new core other (inl is) = world_stays old new is.1
declined_stays old Free r new core other (inr is) = fails_stays (IsFreeOp old.knows) old r new other is.1

-- ---- a step

pushed_lowers : (old : World) (answer : StepAnswer) (new : World) → IsCore old.knows → Accepts old Push answer new
    → IsSome old.knows.failover → left_now new.knows < left_now old.knows
pushed_lowers old answer new core is some =
    elim (kinds old answer new is) as (λ _. left_now new.knows < left_now old.knows) [
      | inl p ↦ absurd (not_calm old.knows.failover p.calm some)
      | inr m ↦ mends_lower old answer new core m
    ]

accepted_lowers : (old : World) (step : Step) (answer : StepAnswer) (new : World) → IsCore old.knows
    → Accepts old step answer new → step ≡ Push → IsSome old.knows.failover
    → left_now new.knows < left_now old.knows
accepted_lowers old step answer new core is same some =
    pushed_lowers old answer new core (subst (λ (x : Step). Accepts old x answer new) same is) some

pub step_goes_on : (old : World) (step : Step) (result : Result StepAnswer Refusal) (new : World)
    → IsWellKept old.knows old.fleet → Steps old step result new → GoesOn old step result new
step_goes_on old step (Ok answer) new kept is = record {
  lowers = λ same ok some. accepted_lowers old step answer new kept.core is same some;
  raised = λ other. accepted_stays old step answer new kept.core is;
}
step_goes_on old step (Err r) new kept is = record {
  lowers = λ same ok some. absurd (cc);
  raised = λ other. declined_stays old step r new kept.core (λ b same. other b (ap Err same)) is;
}
