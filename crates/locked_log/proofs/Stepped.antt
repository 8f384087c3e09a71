-- A step that is no command adds no record.
use Rattle.std.proofs.Common.{◌≡◌, ◌⊎◌, ℕ, inl, inr, Bool, true, false, List, [], drop, Option, Some, None, refl, sym}
use Rattle.std.proofs.Common.{ap, ◌∙◌}
use Rattle.std.proofs.Common.{subst, arith}
use Rattle.std.specs.Prelude.{Result, Ok, Err, ◌==◌, not, length, is_some, if◌then◌else◌}
use Rattle.std.proofs.lemmas.List.{append-nil}
use Rattle.std.specs.Option.{option_map_or}
use Rattle.replica.specs.Picture.{FleetState}
use Rattle.versioned_map.specs.declared.command.Record.{Record}
use Rattle.store_step.specs.master.cleaner.declared.pass.Pass.{Pass}
use Rattle.store_step.specs.master.cleaner.Passes.{is_at_end, next_seal}
use Rattle.store_step.specs.master.log_head.Head.{is_open}
use Rattle.store_step.specs.master.log_laws.Shown.{Op}
use Rattle.store_step.specs.master.master_state.declared.step.Refusal.{Refusal}
use Rattle.store_step.specs.master.master_state.declared.step.Refusal.TheVariants as refusal
use Rattle.store_step.specs.master.master_state.declared.step.Step.{Step}
use Rattle.store_step.specs.master.master_state.declared.step.Step.TheVariants.{Apply, Push, BeginRoll, Compact}
use Rattle.store_step.specs.master.master_state.declared.step.Step.TheVariants.{BeginClean, Copy, Seal}
use Rattle.store_step.specs.master.master_state.declared.step.Step.TheVariants.{Free}
use Rattle.store_step.specs.master.master_state.declared.step.StepAnswer.{StepAnswer}
use Rattle.store_step.specs.master.master_space.Choosing.{chosen, may_begin_next, pass_step, step_without, next_step}
use Rattle.store_step.specs.master.master_state.declared.ledger.Posting.TheVariants.{Took}
use Rattle.store_step.specs.master.master_state.Data.{MasterData}
use Rattle.store_step.specs.master.master_state.Ledger.{posted}
use Rattle.store_step.specs.master.master_state.Log.{home}
use Rattle.store_step.specs.master.master_state.Steps.{sealed_data}
use Rattle.store_step.specs.master.master_state.Waits.{next_seal as sealed_next}
use Rattle.store_step.specs.master.Keeps.{Keeps}
use Rattle.store_step.specs.master.Passes.{IsSealOp, IsFreeOp}
use Rattle.store_step.specs.master.Steps.{FailsTake, FailsPush, FailsTurn, IsPushOp, IsStuck, Steps}
use Rattle.store_step.specs.master.Valid.{IsValid}
use Rattle.store_step.specs.master.World.{World, world, limited_world}
use Rattle.store_step.proofs.of_master.Keeping.{take_failed}
use Rattle.store_step.proofs.of_master.MendedRest.{turned_rest}
use Rattle.store_step.proofs.of_master.PushKinds.{pushes_rest}
use Rattle.store_step.specs.declared.turn.CleanTurn.{CleanTurn}
use Rattle.store_step.specs.declared.turn.CleanTurn.TheVariants as turn
use Rattle.locked_log.specs.Held.{StateValue, Held, held, history, knows}
use Rattle.store_seat.specs.Accounts.{IsSettled}
use Rattle.store_seat.specs.Made.{Made}
use Rattle.locked_log.specs.States.{IsState, Lasts}
use Rattle.history.specs.Seats.{count_of}
use Rattle.store_step.specs.Turns.{step_of, MakesStep, MakesTurn}
use Rattle.locked_log.specs.Steps.{Turns}
use Rattle.locked_log.proofs.Idle.{next_works}
use Rattle.locked_log.proofs.Lasting.{firsts_same, made_lasts}

-- ---- the step that a turn asks for

abbrev pub IsOther : Step → Type 0
IsOther (Apply seat command) = ⊥
IsOther _ = Unit {0}

abbrev pub IsOtherIn : Option Step → Type 0
IsOtherIn None = Unit {0}
IsOtherIn (Some step) = IsOther step

pass_other : (d : MasterData) (p : Pass) → IsOther (pass_step d p)
pass_other d p = go (not (is_at_end p)) (is_some (next_seal d.config.replicas d.closed p)) (is_open d.head) where
  picks : Bool → Bool → Bool → Step
  picks a b c = if a then Copy else if b then Seal else if c then BeginRoll else Push

  go : (a b c : Bool) → IsOther (picks a b c)
  go true b c = tt
  go false true c = tt
  go false false true = tt
  go false false false = tt

without_other : (d : MasterData) → IsOtherIn (step_without d)
without_other d = go (not (is_open d.head)) (not (length d.waiting == 0)) (may_begin_next d) where
  picks : Bool → Bool → Bool → Option Step
  picks a b c = if a then Some Push else if b then Some Free else if c then Some (BeginClean (chosen d)) else None

  go : (a b c : Bool) → IsOtherIn (picks a b c)
  go true b c = tt
  go false true c = tt
  go false false true = tt
  go false false false = tt

next_other : (d : MasterData) → IsOtherIn (next_step d)
next_other d = go (is_some d.failover) d.pass where
  gives : Bool → Option Pass → Option Step
  gives t o = if t then Some Push else option_map_or (λ (p : Pass). Some (pass_step d p)) o (step_without d)

  go : (t : Bool) (o : Option Pass) → IsOtherIn (gives t o)
  go true o = tt
  go false None = without_other d
  go false (Some p) = pass_other d p

turn_other : (d : MasterData) (t : CleanTurn) → IsOtherIn (step_of d t)
turn_other d turn.Next = next_other d
turn_other d turn.Push = tt
turn_other d turn.BeginRoll = tt
turn_other d (turn.Compact id) = tt
turn_other d (turn.BeginClean ids) = tt
turn_other d turn.Copy = tt
turn_other d turn.Seal = tt
turn_other d turn.Free = tt

pub asked_other : (d : MasterData) (t : CleanTurn) (step : Step) → step_of d t ≡ Some step → IsOther step
asked_other d t step e = subst IsOtherIn e (turn_other d t)

-- ---- the history

-- a replica that was sealed changes nothing but its image
step_history : (d : MasterData) (step : ℕ × ℕ → MasterData) (o : Option (ℕ × ℕ))
    → ((x : ℕ × ℕ) → (step x).history ≡ d.history) → (option_map_or step o d).history ≡ d.history
step_history d step None same = refl
step_history d step (Some x) same = same x

sealed_history : (d : MasterData) → (sealed_data d).history ≡ d.history
sealed_history d = step_history d _ (sealed_next d) (λ x. refl)

module _ (old new : World) where
  unchanged : new ≡ old → new.knows.history ≡ old.knows.history
  unchanged e = ap (λ (w : World). w.knows.history) e

  failed : (IsOp : Op → Type 0) (r : Refusal) → FailsTake IsOp old r new → new.knows.history ≡ old.knows.history
  failed IsOp r t = take_failed IsOp old new r t unchanged
      (λ b (h : FailsTake IsOp old (refusal.Lost b) new). ap (λ (d : MasterData). d.history) h.1)
      (λ (h : FailsTake IsOp old refusal.Halted new). ap (λ (d : MasterData). d.history) h.1)

  push_failed : (r : Refusal) → IsStuck old r new ⊎ (FailsTurn old r new ⊎ FailsPush old r new)
      → new.knows.history ≡ old.knows.history
  push_failed r (inl t) = ap (λ (w : World). w.knows.history) t.3
  push_failed r (inr (inl t)) = ap (λ (d : MasterData). d.history) t.3 ∙ (turned_rest old.knows).1
  push_failed r (inr (inr t)) = failed (IsPushOp old) r t.1

  pub steps_history : (step : Step) (result : Result StepAnswer Refusal) → IsOther step → Steps old step result new
      → new.knows.history ≡ old.knows.history
  steps_history (Apply seat command) result other t = absurd other
  steps_history BeginRoll (Ok answer) other t = ap (λ (d : MasterData). d.history) t.0.rest
  steps_history BeginRoll (Err r) other t = unchanged t.0
  steps_history (Compact id) (Ok answer) other t = ap (λ (d : MasterData). d.history) t.0.rest
  steps_history (Compact id) (Err r) other t = unchanged t.0
  steps_history (BeginClean ids) (Ok answer) other t = ap (λ (d : MasterData). d.history) t.0.rest
  steps_history (BeginClean ids) (Err r) other t = unchanged t.0
  steps_history Copy (Ok answer) other t = ap (λ (d : MasterData). d.history) t.0.rest
  steps_history Copy (Err r) other t = unchanged t.0
  steps_history Push (Ok answer) other t = (pushes_rest old answer new t).1
  steps_history Push (Err r) other (inl t) = unchanged t.1
  steps_history Push (Err r) other (inr t) = push_failed r t.1
  steps_history Seal (Ok answer) other t =
      ap (λ (d : MasterData). d.history) t.rest
      ∙ sealed_history (posted old.knows (Took t.next.segment
      (home old.knows.config old.knows.failed t.next.segment t.next.replica)))
  steps_history Seal (Err r) other (inl t) = unchanged t.1
  steps_history Seal (Err r) other (inr t) = failed (IsSealOp old.knows) r t.1
  steps_history Free (Ok answer) other t = ap (λ (d : MasterData). d.history) t.rest
  steps_history Free (Err r) other (inl t) = unchanged t.1
  steps_history Free (Err r) other (inr t) = failed (IsFreeOp old.knows) r t.1

-- ---- the value under the lock

-- with another world that has the same history, and in which no less is durable
module _ (s : Held) (w : World) where
  abbrev pub moved : Held
  moved = record s { world = w }

  pub moved_lasts : (most : ℕ) → Keeps most s.world w → Lasts most s moved
  moved_lasts most keeps = record {
    keeps = keeps;
    accounts = refl;
    firsts = firsts_same s.book;
    start = refl;
    cells = refl;
    refused = λ on. on;
  }

  pub moved_state : (most : ℕ) (made : Made) → IsState s made → Keeps most s.world w → IsValid w.knows w.fleet
      → w.knows.history ≡ history s → IsSettled s.start s.book (history s) w.knows.forgotten → IsState moved made
  moved_state most made st keeps valid same settled = record {
    valid = valid;
    master = made_lasts most s.world w made keeps st.master;
    start = rw same st.start;
    written = rw same st.written;
    accounts = st.accounts;
    firsts = λ k a e. omega (arith, st.firsts k a e, keeps.durable);
    counts = λ k a e. st.counts k a e ∙ ap (λ (l : List Record). count_of k (drop s.start l)) (sym same);
    no_others = rw same st.no_others;
    total = rw same st.total;
    settled = rw same settled;
  }

-- the fleet takes another number of ops
module _ (s : Held) (n : ℕ) (w : World) (is : w ≡ limited_world s.world n) (valid : IsValid w.knows w.fleet) where
  keeps : Keeps 0 s.world w
  keeps = rw is (record {
    config = refl;
    origin = refl;
    takes = (omega arith, omega arith);
    others = λ b m k other. refl;
    least = λ m other. refl;
    durable = omega arith;
    forgotten = omega arith;
    history = ([], sym (append-nil s.world.knows.history));
  })

  pub limited_state : (made : Made) → IsState s made → IsState (record s { world = w }) made
  limited_state made st = moved_state s w 0 made st keeps valid (ap (λ (v : World). v.knows.history) is)
      (rw (ap (λ (v : World). v.knows.forgotten) is) st.settled)

-- a fault is asked for, which no clause sees
pub same_state : (s : Held) (w : World) → w ≡ s.world → (made : Made) → IsState s made
    → IsState (record s { world = w }) made
same_state s w is made st = subst (λ (x : World). IsState (record s { world = x }) made) (sym is) st

-- ---- from what the turn ensures

-- a turn leaves the history
made_history : (old new : World) (asked : CleanTurn) (answer : Result StepAnswer Refusal) (step : Option Step)
    → step_of old.knows asked ≡ step
    → MakesStep step old answer new → new.knows.history ≡ old.knows.history
made_history old new asked answer None is h = ap (λ (w : World). w.knows.history) h.1
made_history old new asked answer (Some step) is h = steps_history old new step answer
    (asked_other old.knows asked step is) h

turn_history : (old new : World) (asked : CleanTurn) (answer : Result StepAnswer Refusal)
    → MakesTurn old asked answer new
    → new.knows.history ≡ old.knows.history
turn_history old new asked answer (inl h) = made_history old new asked answer (step_of old.knows asked) refl h
turn_history old new asked answer (inr h) = ap (λ (w : World). w.knows.history) h.4

-- Nothing is answered for Next only if nothing is next
made_nothing : (old new : World) (answer : Result StepAnswer Refusal) (step : Option Step) → next_step old.knows ≡ step
    → MakesStep step old answer new → answer ≡ Err refusal.Nothing → step ≡ None
made_nothing old new answer None is h nothing = refl
made_nothing old new answer (Some step) is h nothing =
    absurd (next_works old new step is (subst (λ (r : Result StepAnswer Refusal). Steps old step r new) nothing h))

turn_nothing : (old new : World) (answer : Result StepAnswer Refusal) → MakesTurn old turn.Next answer new
    → answer ≡ Err refusal.Nothing
    → next_step old.knows ≡ None
turn_nothing old new answer (inl h) nothing = made_nothing old new answer (next_step old.knows) refl h nothing
turn_nothing old new answer (inr h) nothing = let no = sym h.3 ∙ nothing in absurd (cc)

-- what a turn under the lock ensures
pub record Turned (s : Held) (asked : CleanTurn) (answer : Result StepAnswer Refusal) (t : Held)
    (made : Made) : Type 0 where
  pub turns : Turns s asked answer t
  pub lasts : Lasts 1 s t
  pub valid : IsState t made
  pub nothing : asked ≡ turn.Next → answer ≡ Err refusal.Nothing → next_step (knows s) ≡ None

pub turned : {F : Type 0} (state : F → FleetState) (v x : StateValue F) → v ≡ x
    → (asked : CleanTurn) (answer : Result StepAnswer Refusal)
    (w : World) (made : Made) → IsState (held state v) made → MakesTurn (world state v.master) asked answer w
    → Keeps 1 (world state v.master) w → w.knows.forgotten ≡ v.master.knows.forgotten → IsValid w.knows w.fleet
    → Turned (held state x) asked answer (record {
      world = w;
      book = v.book;
      total = v.total;
      start = v.start;
      row = v.row;
      is_refused = v.is_refused;
    }) made
turned state v x same asked answer w made st gives kept remembers valid =
    let stays = turn_history (world state v.master) w asked answer gives in
    subst (λ (y : StateValue _). Turned (held state y) asked answer
    (record {
      world = w;
      book = v.book;
      total = v.total;
      start = v.start;
      row = v.row;
      is_refused = v.is_refused;
    })
    made) same (record {
      turns = record { steps = gives; history = stays; book = refl; row = refl; total = refl; refused = refl };
      lasts = moved_lasts (held state v) w 1 kept;
      valid = moved_state (held state v) w 1 made st kept valid stays (rw remembers st.settled);
      nothing = λ next nothing. turn_nothing (world state v.master) w answer
          (subst (λ (a : CleanTurn). MakesTurn (world state v.master) a answer w) next gives) nothing;
    })
