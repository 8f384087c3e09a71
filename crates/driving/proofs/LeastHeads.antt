-- Whatever a master is driven to, no least head of another master is raised.
use Rattle.std.proofs.Common.{◌≡◌, ℕ, zero, suc, List, inl, inr, ap, ◌∙◌}
use Rattle.std.specs.Prelude.{Result, Ok, Err}
use Rattle.master.specs.cleaner.declared.survivors.Survivors.{Survivors}
use Rattle.versioned_map.specs.declared.command.Command.{Command}
use Rattle.versioned_map.specs.declared.command.Record.{Record}
use Rattle.versioned_map.specs.declared.command.Reply.{Reply}
use Rattle.master.specs.log_laws.Shown.{Op}
use Rattle.master.specs.log_bytes.Ops.{TakesOp}
use Rattle.replica.specs.Picture.{FleetState}
use Rattle.master.specs.master_state.declared.config.Config.{Config}
use Rattle.master.specs.master_state.declared.step.Refusal.{Refusal}
use Rattle.master.specs.master_state.declared.step.Refusal.TheVariants as refusal
use Rattle.master.specs.master_state.declared.step.Step.{Step}
use Rattle.master.specs.master_state.declared.step.Step.TheVariants.{Apply, Push, BeginRoll, Compact, BeginClean, Copy}
use Rattle.master.specs.master_state.declared.step.Step.TheVariants.{Seal}
use Rattle.master.specs.master_state.declared.step.Step.TheVariants.{Free}
use Rattle.master.specs.master_state.declared.step.StepAnswer.{StepAnswer}
use Rattle.master.specs.master_state.Data.{MasterData}
use Rattle.master.specs.Passes.{IsSealOp, IsFreeOp}
use Rattle.master.specs.Steps.{Accepts, FailsTake, IsPushOp, Steps}
use Rattle.master.specs.World.{World}
use Rattle.master.proofs.Keeping.{op_beside, op_faulted}
use Rattle.driving.specs.Cleans.{AreMended, IsMended, AreTurned, Cleans}
use Rattle.driving.specs.Commands.{ArePushedFor, Tries, TriesAfterRoll, RunsCommand}
use Rattle.driving.specs.Rolls.{Advances, ArePushed, PushesUntil, GoesRolling, Rolls}
use Rattle.driving.proofs.MasterSteps.{accepted_fixed}
use Rattle.driving.proofs.Outlines.{Outline, turned_fixed}
use Rattle.driving.proofs.PassSteps.{seals_outline}

-- the least heads of other masters are the same
abbrev pub SameLeast : World → World → Type 0
SameLeast old new = (m : ℕ) → (m ≡ old.knows.config.master → ⊥) → new.fleet.least m ≡ old.fleet.least m

-- and the master is the same
pub record LeavesOthers (old new : World) : Type 0 where
  pub config : new.knows.config ≡ old.knows.config
  pub least : SameLeast old new

leaves_on : (a b c : World) → LeavesOthers a b → LeavesOthers b c → LeavesOthers a c
leaves_on a b c first later = record {
  config = later.config ∙ first.config;
  least = λ m other.
      later.least m (λ is. other (is ∙ ap (λ (x : Config). x.master) first.config)) ∙ first.least m other;
}

-- ---- one step

abbrev config_in : Config × List Record × List ℕ → Config
config_in f = f.0

module _ (old new : World) where
  unchanged : new ≡ old → LeavesOthers old new
  unchanged same = record {
    config = ap (λ (w : World). w.knows.config) same;
    least = λ m other. ap (λ (w : World). w.fleet.least m) same;
  }

  -- only the master changed
  beside : new.knows.config ≡ old.knows.config → new.fleet ≡ old.fleet → LeavesOthers old new
  beside config same = record { config = config; least = λ m other. ap (λ (f : FleetState). f.least m) same }

  failed : (IsOp : Op → Type 0) (r : Refusal) → FailsTake IsOp old r new → LeavesOthers old new
  failed IsOp refusal.NoMemory h = unchanged h
  failed IsOp refusal.Spent h = unchanged h.1
  failed IsOp refusal.Halted h = record {
    config = ap (λ (d : MasterData). d.config) h.1;
    least = (op_faulted old.knows.config.master old.fleet new.fleet h.2.0 h.2.2).least;
  }
  failed IsOp (refusal.Lost b) h = record {
    config = ap (λ (d : MasterData). d.config) h.1;
    least = (op_faulted old.knows.config.master old.fleet new.fleet h.2.0 h.2.3).least;
  }
  failed IsOp r h = absurd h

  taken : (o : Op) → new.knows.config ≡ old.knows.config
      → TakesOp old.knows.config.master old.fleet o new.fleet → LeavesOthers old new
  taken o config takes =
      record { config = config; least = (op_beside old.knows.config.master old.fleet new.fleet o takes).least }

  accepted : (s : Step) (a : StepAnswer) → Accepts old s a new → LeavesOthers old new
  accepted (Apply seat command) a h = beside h.0.config h.1
  accepted BeginRoll a h = beside (ap (λ (d : MasterData). d.config) h.0.rest) h.1
  accepted (Compact id) a h = beside (ap (λ (d : MasterData). d.config) h.0.rest) h.1
  accepted (BeginClean ids) a h = beside (ap (λ (d : MasterData). d.config) h.0.rest) h.1
  accepted Copy a h = beside (ap (λ (d : MasterData). d.config) h.0.rest) h.1
  accepted Push a h = taken h.op (ap config_in (accepted_fixed old new a h)) h.takes
  accepted Seal a h = taken h.op (ap (λ (o : Outline). o.config) (seals_outline old new a h)) h.takes
  accepted Free a h = taken h.op (ap (λ (d : MasterData). d.config) h.rest) h.takes

  pub step_leaves : (s : Step) (r : Result StepAnswer Refusal) → Steps old s r new → LeavesOthers old new
  step_leaves s (Ok a) h = accepted s a h
  step_leaves (Apply seat command) (Err r) h = unchanged h.0
  step_leaves BeginRoll (Err r) h = unchanged h.0
  step_leaves (Compact id) (Err r) h = unchanged h.0
  step_leaves (BeginClean ids) (Err r) h = unchanged h.0
  step_leaves Copy (Err r) h = unchanged h.0
  step_leaves Push (Err r) (inl h) = unchanged h.1
  step_leaves Push (Err r) (inr (test, inl h)) = record {
    config = ap (λ (w : World). w.knows.config) h.3;
    least = λ m other. ap (λ (w : World). w.fleet.least m) h.3;
  }
  step_leaves Push (Err r) (inr (test, inr (inl h))) = record {
    config = ap (λ (d : MasterData). d.config) h.3 ∙ ap config_in (turned_fixed old.knows);
    least = (op_faulted old.knows.config.master old.fleet new.fleet h.4.0 h.4.3).least;
  }
  step_leaves Push (Err r) (inr (test, inr (inr h))) = failed (IsPushOp old) r h.1
  step_leaves Seal (Err r) (inl h) = unchanged h.1
  step_leaves Seal (Err r) (inr h) = failed (IsSealOp old.knows) r h.1
  step_leaves Free (Err r) (inl h) = unchanged h.1
  step_leaves Free (Err r) (inr h) = failed (IsFreeOp old.knows) r h.1

  pub step_least : (s : Step) (r : Result StepAnswer Refusal) → Steps old s r new → SameLeast old new
  step_least s r h = (step_leaves s r h).least

  advance_leaves : (s : Step) → Advances s old new → LeavesOthers old new
  advance_leaves s (inl (a, h)) = accepted s a h
  advance_leaves s (inr (b, h)) = step_leaves s (Err (refusal.Lost b)) h

-- ---- pushes and rolls

pushed_leaves : (count : ℕ) (old new : World) → ArePushed count old new → LeavesOthers old new
pushed_leaves zero old new is = unchanged old new is
pushed_leaves (suc count) old new (mid, before, push) =
    leaves_on old mid new (pushed_leaves count old mid before) (advance_leaves mid new Push push)

pub until_leaves : (old new : World) (r : Refusal) → PushesUntil old r new → LeavesOthers old new
until_leaves old new r (count, mid, pushed, declines, lost) =
    leaves_on old mid new (pushed_leaves count old mid pushed) (step_leaves mid new Push (Err r) declines)

rolling_leaves : (old new : World) → GoesRolling old new → LeavesOthers old new
rolling_leaves old new (inl is) = step_leaves old new BeginRoll (Ok is.0) is.1
rolling_leaves old new (inr is) = step_leaves old new BeginRoll (Err refusal.Rolling) is

pub rolls_leave : (old new : World) (result : Result ℕ Refusal) → Rolls old result new → LeavesOthers old new
rolls_leave old new (Ok id) is =
    leaves_on old is.mid new (rolling_leaves old is.mid is.rolling) (until_leaves is.mid new refusal.Nothing is.pushed)
rolls_leave old new (Err r) (inl is) = step_leaves old new BeginRoll (Err r) is.0
rolls_leave old new (Err r) (inr is) =
    leaves_on old is.0 new (rolling_leaves old is.0 is.1) (until_leaves is.0 new r is.2)

-- ---- a whole cleaning

mended_leaves : (count : ℕ) (old new : World) → AreMended count old new → LeavesOthers old new
mended_leaves zero old new is = unchanged old new is
mended_leaves (suc count) old new (mid, before, open_now, answer, push) =
    leaves_on old mid new (mended_leaves count old mid before) (step_leaves mid new Push (Ok answer) push)

turned_leaves : (count : ℕ) (old new : World) → AreTurned count old new → LeavesOthers old new
turned_leaves zero old new is = unchanged old new is
turned_leaves (suc count) old new (mid, before, step, pending, turn) =
    leaves_on old mid new (turned_leaves count old mid before) (advance_leaves mid new step turn)

ready_leaves : (old new : World) → IsMended old new → LeavesOthers old new
ready_leaves old new is = mended_leaves is.0 old new is.1

begun_leaves : (old ready begun : World) (victims : List ℕ) (a : StepAnswer) → IsMended old ready
    → Accepts ready (BeginClean victims) a begun → LeavesOthers old begun
begun_leaves old ready begun victims a mended begins =
    leaves_on old ready begun (ready_leaves old ready mended)
    (step_leaves ready begun (BeginClean victims) (Ok a) begins)

pub cleans_leave : (old new : World) (victims : List ℕ) (result : Result (Survivors × ℕ) Refusal)
    → Cleans old victims result new → LeavesOthers old new
cleans_leave old new victims (Ok (survivors, head)) is =
    leaves_on old is.begun new (begun_leaves old is.ready is.begun victims _ is.mended is.begins)
    (turned_leaves is.turned.0 is.begun new is.turned.1)
cleans_leave old new victims (Err r) (inl (count, mid, mended, open_now, declines)) =
    leaves_on old mid new (mended_leaves count old mid mended) (step_leaves mid new Push (Err r) declines)
cleans_leave old new victims (Err r) (inr (ready, mended, inl is)) =
    leaves_on old ready new (ready_leaves old ready mended) (step_leaves ready new (BeginClean victims) (Err r) is)
cleans_leave old new victims (Err r)
    (inr (ready, mended, inr (survivors, begun, begins, (count, mid, turned, step, pending, declines, lost)))) =
    leaves_on old begun new (begun_leaves old ready begun victims _ mended begins)
    (leaves_on begun mid new (turned_leaves count begun mid turned) (step_leaves mid new step (Err r) declines))

-- ---- a command's line

pushed_for_leaves : (place count : ℕ) (old new : World) → ArePushedFor place count old new → LeavesOthers old new
pushed_for_leaves place zero old new is = unchanged old new is
pushed_for_leaves place (suc count) old new (mid, before, awaited, push) =
    leaves_on old mid new (pushed_for_leaves place count old mid before) (advance_leaves mid new Push push)

pub tries_leave : (old new : World) (command : Command) (result : Result Reply Refusal) → Tries old command result new
    → LeavesOthers old new
tries_leave old new command (Ok reply) is =
    leaves_on old is.mid new (step_leaves old is.mid (Apply 0 command) (Ok _) is.applied)
    (pushed_for_leaves is.place is.pushed.0 is.mid new is.pushed.1)
tries_leave old new command (Err r) (inl is) = step_leaves old new (Apply 0 command) (Err r) is
tries_leave old new command (Err r) (inr is) =
    leaves_on old is.mid new (step_leaves old is.mid (Apply 0 command) (Ok _) is.applied)
    (leaves_on is.mid is.pushed.1 new (pushed_for_leaves is.place is.pushed.0 is.mid is.pushed.1 is.pushed.2)
    (step_leaves is.pushed.1 new Push (Err r) is.pushed.4))

pub after_roll_leaves : (old new : World) (command : Command) (result : Result Reply Refusal)
    → TriesAfterRoll old command result new → LeavesOthers old new
after_roll_leaves old new command result (inl is) =
    leaves_on old is.1 new (rolls_leave old is.1 (Ok is.0) is.2) (tries_leave is.1 new command result is.3)
after_roll_leaves old new command result (inr is) = rolls_leave old new (Err is.0) is.2

pub command_leaves : (old new : World) (command : Command) (result : Result Reply Refusal)
    → RunsCommand old command result new → LeavesOthers old new
command_leaves old new command result (inl is) = tries_leave old new command result is.0
command_leaves old new command result (inr is) = after_roll_leaves old new command result is.1
