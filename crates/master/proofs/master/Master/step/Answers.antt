use Rattle.std.proofs.Common.{IfOk, IfErr, Ok, Err}
use Rattle.std.specs.Prelude.{Result}
use Rattle.master_core.specs.master_state.declared.step.Refusal.{Refusal}
use Rattle.master_core.specs.master_state.declared.step.Step.{Step}
use Rattle.master_core.specs.master_state.declared.step.Step.TheVariants.{Apply, Push, BeginRoll, Compact, BeginClean}
use Rattle.master_core.specs.master_state.declared.step.Step.TheVariants.{Copy, Seal}
use Rattle.master_core.specs.master_state.declared.step.Step.TheVariants.{Free}
use Rattle.master_core.specs.master_state.declared.step.StepAnswer.{StepAnswer}
use Rattle.master.specs.Steps.{Accepts, Declines, Steps}
use Rattle.master.specs.World.{World, world}
use Rattle.master.proofs.GoingOn.{step_goes_on}
use Rattle.master.proofs.Keeping.{steps_keep, steps_remember}
use Rattle.master.proofs.master.Master.step.Goals.{in-Apply, in-Push, in-BeginRoll, in-Compact, in-BeginClean, in-Copy}
use Rattle.master.proofs.master.Master.step.Goals.{in-Seal, in-Free}
use Rattle.master.proofs.master.Master.step.Goals as goal

by_result : (old : World) (step : Step) (r : Result StepAnswer Refusal) (new : World)
    → IfOk r (λ a. Accepts old step a new)
    → IfErr r (λ e. Declines old step e new) → Steps old step r new
by_result old step (Ok a) new accepted refused = accepted
by_result old step (Err e) new accepted refused = refused

pub returns-clause-gives : goal.returns-clause-gives
returns-clause-gives g c = elim c.match-step.branch [
  | in-Apply w ↦ rw (w.in-Apply.is, w.self-is, w.outcome-is) (by_result (world g.F.Fleet.state c.args.self.now)
      (Apply w.in-Apply.seat w.in-Apply.command) w.apply-outcome.result (world g.F.Fleet.state w.apply-outcome.new.self)
      w.apply-outcome.ensures.accepted w.apply-outcome.ensures.refused)
  | in-Push w ↦ rw (w.in-Push.is, w.self-is, w.outcome-is) (by_result (world g.F.Fleet.state c.args.self.now) Push
      w.push-outcome.result (world g.F.Fleet.state w.push-outcome.new.self) w.push-outcome.ensures.accepted
      w.push-outcome.ensures.refused)
  | in-BeginRoll w ↦ rw (w.in-BeginRoll.is, w.self-is, w.outcome-is)
      (by_result (world g.F.Fleet.state c.args.self.now) BeginRoll
      w.begin_roll-outcome.result (world g.F.Fleet.state w.begin_roll-outcome.new.self)
      w.begin_roll-outcome.ensures.accepted
      w.begin_roll-outcome.ensures.refused)
  | in-Compact w ↦ rw (w.in-Compact.is, w.self-is, w.outcome-is) (by_result (world g.F.Fleet.state c.args.self.now)
      (Compact w.in-Compact.id) w.compact-outcome.result (world g.F.Fleet.state w.compact-outcome.new.self)
      w.compact-outcome.ensures.accepted w.compact-outcome.ensures.refused)
  | in-BeginClean w ↦ rw (w.in-BeginClean.is, w.self-is, w.outcome-is)
      (by_result (world g.F.Fleet.state c.args.self.now)
      (BeginClean w.in-BeginClean.victims) w.begin_clean-outcome.result
      (world g.F.Fleet.state w.begin_clean-outcome.new.self)
      w.begin_clean-outcome.ensures.accepted w.begin_clean-outcome.ensures.refused)
  | in-Copy w ↦ rw (w.in-Copy.is, w.self-is, w.outcome-is) (by_result (world g.F.Fleet.state c.args.self.now) Copy
      w.copy-outcome.result (world g.F.Fleet.state w.copy-outcome.new.self) w.copy-outcome.ensures.accepted
      w.copy-outcome.ensures.refused)
  | in-Seal w ↦ rw (w.in-Seal.is, w.self-is, w.outcome-is) (by_result (world g.F.Fleet.state c.args.self.now) Seal
      w.seal-outcome.result (world g.F.Fleet.state w.seal-outcome.new.self) w.seal-outcome.ensures.accepted
      w.seal-outcome.ensures.refused)
  | in-Free w ↦ rw (w.in-Free.is, w.self-is, w.outcome-is) (by_result (world g.F.Fleet.state c.args.self.now) Free
      w.free-outcome.result (world g.F.Fleet.state w.free-outcome.new.self) w.free-outcome.ensures.accepted
      w.free-outcome.ensures.refused)
]

pub returns-clause-keeps : goal.returns-clause-keeps
returns-clause-keeps g c =
    steps_keep (world g.F.Fleet.state c.args.self.now) (world g.F.Fleet.state c.match-step.self) c.args.step
    c.match-step.outcome
    c.show_kept.ensures (returns-clause-gives g c)

pub returns-clause-goes_on : goal.returns-clause-goes_on
returns-clause-goes_on g c =
    step_goes_on (world g.F.Fleet.state c.args.self.now) c.args.step c.match-step.outcome
    (world g.F.Fleet.state c.match-step.self) c.show_kept.ensures (returns-clause-gives g c)

pub returns-clause-remembers : goal.returns-clause-remembers
returns-clause-remembers g c =
    steps_remember (world g.F.Fleet.state c.args.self.now) (world g.F.Fleet.state c.match-step.self) c.args.step
    c.match-step.outcome (returns-clause-gives g c)
