use Rattle.std.proofs.Common.{◌≡◌, ◌∙◌, ◌&&◌, Bool, not, [], ap, subst, sym}
use Rattle.std.specs.Prelude.{Option, Result, IfErr, IfSome}
use Rattle.driving.specs.master.World.{World, world}
use Rattle.driving.specs.master.master_state.declared.step.Refusal.{Refusal}
use Rattle.driving.specs.master.master_state.declared.step.Refusal.TheVariants.{Spent}
use Rattle.driving.specs.master.master_state.declared.step.Step.{Step}
use Rattle.driving.specs.Served.{IsSpent, LivesOn}
use Rattle.driving.proofs.AnyStep.{step_goes_on, step_spent}
use Rattle.driving.proofs.Losses.{goes_lost, goes_ok, unlost}
use Rattle.tending.specs.Low.{is_tight}
use Rattle.tending.specs.Tends.{IsTendStep, MakesStep}
use Rattle.tending.proofs.Tended.{makes_step, no_record, refuses_step}
use Rattle.tending.proofs.steps.make_step.Goals.{in-Ok, in-Err+in-Lost, in-Err+in_default-refusal}
use Rattle.tending.proofs.steps.make_step.Goals as goal

pub returns-clause-makes : goal.returns-clause-makes
returns-clause-makes g c =
    let old = world g.F.Fleet.state c.args.master.now in
    let mid = world g.F.Fleet.state c.choose_step.new.master in
    let new = world g.F.Fleet.state c.step.new.self in
    let same : mid ≡ old = c.choose_step.ensures.same in
    let policy = c.args.policy.now in
    let is : IsTendStep mid.knows c.in-Some.step =
    subst (λ (o : Option Step). IfSome o (λ (s : Step). IsTendStep mid.knows s)) c.in-Some.is
    c.in_ok-step.ensures.some in
    let long_is = ap (λ (b : Bool). b && not (is_tight policy new.knows)) (sym c.is_compaction-is_long.ensures) in
    elim c.match-step.branch as (λ _. MakesStep policy old c.match-step.result new) [
      | in-Ok w ↦ subst (λ (r : Result (Option Bool) Refusal). MakesStep policy old r new) (sym w.result-is)
          (makes_step policy old mid new c.in-Some.step w.stops.result same is (long_is ∙ sym w.stops.ensures)
          (goes_ok c.in-Some.step mid new c.step.result w.in-Ok.field-0 w.in-Ok.is c.step.ensures.gives))
      | in-Err+in-Lost w ↦ subst (λ (r : Result (Option Bool) Refusal). MakesStep policy old r new) (sym w.result-is)
          (makes_step policy old mid new c.in-Some.step w.stops-in-Lost.result same is
          (long_is ∙ sym w.stops-in-Lost.ensures)
          (goes_lost c.in-Some.step mid new w.in-Err.refusal w.in-Lost.field-0 w.in-Lost.is w.in-Err.ensures.gives))
      | in-Err+in_default-refusal w ↦ subst (λ (r : Result (Option Bool) Refusal). MakesStep policy old r new)
          (sym w.result-is)
          (refuses_step old mid new c.in-Some.step w.in-Err.refusal same is w.in-Err.ensures.gives
          (unlost w.in-Err.refusal w.in_default-refusal.not-Lost))
    ]

pub returns-clause-goes_on : goal.returns-clause-goes_on
returns-clause-goes_on g c =
    let old = world g.F.Fleet.state c.args.master.now in
    let mid = world g.F.Fleet.state c.choose_step.new.master in
    let new = world g.F.Fleet.state c.step.new.self in
    let same : mid ≡ old = c.choose_step.ensures.same in
    let is : IsTendStep mid.knows c.in-Some.step =
    subst (λ (o : Option Step). IfSome o (λ (s : Step). IsTendStep mid.knows s)) c.in-Some.is
    c.in_ok-step.ensures.some in
    subst (λ (w : World). LivesOn w.knows new.knows []) same
    (step_goes_on c.in-Some.step (no_record mid.knows c.in-Some.step is) mid new c.step.result c.step.ensures.gives
    c.step.ensures.keeps)

pub returns-clause-spent : goal.returns-clause-spent
returns-clause-spent g c =
    let mid = world g.F.Fleet.state c.choose_step.new.master in
    let new = world g.F.Fleet.state c.step.new.self in
    let is : IsTendStep mid.knows c.in-Some.step =
    subst (λ (o : Option Step). IfSome o (λ (s : Step). IsTendStep mid.knows s)) c.in-Some.is
    c.in_ok-step.ensures.some in
    elim c.match-step.branch as (λ _. IfErr c.match-step.result (λ r. r ≡ Spent → IsSpent new.fleet)) [
      | in-Ok w ↦ subst (λ (r : Result (Option Bool) Refusal). IfErr r (λ e. e ≡ Spent → IsSpent new.fleet))
          (sym w.result-is) tt
      | in-Err+in-Lost w ↦ subst (λ (r : Result (Option Bool) Refusal). IfErr r (λ e. e ≡ Spent → IsSpent new.fleet))
          (sym w.result-is) tt
      | in-Err+in_default-refusal w ↦ subst
          (λ (r : Result (Option Bool) Refusal). IfErr r (λ e. e ≡ Spent → IsSpent new.fleet)) (sym w.result-is)
          (λ spent. (step_spent c.in-Some.step (no_record mid.knows c.in-Some.step is) mid new w.in-Err.refusal
          w.in-Err.ensures.gives spent).0)
    ]
