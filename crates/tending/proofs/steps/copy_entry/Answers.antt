use Rattle.std.proofs.Common.{◌≡◌, Bool, false, inl, refl, subst, sym}
use Rattle.std.specs.Prelude.{Option, Result, IfErr}
use Rattle.driving.specs.master.World.{world}
use Rattle.driving.specs.master.master_state.declared.step.Refusal.{Refusal}
use Rattle.driving.specs.master.master_state.declared.step.Refusal.TheVariants.{Spent}
use Rattle.driving.specs.master.master_state.declared.step.Step.TheVariants.{Copy}
use Rattle.driving.specs.Served.{IsSpent}
use Rattle.driving.proofs.AnyStep.{step_goes_on, step_spent}
use Rattle.driving.proofs.Losses.{goes_lost, goes_ok, unlost}
use Rattle.tending.specs.Tends.{MakesStep}
use Rattle.tending.proofs.Tended.{makes_step, refuses_step}
use Rattle.tending.proofs.steps.copy_entry.Goals.{in-Ok, in-Err+in-Lost, in-Err+in_default}
use Rattle.tending.proofs.steps.copy_entry.Goals as goal

pub returns-clause-makes : goal.returns-clause-makes
returns-clause-makes g c =
    let old = world g.F.Fleet.state c.args.master.now in
    let new = world g.F.Fleet.state c.step.new.self in
    let policy = c.args._policy.now in
    elim c.match-step.branch as (λ _. MakesStep policy old c.match-step.result new) [
      | in-Ok w ↦ subst (λ (r : Result (Option Bool) Refusal). MakesStep policy old r new) (sym w.result-is)
          (makes_step policy old old new Copy false refl (inl c.requires) refl
          (goes_ok Copy old new c.step.result w.in-Ok.field-0 w.in-Ok.is c.step.ensures.gives))
      | in-Err+in-Lost w ↦ subst (λ (r : Result (Option Bool) Refusal). MakesStep policy old r new) (sym w.result-is)
          (makes_step policy old old new Copy false refl (inl c.requires) refl
          (goes_lost Copy old new w.in-Err.refusal w.in-Lost.field-0 w.in-Lost.is w.in-Err.ensures.gives))
      | in-Err+in_default w ↦ subst (λ (r : Result (Option Bool) Refusal). MakesStep policy old r new)
          (sym w.result-is)
          (refuses_step old old new Copy w.in-Err.refusal refl (inl c.requires) w.in-Err.ensures.gives
          (unlost w.in-Err.refusal w.in_default.not-Lost))
    ]

pub returns-clause-goes_on : goal.returns-clause-goes_on
returns-clause-goes_on g c =
    let old = world g.F.Fleet.state c.args.master.now in
    let new = world g.F.Fleet.state c.step.new.self in
    step_goes_on Copy refl old new c.step.result c.step.ensures.gives c.step.ensures.keeps

pub returns-clause-spent : goal.returns-clause-spent
returns-clause-spent g c =
    let old = world g.F.Fleet.state c.args.master.now in
    let new = world g.F.Fleet.state c.step.new.self in
    elim c.match-step.branch as (λ _. IfErr c.match-step.result (λ r. r ≡ Spent → IsSpent new.fleet)) [
      | in-Ok w ↦ subst (λ (r : Result (Option Bool) Refusal). IfErr r (λ e. e ≡ Spent → IsSpent new.fleet))
          (sym w.result-is) tt
      | in-Err+in-Lost w ↦ subst (λ (r : Result (Option Bool) Refusal). IfErr r (λ e. e ≡ Spent → IsSpent new.fleet))
          (sym w.result-is) tt
      | in-Err+in_default w ↦ subst
          (λ (r : Result (Option Bool) Refusal). IfErr r (λ e. e ≡ Spent → IsSpent new.fleet)) (sym w.result-is)
          (λ spent. (step_spent Copy refl old new w.in-Err.refusal w.in-Err.ensures.gives spent).0)
    ]
