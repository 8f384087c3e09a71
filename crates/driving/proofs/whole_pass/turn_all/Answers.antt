use Rattle.std.proofs.Common.{refl, sym}
use Rattle.std.specs.Prelude.{Ok, Err}
use Rattle.driving.proofs.Losses.{goes_lost, goes_ok, unlost}
use Rattle.driving.proofs.MasterSteps.{goes_nowhere}
use Rattle.driving.proofs.Turns.{next_turn, one_turn, turn_goes_on, turn_late, turn_lowers, turn_spent}
use Rattle.driving.proofs.whole_pass.turn_all.Goals as goal

pub loop-step-init : goal.loop-step-init
loop-step-init g c = (goes_nowhere c.args.master.now.knows, (0, refl), λ left. c.requires)

pub returns-in_default-refusal-clause-goes_on : goal.returns-in_default-refusal-clause-goes_on
returns-in_default-refusal-clause-goes_on g c =
    turn_goes_on _ _ _ c.in-Some.step (Err c.in-Err.refusal)
    (next_turn c.loop-step.master.knows c.in-Some.step (sym c.in-Some.ensures)).turn
    c.loop-step.invariant.0 c.in-Err.ensures.gives c.step.ensures.keeps

pub returns-in_default-refusal-clause-refused : goal.returns-in_default-refusal-clause-refused
returns-in_default-refusal-clause-refused g c = (
  c.loop-step.invariant.1.0,
  _,
  c.loop-step.invariant.1.1,
  c.in-Some.step,
  sym c.in-Some.ensures,
  c.in-Err.ensures.gives,
  unlost c.in-Err.refusal c.in_default-refusal.not-Lost,
)

pub returns-in_default-refusal-clause-spent : goal.returns-in_default-refusal-clause-spent
returns-in_default-refusal-clause-spent g c =
    turn_spent _ _ c.in-Some.step c.in-Err.refusal
    (next_turn c.loop-step.master.knows c.in-Some.step (sym c.in-Some.ensures)).turn
    c.in-Err.ensures.gives

pub loop-step-preserved-in-Lost : goal.loop-step-preserved-in-Lost
loop-step-preserved-in-Lost g c =
    let next = next_turn c.loop-step.master.knows c.in-Some.step (sym c.in-Some.ensures) in
    let goes = goes_lost c.in-Some.step _ _ _ c.in-Lost.field-0 c.in-Lost.is c.in-Err.ensures.gives in (
      turn_goes_on _ _ _ c.in-Some.step (Err c.in-Err.refusal) next.turn c.loop-step.invariant.0
          c.in-Err.ensures.gives c.step.ensures.keeps,
      one_turn _ _ _ c.in-Some.step (sym c.in-Some.ensures) goes c.loop-step.invariant.1,
      turn_late c.in-Some.step _ _ next c.loop-step.invariant.2 goes,
    )

pub loop-step-smaller-in-Lost : goal.loop-step-smaller-in-Lost
loop-step-smaller-in-Lost g c =
    turn_lowers c.in-Some.step _ _
    (next_turn c.loop-step.master.knows c.in-Some.step (sym c.in-Some.ensures)) c.loop-step.invariant.2
    (goes_lost c.in-Some.step _ _ _ c.in-Lost.field-0 c.in-Lost.is c.in-Err.ensures.gives)

pub loop-step-preserved-in_default-step : goal.loop-step-preserved-in_default-step
loop-step-preserved-in_default-step g c =
    let next = next_turn c.loop-step.master.knows c.in-Some.step (sym c.in-Some.ensures) in
    let goes = goes_ok c.in-Some.step _ _ _ c.in_default-step.field-0 c.in_default-step.is c.step.ensures.gives in (
      turn_goes_on _ _ _ c.in-Some.step (Ok c.in_default-step.field-0) next.turn c.loop-step.invariant.0
          c.in_default-step.ensures.gives c.step.ensures.keeps,
      one_turn _ _ _ c.in-Some.step (sym c.in-Some.ensures) goes c.loop-step.invariant.1,
      turn_late c.in-Some.step _ _ next c.loop-step.invariant.2 goes,
    )

pub loop-step-smaller-in_default-step : goal.loop-step-smaller-in_default-step
loop-step-smaller-in_default-step g c =
    turn_lowers c.in-Some.step _ _
    (next_turn c.loop-step.master.knows c.in-Some.step (sym c.in-Some.ensures)) c.loop-step.invariant.2
    (goes_ok c.in-Some.step _ _ _ c.in_default-step.field-0 c.in_default-step.is c.step.ensures.gives)

pub loop-step-preserved-in_default-step-2 : goal.loop-step-preserved-in_default-step-2
loop-step-preserved-in_default-step-2 g c =
    let next = next_turn c.loop-step.master.knows c.in-Some.step (sym c.in-Some.ensures) in
    let goes = goes_ok c.in-Some.step _ _ _ c.in_default-step.field-0 c.in_default-step.is c.step.ensures.gives in (
      turn_goes_on _ _ _ c.in-Some.step (Ok c.in_default-step.field-0) next.turn c.loop-step.invariant.0
          c.in_default-step.ensures.gives c.step.ensures.keeps,
      one_turn _ _ _ c.in-Some.step (sym c.in-Some.ensures) goes c.loop-step.invariant.1,
      turn_late c.in-Some.step _ _ next c.loop-step.invariant.2 goes,
    )

pub loop-step-smaller-in_default-step-2 : goal.loop-step-smaller-in_default-step-2
loop-step-smaller-in_default-step-2 g c =
    turn_lowers c.in-Some.step _ _
    (next_turn c.loop-step.master.knows c.in-Some.step (sym c.in-Some.ensures)) c.loop-step.invariant.2
    (goes_ok c.in-Some.step _ _ _ c.in_default-step.field-0 c.in_default-step.is c.step.ensures.gives)

pub loop-step-preserved-in_default-step-3 : goal.loop-step-preserved-in_default-step-3
loop-step-preserved-in_default-step-3 g c =
    let next = next_turn c.loop-step.master.knows c.in-Some.step (sym c.in-Some.ensures) in
    let goes = goes_ok c.in-Some.step _ _ _ c.in_default-step.field-0 c.in_default-step.is c.step.ensures.gives in (
      turn_goes_on _ _ _ c.in-Some.step (Ok c.in_default-step.field-0) next.turn c.loop-step.invariant.0
          c.in_default-step.ensures.gives c.step.ensures.keeps,
      one_turn _ _ _ c.in-Some.step (sym c.in-Some.ensures) goes c.loop-step.invariant.1,
      turn_late c.in-Some.step _ _ next c.loop-step.invariant.2 goes,
    )

pub loop-step-smaller-in_default-step-3 : goal.loop-step-smaller-in_default-step-3
loop-step-smaller-in_default-step-3 g c =
    turn_lowers c.in-Some.step _ _
    (next_turn c.loop-step.master.knows c.in-Some.step (sym c.in-Some.ensures)) c.loop-step.invariant.2
    (goes_ok c.in-Some.step _ _ _ c.in_default-step.field-0 c.in_default-step.is c.step.ensures.gives)
