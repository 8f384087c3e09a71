use Rattle.std.proofs.Common.{refl}
use Rattle.master.specs.master_state.declared.step.Step.TheVariants.{Push}
use Rattle.driving.proofs.Heads.{one_more}
use Rattle.driving.proofs.Losses.{goes_lost, goes_ok, push_lowers}
use Rattle.driving.proofs.MasterSteps.{open_push, spent_push}
use Rattle.driving.proofs.pushing.push_all.Goals as goal

pub loop-refusal-init : goal.loop-refusal-init
loop-refusal-init g c = (g.met.D.Driven.stays _, (0, refl))

pub returns-in-Nothing-clause-goes_on : goal.returns-in-Nothing-clause-goes_on
returns-in-Nothing-clause-goes_on g c = g.met.D.Driven.further _ _ _ c.loop-refusal.invariant.0 c.push.ensures.goes_on

pub returns-in-Nothing-clause-open : goal.returns-in-Nothing-clause-open
returns-in-Nothing-clause-open g c = open_push _ _ _ c.in-Err.ensures.gives c.in-Nothing.is

pub returns-in_default-refusal-clause-goes_on : goal.returns-in_default-refusal-clause-goes_on
returns-in_default-refusal-clause-goes_on g c =
    g.met.D.Driven.further _ _ _ c.loop-refusal.invariant.0 c.push.ensures.goes_on

pub returns-in_default-refusal-clause-open : goal.returns-in_default-refusal-clause-open
returns-in_default-refusal-clause-open g c = tt

pub returns-in_default-refusal-clause-spent : goal.returns-in_default-refusal-clause-spent
returns-in_default-refusal-clause-spent g c = spent_push _ _ _ c.in-Err.ensures.gives

pub loop-refusal-preserved-in-Lost : goal.loop-refusal-preserved-in-Lost
loop-refusal-preserved-in-Lost g c = (
  g.met.D.Driven.further _ _ _ c.loop-refusal.invariant.0 c.push.ensures.goes_on,
  one_more _ _ _ (goes_lost Push _ _ _ c.in-Lost.field-0 c.in-Lost.is c.in-Err.ensures.gives)
      c.loop-refusal.invariant.1,
)

pub loop-refusal-smaller-in-Lost : goal.loop-refusal-smaller-in-Lost
loop-refusal-smaller-in-Lost g c =
    push_lowers _ _ (goes_lost Push _ _ _ c.in-Lost.field-0 c.in-Lost.is c.in-Err.ensures.gives)

pub loop-refusal-preserved-in_default-3 : goal.loop-refusal-preserved-in_default-3
loop-refusal-preserved-in_default-3 g c = (
  g.met.D.Driven.further _ _ _ c.loop-refusal.invariant.0 c.push.ensures.goes_on,
  one_more _ _ _ (goes_ok Push _ _ _ c.in_default.field-0 c.in_default.is c.push.ensures.gives)
      c.loop-refusal.invariant.1,
)

pub loop-refusal-smaller-in_default-3 : goal.loop-refusal-smaller-in_default-3
loop-refusal-smaller-in_default-3 g c =
    push_lowers _ _ (goes_ok Push _ _ _ c.in_default.field-0 c.in_default.is c.push.ensures.gives)
