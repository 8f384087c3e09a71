use Rattle.std.proofs.Common.{refl}
use Rattle.std.specs.Prelude.{Ok, Err}
use Rattle.driving.proofs.MasterSteps.{goes_nowhere, push_goes_on, spent_push}
use Rattle.driving.proofs.Turns.{one_mend, some_left}
use Rattle.driving.proofs.whole_pass.mend_all.Goals as goal

pub loop-master-init : goal.loop-master-init
loop-master-init g c = (goes_nowhere c.args.master.now.knows, (0, refl))

pub returns-in-Err-clause-goes_on : goal.returns-in-Err-clause-goes_on
returns-in-Err-clause-goes_on g c =
    push_goes_on _ _ _ (Err c.in-Err.refusal) c.loop-master.invariant.0 c.in-Err.ensures.gives c.step.ensures.keeps

pub returns-in-Err-clause-refused : goal.returns-in-Err-clause-refused
returns-in-Err-clause-refused g c = (
  c.loop-master.invariant.1.0,
  _,
  c.loop-master.invariant.1.1,
  some_left _ c.failover_left.result c.failover_left.ensures.none.1 c.failover_left.ensures.none.0
      c.loop-master-test.true,
  c.in-Err.ensures.gives,
)

pub returns-in-Err-clause-spent : goal.returns-in-Err-clause-spent
returns-in-Err-clause-spent g c = spent_push _ _ _ c.in-Err.ensures.gives

pub loop-master-preserved-in_default-3 : goal.loop-master-preserved-in_default-3
loop-master-preserved-in_default-3 g c = (
  push_goes_on _ _ _ (Ok c.in_default.field-0) c.loop-master.invariant.0 c.in_default.ensures.gives
      c.step.ensures.keeps,
  one_mend _ _ _ (Ok c.in_default.field-0) c.in_default.field-0 refl c.in_default.ensures.gives
      (some_left _ c.failover_left.result c.failover_left.ensures.none.1 c.failover_left.ensures.none.0
      c.loop-master-test.true) c.loop-master.invariant.1,
)
