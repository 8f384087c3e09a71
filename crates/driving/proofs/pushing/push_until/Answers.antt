use Rattle.std.proofs.Common.{[], inl, sym, subst}
use Rattle.std.specs.Prelude.{Ok, Err}
use Rattle.master.specs.master_state.declared.step.Step.TheVariants.{Push}
use Rattle.master.specs.World.{World, world}
use Rattle.driving.specs.Commands.{ArePushedFor, IsDurable}
use Rattle.driving.specs.Served.{LivesOn}
use Rattle.driving.proofs.Losses.{goes_lost, push_lowers, unlost}
use Rattle.driving.proofs.MasterSteps.{push_goes_on, record_waits, refused_push, spent_push}
use Rattle.driving.proofs.Pushes.{found_awaited, found_durable, one_more_for}
use Rattle.driving.proofs.pushing.push_until.Goals as goal

pub returns-in-Ok-true-clause-goes_on : goal.returns-in-Ok-true-clause-goes_on
returns-in-Ok-true-clause-goes_on g c =
    let found = found_durable c.args.place (world g.F.Fleet.state c.loop-refusal.master)
    (world g.F.Fleet.state c.push_unless_durable.new.self) c.in-Ok-true.field-0 c.in-Ok-true.field-0-test
    c.in-Ok-true.ensures.gives in
    subst (λ (w : World). LivesOn c.args.master.now.knows w.knows []) (sym found.1) c.loop-refusal.invariant.0

pub returns-in-Ok-true-clause-durable : goal.returns-in-Ok-true-clause-durable
returns-in-Ok-true-clause-durable g c =
    let found = found_durable c.args.place (world g.F.Fleet.state c.loop-refusal.master)
    (world g.F.Fleet.state c.push_unless_durable.new.self) c.in-Ok-true.field-0 c.in-Ok-true.field-0-test
    c.in-Ok-true.ensures.gives in
    subst (λ (w : World). IsDurable c.args.place w) (sym found.1) found.0

pub returns-in-Ok-true-clause-pushed : goal.returns-in-Ok-true-clause-pushed
returns-in-Ok-true-clause-pushed g c =
    let found = found_durable c.args.place (world g.F.Fleet.state c.loop-refusal.master)
    (world g.F.Fleet.state c.push_unless_durable.new.self) c.in-Ok-true.field-0 c.in-Ok-true.field-0-test
    c.in-Ok-true.ensures.gives in
    let so_far = c.loop-refusal.invariant.1 in
    let from = world g.F.Fleet.state c.args.master.now in (
      so_far.0,
      subst (λ (w : World). ArePushedFor c.args.place so_far.0 from w) (sym found.1) so_far.1,
      subst (λ (w : World). IsDurable c.args.place w) (sym found.1) found.0,
    )

pub returns-in_default-clause-goes_on : goal.returns-in_default-clause-goes_on
returns-in_default-clause-goes_on g c =
    push_goes_on _ _ _ (Err c.in-Err.refusal) c.loop-refusal.invariant.0 c.in-Err.ensures.gives.1
    c.push_unless_durable.ensures.keeps

pub returns-in_default-clause-refused : goal.returns-in_default-clause-refused
returns-in_default-clause-refused g c = (
  c.loop-refusal.invariant.1.0,
  _,
  c.loop-refusal.invariant.1.1,
  c.in-Err.ensures.gives.0,
  c.in-Err.ensures.gives.1,
  unlost c.in-Err.refusal c.in_default.not-Lost,
)

pub returns-in_default-clause-waits : goal.returns-in_default-clause-waits
returns-in_default-clause-waits g c =
    refused_push _ _ _ c.in-Err.ensures.gives.1 (unlost c.in-Err.refusal c.in_default.not-Lost)
    (record_waits _ _ _ c.args.place c.push_unless_durable.ensures.was_valid c.loop-refusal.invariant.0 c.requires
    c.in-Err.ensures.gives.0)

pub returns-in_default-clause-spent : goal.returns-in_default-clause-spent
returns-in_default-clause-spent g c = spent_push _ _ _ c.in-Err.ensures.gives.1

pub loop-refusal-preserved-in-Ok-false : goal.loop-refusal-preserved-in-Ok-false
loop-refusal-preserved-in-Ok-false g c =
    let more = found_awaited c.args.place (world g.F.Fleet.state c.loop-refusal.master)
    (world g.F.Fleet.state c.push_unless_durable.new.self) c.in-Ok-false.field-0 c.in-Ok-false.field-0-test
    c.in-Ok-false.ensures.gives in (
      push_goes_on _ _ _ (Ok more.1) c.loop-refusal.invariant.0 more.2 c.push_unless_durable.ensures.keeps,
      one_more_for c.args.place _ _ _ more.0 (inl (more.1, more.2)) c.loop-refusal.invariant.1,
    )

pub loop-refusal-smaller-in-Ok-false : goal.loop-refusal-smaller-in-Ok-false
loop-refusal-smaller-in-Ok-false g c =
    let more = found_awaited c.args.place (world g.F.Fleet.state c.loop-refusal.master)
    (world g.F.Fleet.state c.push_unless_durable.new.self) c.in-Ok-false.field-0 c.in-Ok-false.field-0-test
    c.in-Ok-false.ensures.gives in
    push_lowers _ _ (inl (more.1, more.2))

pub loop-refusal-preserved : goal.loop-refusal-preserved
loop-refusal-preserved g c = (
  push_goes_on _ _ _ (Err c.in-Err.refusal) c.loop-refusal.invariant.0 c.in-Err.ensures.gives.1
      c.push_unless_durable.ensures.keeps,
  one_more_for c.args.place _ _ _ c.in-Err.ensures.gives.0
      (goes_lost Push _ _ _ c.in-Lost.field-0 c.in-Lost.is c.in-Err.ensures.gives.1) c.loop-refusal.invariant.1,
)

pub loop-refusal-smaller : goal.loop-refusal-smaller
loop-refusal-smaller g c =
    push_lowers _ _ (goes_lost Push _ _ _ c.in-Lost.field-0 c.in-Lost.is c.in-Err.ensures.gives.1)
