use Rattle.std.proofs.Common.{◌≡◌, ◌∙◌, ◌+◌, inl, sym}
use Rattle.std.specs.Prelude.{Some, Ok}
use Rattle.driving.specs.master.World.{world}
use Rattle.driving.specs.master.master_space.Choosing.{pending_step}
use Rattle.driving.specs.master.master_state.declared.step.StepAnswer.{StepAnswer}
use Rattle.driving.proofs.Losses.{goes_lost, goes_ok, unlost}
use Rattle.driving.proofs.AnyStep.{step_spent}
use Rattle.tending.proofs.Rounding.{IsContinued, continued_lives, continued_more, continued_none, continued_tended}
use Rattle.tending.proofs.Rounding.{until_on, until_step}
use Rattle.tending.proofs.Tended.{no_record}
use Rattle.tending.proofs.rounds.finish.Goals.{in-Err+in-Lost, in_default-step+in-Ok+in-Applied+in-Found-1}
use Rattle.tending.proofs.rounds.finish.Goals.{in_default-step+in-Ok+in-Applied+in-None-1}
use Rattle.tending.proofs.rounds.finish.Goals.{in_default-step+in-Ok+in-Extended-1}
use Rattle.tending.proofs.rounds.finish.Goals.{in_default-step+in-Err-1}
use Rattle.tending.proofs.rounds.finish.Goals as goal

pub loop-made-init : goal.loop-made-init
loop-made-init g c = continued_none (world g.F.Fleet.state c.args.master.now)

pub returns-in_default-clause-finished : goal.returns-in_default-clause-finished
returns-in_default-clause-finished g c = λ done. record {
  count = c.loop-made.made;
  few = c.loop-made-test.true;
  continued = c.loop-made.invariant.continued;
  idle = sym c.pending_step.ensures ∙ c.in_default.is;
}

pub returns-in_default-clause-goes_on : goal.returns-in_default-clause-goes_on
returns-in_default-clause-goes_on g c = c.loop-made.invariant.lives

pub returns-in_default-refusal : goal.returns-in_default-refusal
returns-in_default-refusal g c =
    let old = world g.F.Fleet.state c.args.master.now in
    let mid = world g.F.Fleet.state c.loop-made.master in
    let new = world g.F.Fleet.state c.step.new.self in
    let is : pending_step mid.knows ≡ Some c.in-Some.step = sym c.pending_step.ensures ∙ c.in-Some.is in
    let so : IsContinued c.loop-made.made old mid = c.loop-made.invariant in
    record {
      finished = λ no. cc;
      given_up = λ no. cc;
      refused = until_on c.loop-made.made old mid c.in-Err.refusal new
          (continued_tended c.loop-made.made old mid so.continued)
          (until_step mid c.in-Some.step c.in-Err.refusal new (inl is) c.in-Err.ensures.gives
          (unlost c.in-Err.refusal c.in_default-refusal.not-Lost));
      goes_on = continued_lives c.loop-made.made old mid new c.in-Some.step c.step.result so (inl is)
          c.step.ensures.gives c.step.ensures.keeps;
      spent = λ spent. (step_spent c.in-Some.step (no_record mid.knows c.in-Some.step (inl is)) mid new
          c.in-Err.refusal c.in-Err.ensures.gives spent).0;
    }

pub loop-made-preserved : goal.loop-made-preserved
loop-made-preserved g c =
    let old = world g.F.Fleet.state c.args.master.now in
    let mid = world g.F.Fleet.state c.loop-made.master in
    let new = world g.F.Fleet.state c.step.new.self in
    let is : pending_step mid.knows ≡ Some c.in-Some.step = sym c.pending_step.ensures ∙ c.in-Some.is in
    let so : IsContinued c.loop-made.made old mid = c.loop-made.invariant in
    let ok : (a : StepAnswer) → c.step.result ≡ Ok a → IsContinued (c.loop-made.made + 1) old new = λ a r.
    continued_more c.loop-made.made old mid new c.in-Some.step c.step.result so is c.step.ensures.gives
    (goes_ok c.in-Some.step mid new c.step.result a r c.step.ensures.gives) c.step.ensures.keeps in
    elim c.match-step.branch [
      | in-Err+in-Lost w ↦ continued_more c.loop-made.made old mid new c.in-Some.step c.step.result so is
          c.step.ensures.gives
          (goes_lost c.in-Some.step mid new w.in-Err.refusal w.in-Lost.field-0 w.in-Lost.is w.in-Err.ensures.gives)
          c.step.ensures.keeps
      | in_default-step+in-Ok+in-Applied+in-Found-1 w ↦ ok w.in_default-step.field-0 w.in_default-step.is
      | in_default-step+in-Ok+in-Applied+in-None-1 w ↦ ok w.in_default-step.field-0 w.in_default-step.is
      | in_default-step+in-Ok+in-Extended-1 w ↦ ok w.in_default-step.field-0 w.in_default-step.is
      | in_default-step+in-Err-1 w ↦ ok w.in_default-step.field-0 w.in_default-step.is
    ]

pub returns-clause-given_up : goal.returns-clause-given_up
returns-clause-given_up g c = λ done. (
  c.loop-made.made,
  c.loop-made-test.false,
  continued_tended c.loop-made.made (world g.F.Fleet.state c.args.master.now)
      (world g.F.Fleet.state c.loop-made.master) c.loop-made.invariant.continued,
)

pub returns-clause-goes_on : goal.returns-clause-goes_on
returns-clause-goes_on g c = c.loop-made.invariant.lives
