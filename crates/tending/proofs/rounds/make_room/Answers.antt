use Rattle.std.proofs.Common.{◌∙◌, suc, [], ap, ap₂, inl, inr, refl, subst, sym}
use Rattle.std.specs.Prelude.{IfSome, Ok, Option, nat_lt}
use Rattle.driving.specs.GoesOn.{goes_further}
use Rattle.driving.specs.Rolls.{Advances}
use Rattle.driving.specs.Served.{LivesOn}
use Rattle.driving.specs.master.World.{World, world}
use Rattle.driving.specs.master.master_state.declared.step.Refusal.TheVariants.{NoMemory}
use Rattle.driving.specs.master.master_state.declared.step.Step.{Step}
use Rattle.driving.proofs.AnyStep.{step_goes_on, step_spent}
use Rattle.driving.proofs.Losses.{goes_lost, goes_ok, unlost}
use Rattle.tending.specs.Rounds.{IsFinished}
use Rattle.tending.specs.Tends.{AreTended, IsBegin, IsTendStep}
use Rattle.tending.proofs.Rounding.{continued_tended, given_up_on, memory_round, until_memory, until_on, until_step}
use Rattle.tending.proofs.Tended.{no_record}
use Rattle.tending.proofs.rounds.make_room.Goals.{in-Err-step+in-Lost}
use Rattle.tending.proofs.rounds.make_room.Goals.{in_default-step+in-Ok-this+in-Applied+in-Found-1}
use Rattle.tending.proofs.rounds.make_room.Goals.{in_default-step+in-Ok-this+in-Applied+in-None-1}
use Rattle.tending.proofs.rounds.make_room.Goals.{in_default-step+in-Ok-this+in-Extended-1}
use Rattle.tending.proofs.rounds.make_room.Goals.{in_default-step+in-Err-1}
use Rattle.tending.proofs.rounds.make_room.Goals as goal

pub returns-in_err-step-clause-round : goal.returns-in_err-step-clause-round
returns-in_err-step-clause-round g c =
    let old = world g.F.Fleet.state c.args.master.now in
    let mid = world g.F.Fleet.state c.begin.new.master in
    let fin : IsFinished old (world g.F.Fleet.state c.finish.new.master) =
    c.finish.ensures.finished (c.in-Ok-true.is ∙ ap Ok c.in-Ok-true.field-0-test) in
    memory_round c.args.policy.now old mid c.from_residual.result c.from_residual.ensures.0 c.from_residual.ensures.1
    (until_on fin.count old (world g.F.Fleet.state c.finish.new.master) NoMemory mid
    (continued_tended fin.count old (world g.F.Fleet.state c.finish.new.master) fin.continued)
    (until_memory (world g.F.Fleet.state c.finish.new.master) mid NoMemory refl c.in_err-step.ensures.same))

pub returns-in_default-refusal : goal.returns-in_default-refusal
returns-in_default-refusal g c =
    let old = world g.F.Fleet.state c.args.master.now in
    let mid = world g.F.Fleet.state c.begin.new.master in
    let fin : IsFinished old (world g.F.Fleet.state c.finish.new.master) =
    c.finish.ensures.finished (c.in-Ok-true.is ∙ ap Ok c.in-Ok-true.field-0-test) in
    let first : IsFinished old mid = subst (λ (w : World). IsFinished old w) (sym c.in_ok-step.ensures.same) fin in
    let s = c.in-Some.step in
    let begun = world g.F.Fleet.state c.step.new.self in
    let begins : IsBegin s = subst (λ (o : Option Step). IfSome o IsBegin) c.in-Some.is c.in_ok-step.ensures.some in
    let is : IsTendStep mid.knows s = inr (first.idle, begins) in
    let lived : LivesOn old.knows mid.knows [] =
    subst (λ (w : World). LivesOn old.knows w.knows []) (sym c.in_ok-step.ensures.same) c.finish.ensures.goes_on in
    let goes_on : LivesOn old.knows begun.knows [] =
    goes_further old.knows mid.knows begun.knows lived
    (step_goes_on s (no_record mid.knows s is) mid begun c.step.result c.step.ensures.gives c.step.ensures.keeps) in
    let r = c.in-Err-step.refusal in
    record {
      round = until_on first.count old mid r begun (continued_tended first.count old mid first.continued)
          (until_step mid s r begun is c.in-Err-step.ensures.gives (unlost r c.in_default-refusal.not-Lost));
      goes_on = goes_on;
      spent = λ spent. (step_spent s (no_record mid.knows s is) mid begun r c.in-Err-step.ensures.gives spent).0;
    }

pub returns-in-Ok-true-finish-clause-round : goal.returns-in-Ok-true-finish-clause-round
returns-in-Ok-true-finish-clause-round g c =
    let old = world g.F.Fleet.state c.args.master.now in
    let mid = world g.F.Fleet.state c.begin.new.master in
    let fin : IsFinished old (world g.F.Fleet.state c.finish.new.master) =
    c.finish.ensures.finished (c.in-Ok-true.is ∙ ap Ok c.in-Ok-true.field-0-test) in
    let first : IsFinished old mid = subst (λ (w : World). IsFinished old w) (sym c.in_ok-step.ensures.same) fin in
    let s = c.in-Some.step in
    let begun = world g.F.Fleet.state c.step.new.self in
    let begins : IsBegin s = subst (λ (o : Option Step). IfSome o IsBegin) c.in-Some.is c.in_ok-step.ensures.some in
    let is : IsTendStep mid.knows s = inr (first.idle, begins) in
    let goes : Advances s mid begun =
    elim c.match-step.branch [
      | in-Err-step+in-Lost w ↦ goes_lost s mid begun w.in-Err-step.refusal w.in-Lost.field-0 w.in-Lost.is
          w.in-Err-step.ensures.gives
      | in_default-step+in-Ok-this+in-Applied+in-Found-1 w ↦ goes_ok s mid begun c.step.result
          w.in_default-step.field-0 w.in_default-step.is c.step.ensures.gives
      | in_default-step+in-Ok-this+in-Applied+in-None-1 w ↦ goes_ok s mid begun c.step.result
          w.in_default-step.field-0 w.in_default-step.is c.step.ensures.gives
      | in_default-step+in-Ok-this+in-Extended-1 w ↦ goes_ok s mid begun c.step.result
          w.in_default-step.field-0 w.in_default-step.is c.step.ensures.gives
      | in_default-step+in-Err-1 w ↦ goes_ok s mid begun c.step.result
          w.in_default-step.field-0 w.in_default-step.is c.step.ensures.gives
    ] in
    let ends = c.finish-2.ensures.finished (c.in-Ok-true-finish.is ∙ ap Ok c.in-Ok-true-finish.field-0-test) in
    inl (
      inr (mid, first, begun, s, begins, goes, ends),
      ap₂ nat_lt c.free_seglets-free.ensures c.free_seglets-in-Ok-true-finish.ensures,
    )

pub returns-in-Ok-false-finish-clause-round : goal.returns-in-Ok-false-finish-clause-round
returns-in-Ok-false-finish-clause-round g c =
    let old = world g.F.Fleet.state c.args.master.now in
    let mid = world g.F.Fleet.state c.begin.new.master in
    let fin : IsFinished old (world g.F.Fleet.state c.finish.new.master) =
    c.finish.ensures.finished (c.in-Ok-true.is ∙ ap Ok c.in-Ok-true.field-0-test) in
    let first : IsFinished old mid = subst (λ (w : World). IsFinished old w) (sym c.in_ok-step.ensures.same) fin in
    let s = c.in-Some.step in
    let begun = world g.F.Fleet.state c.step.new.self in
    let begins : IsBegin s = subst (λ (o : Option Step). IfSome o IsBegin) c.in-Some.is c.in_ok-step.ensures.some in
    let is : IsTendStep mid.knows s = inr (first.idle, begins) in
    let goes : Advances s mid begun =
    elim c.match-step.branch [
      | in-Err-step+in-Lost w ↦ goes_lost s mid begun w.in-Err-step.refusal w.in-Lost.field-0 w.in-Lost.is
          w.in-Err-step.ensures.gives
      | in_default-step+in-Ok-this+in-Applied+in-Found-1 w ↦ goes_ok s mid begun c.step.result
          w.in_default-step.field-0 w.in_default-step.is c.step.ensures.gives
      | in_default-step+in-Ok-this+in-Applied+in-None-1 w ↦ goes_ok s mid begun c.step.result
          w.in_default-step.field-0 w.in_default-step.is c.step.ensures.gives
      | in_default-step+in-Ok-this+in-Extended-1 w ↦ goes_ok s mid begun c.step.result
          w.in_default-step.field-0 w.in_default-step.is c.step.ensures.gives
      | in_default-step+in-Err-1 w ↦ goes_ok s mid begun c.step.result
          w.in_default-step.field-0 w.in_default-step.is c.step.ensures.gives
    ] in
    let tended : AreTended (suc first.count) old begun =
    (mid, continued_tended first.count old mid first.continued, s, is, goes) in
    let last = world g.F.Fleet.state c.finish-2.new.master in
    let gives_up = c.finish-2.ensures.given_up (c.in-Ok-false-finish.is ∙ ap Ok c.in-Ok-false-finish.field-0-test) in
    inr (given_up_on (suc first.count) old begun last tended gives_up, refl)

pub returns-in-Err-finish-clause-round : goal.returns-in-Err-finish-clause-round
returns-in-Err-finish-clause-round g c =
    let old = world g.F.Fleet.state c.args.master.now in
    let mid = world g.F.Fleet.state c.begin.new.master in
    let fin : IsFinished old (world g.F.Fleet.state c.finish.new.master) =
    c.finish.ensures.finished (c.in-Ok-true.is ∙ ap Ok c.in-Ok-true.field-0-test) in
    let first : IsFinished old mid = subst (λ (w : World). IsFinished old w) (sym c.in_ok-step.ensures.same) fin in
    let s = c.in-Some.step in
    let begun = world g.F.Fleet.state c.step.new.self in
    let begins : IsBegin s = subst (λ (o : Option Step). IfSome o IsBegin) c.in-Some.is c.in_ok-step.ensures.some in
    let is : IsTendStep mid.knows s = inr (first.idle, begins) in
    let goes : Advances s mid begun =
    elim c.match-step.branch [
      | in-Err-step+in-Lost w ↦ goes_lost s mid begun w.in-Err-step.refusal w.in-Lost.field-0 w.in-Lost.is
          w.in-Err-step.ensures.gives
      | in_default-step+in-Ok-this+in-Applied+in-Found-1 w ↦ goes_ok s mid begun c.step.result
          w.in_default-step.field-0 w.in_default-step.is c.step.ensures.gives
      | in_default-step+in-Ok-this+in-Applied+in-None-1 w ↦ goes_ok s mid begun c.step.result
          w.in_default-step.field-0 w.in_default-step.is c.step.ensures.gives
      | in_default-step+in-Ok-this+in-Extended-1 w ↦ goes_ok s mid begun c.step.result
          w.in_default-step.field-0 w.in_default-step.is c.step.ensures.gives
      | in_default-step+in-Err-1 w ↦ goes_ok s mid begun c.step.result
          w.in_default-step.field-0 w.in_default-step.is c.step.ensures.gives
    ] in
    let tended : AreTended (suc first.count) old begun =
    (mid, continued_tended first.count old mid first.continued, s, is, goes) in
    let last = world g.F.Fleet.state c.finish-2.new.master in
    until_on (suc first.count) old begun c.in-Err-finish.refusal last tended c.in-Err-finish.ensures.refused

pub returns-in-Err-finish-clause-goes_on : goal.returns-in-Err-finish-clause-goes_on
returns-in-Err-finish-clause-goes_on g c =
    let old = world g.F.Fleet.state c.args.master.now in
    let mid = world g.F.Fleet.state c.begin.new.master in
    let fin : IsFinished old (world g.F.Fleet.state c.finish.new.master) =
    c.finish.ensures.finished (c.in-Ok-true.is ∙ ap Ok c.in-Ok-true.field-0-test) in
    let first : IsFinished old mid = subst (λ (w : World). IsFinished old w) (sym c.in_ok-step.ensures.same) fin in
    let s = c.in-Some.step in
    let begun = world g.F.Fleet.state c.step.new.self in
    let begins : IsBegin s = subst (λ (o : Option Step). IfSome o IsBegin) c.in-Some.is c.in_ok-step.ensures.some in
    let is : IsTendStep mid.knows s = inr (first.idle, begins) in
    let lived : LivesOn old.knows mid.knows [] =
    subst (λ (w : World). LivesOn old.knows w.knows []) (sym c.in_ok-step.ensures.same) c.finish.ensures.goes_on in
    let goes_on : LivesOn old.knows begun.knows [] =
    goes_further old.knows mid.knows begun.knows lived
    (step_goes_on s (no_record mid.knows s is) mid begun c.step.result c.step.ensures.gives c.step.ensures.keeps) in
    let last = world g.F.Fleet.state c.finish-2.new.master in
    goes_further old.knows begun.knows last.knows goes_on c.in-Err-finish.ensures.goes_on
