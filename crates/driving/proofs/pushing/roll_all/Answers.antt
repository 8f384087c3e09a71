use Rattle.std.proofs.Common.{◌≡◌, inl}
use Rattle.std.specs.Prelude.{IfErr, IfOk}
use Rattle.master.specs.master_state.declared.step.Refusal.TheVariants.{Spent}
use Rattle.driving.specs.Rolls.{IsNotRolled, IsRolled}
use Rattle.driving.specs.Served.{IsSpent}
use Rattle.driving.proofs.Heads.{all_rolled, begun, none_rolled, under_way}
use Rattle.driving.proofs.MasterSteps.{spent_begin}
use Rattle.driving.proofs.pushing.roll_all.Goals.{in-Ok, in-Err+in-Rolling, in-Err+in_default}
use Rattle.driving.proofs.pushing.roll_all.Goals as goal

pub returns-clause-goes_on : goal.returns-clause-goes_on
returns-clause-goes_on g c =
    let world = g.D.Driven.world in
    let before = world c.args.master.now in
    let joined = g.met.D.Driven.further before (world c.begin_roll.new.self) in
    elim c.match-begin_roll.branch as (λ _. g.D.Driven.goes_on before (world c.match-begin_roll.master)) [
      | in-Ok w ↦ rw w.master-is (joined _ c.begin_roll.ensures.goes_on w.push_all.ensures.goes_on)
      | in-Err+in-Rolling w ↦
          rw w.master-is (joined _ c.begin_roll.ensures.goes_on w.push_all-in-Rolling.ensures.goes_on)
      | in-Err+in_default w ↦ rw w.master-is c.begin_roll.ensures.goes_on
    ]

pub returns-clause-rolled : goal.returns-clause-rolled
returns-clause-rolled g c =
    let world = g.D.Driven.world in
    let before = world c.args.master.now in
    let after = world c.match-begin_roll.master in
    elim c.match-begin_roll.branch as
    (λ _. IfOk c.match-begin_roll.result (λ _. IsRolled before after.knows.head.id after)) [
      | in-Ok w ↦ rw (w.result-is, w.master-is)
          (all_rolled _ _ _ w.push_all.result (begun _ _ _ _ w.in-Ok.is c.begin_roll.ensures.gives)
          w.push_all.ensures.pushed)
      | in-Err+in-Rolling w ↦ rw (w.result-is, w.master-is)
          (all_rolled _ _ _ w.push_all-in-Rolling.result (under_way _ _ _ w.in-Rolling.is w.in-Err.ensures.gives)
          w.push_all-in-Rolling.ensures.pushed)
      | in-Err+in_default w ↦ rw w.result-is tt
    ]

pub returns-clause-refused : goal.returns-clause-refused
returns-clause-refused g c =
    let world = g.D.Driven.world in
    let before = world c.args.master.now in
    let after = world c.match-begin_roll.master in
    elim c.match-begin_roll.branch as (λ _. IfErr c.match-begin_roll.result (λ r. IsNotRolled before r after)) [
      | in-Ok w ↦ rw (w.result-is, w.master-is)
          (none_rolled _ _ _ w.push_all.result (begun _ _ _ _ w.in-Ok.is c.begin_roll.ensures.gives)
          w.push_all.ensures.refused w.push_all.ensures.waits)
      | in-Err+in-Rolling w ↦ rw (w.result-is, w.master-is)
          (none_rolled _ _ _ w.push_all-in-Rolling.result (under_way _ _ _ w.in-Rolling.is w.in-Err.ensures.gives)
          w.push_all-in-Rolling.ensures.refused w.push_all-in-Rolling.ensures.waits)
      | in-Err+in_default w ↦ rw (w.result-is, w.master-is) (inl (w.in-Err.ensures.gives, w.in_default.not-Rolling))
    ]

pub returns-clause-spent : goal.returns-clause-spent
returns-clause-spent g c =
    let after = g.D.Driven.world c.match-begin_roll.master in
    elim c.match-begin_roll.branch as
    (λ _. IfErr c.match-begin_roll.result (λ r. r ≡ Spent → IsSpent after.fleet)) [
      | in-Ok w ↦ rw (w.result-is, w.master-is) w.push_all.ensures.spent
      | in-Err+in-Rolling w ↦ rw (w.result-is, w.master-is) w.push_all-in-Rolling.ensures.spent
      | in-Err+in_default w ↦ rw w.result-is (λ is. absurd (spent_begin _ _ _ w.in-Err.ensures.gives is))
    ]
