use Rattle.std.proofs.Common.{◌≡◌, ℕ, ◌<◌, sym, ap, subst, ◌∙◌}
use Rattle.std.proofs.lemmas.Option.{same_Some}
use Rattle.replica.specs.Op.{OpValue, shown_op}
use Rattle.replica.specs.Picture.{FleetState}
use Rattle.replica.specs.Take.{Takes, Refuses}
use Rattle.replica.specs.declared.op.TakeFault.{TakeFault}
use Rattle.log_head.specs.log_laws.Ids.{has}
use Rattle.master_core.specs.master_failover.declared.push.Push.{Push as PushKind}
use Rattle.master_core.specs.master_failover.Mending.{backup_for, segment_for, pushed}
use Rattle.master_core.specs.master_state.declared.step.StepAnswer.{StepAnswer}
use Rattle.master_core.specs.master_state.Data.{MasterData}
use Rattle.master_core.specs.master_state.Invariant.{IsCore}
use Rattle.master_core.specs.master_state.Log.{home}
use Rattle.master_core.specs.master_state.Steps.{failed_data}
use Rattle.master.specs.Invariant.{StaysServed}
use Rattle.master.specs.Pushes.{Pushes, answer_for}
use Rattle.master.specs.World.{world_of}
use Rattle.master.proofs.Handing.{Handing, handing, op_segment}
use Rattle.master.proofs.pushing.hand.Given as given
use Rattle.master.proofs.pushing.hand.Goals as goal
use Rattle.master.proofs.pushing.hand.Goals.{After-take}

-- the op that the fleet was handed is that of the push
module _ (g : given.Over) (c : goal.After-take g) where
  abbrev d : MasterData
  d = c.args.core.now

  abbrev p : PushKind
  p = c.args.push

  abbrev f : FleetState
  f = g.F.Fleet.state c.args.fleet.now

  abbrev after : FleetState
  after = g.F.Fleet.state c.take.new.self

  is : Handing d f p
  is = handing d f c.requires.running c.requires.served p c.requires.next c.show_images.ensures c.requires.other

  handed : shown_op c.push_op-op.result ≡ is.bytes
  handed = same_Some (shown_op c.push_op-op.result) is.bytes (c.push_op-op.ensures ∙ is.op)

  segment : c.push_op-op.result.segment ≡ segment_for d p
  segment = op_segment d p c.requires.other (shown_op c.push_op-op.result) (sym c.push_op-op.ensures)

  backup : c.home-backup.result ≡ backup_for d p
  backup = c.home-backup.ensures.home ∙ (λ i. home d.config d.failed (segment i) (c.replica.ensures i))

  takes : Takes f c.home-backup.result (shown_op c.push_op-op.result) after → Takes f (backup_for d p) is.bytes after
  takes = subst (λ (x : ℕ × OpValue). Takes f x.0 x.1 after) (λ i. (backup i, handed i))

  refuses : (x : TakeFault) → Refuses f c.home-backup.result (shown_op c.push_op-op.result) x after
      → Refuses f (backup_for d p) is.bytes x after
  refuses x = subst (λ (y : ℕ × OpValue). Refuses f y.0 y.1 x after) (λ i. (backup i, handed i))

  accepted : IsCore (pushed d p) → Takes f c.home-backup.result (shown_op c.push_op-op.result) after
      → Pushes (world_of d f) (answer_for p c.home-backup.result c.push_op-op.result.segment)
      (world_of (pushed d p) after)
  accepted own took =
      subst (λ (x : StepAnswer). Pushes (world_of d f) x (world_of (pushed d p) after))
      (λ i. answer_for p (sym backup i) (sym segment i))
      (is.accepted own after (takes took))

pub home-backup-requires : goal.home-backup-requires
home-backup-requires g c =
    let d = c.args.core.now in
    let few = (handing d (g.F.Fleet.state c.args.fleet.now) c.requires.running c.requires.served c.args.push
    c.requires.next c.show_images.ensures c.requires.other).few in
    subst (λ (n : ℕ). n < d.config.replicas) (sym c.replica.ensures) few

pub fail-requires-clause-right : goal.fail-requires-clause-right
fail-requires-clause-right g c =
    let t = (goal.at.fail-requires-clause-right g c).After-take in
    (is g t).right (after g t) c.in-Err.fault (refuses g t c.in-Err.fault c.in-Err.ensures)

pub fail-requires-clause-works : goal.fail-requires-clause-works
fail-requires-clause-works g c =
    let t = (goal.at.fail-requires-clause-works g c).After-take in
    ap (has (d g t).failed) (backup g t) ∙ (is g t).works

pub took-requires-clause-segment : goal.took-requires-clause-segment
took-requires-clause-segment g c =
    let t = (goal.at.took-requires-clause-segment g c).After-take in segment g t

pub took-requires-clause-backup : goal.took-requires-clause-backup
took-requires-clause-backup g c =
    let t = (goal.at.took-requires-clause-backup g c).After-take in backup g t

pub returns-in-Ok-clause-accepted : goal.returns-in-Ok-clause-accepted
returns-in-Ok-clause-accepted g c =
    let t = (goal.at.returns-in-Ok-clause-accepted g c).After-take in
    let is = c.took.ensures.taken in
    rw (c.answer.ensures, is) (accepted g t (subst IsCore is c.took.ensures.valid) c.in-Ok.ensures)

pub returns-in-Ok-clause-served : goal.returns-in-Ok-clause-served
returns-in-Ok-clause-served g c =
    let t = (goal.at.returns-in-Ok-clause-served g c).After-take in
    let same = c.took.ensures.taken in
    subst (λ (x : MasterData). StaysServed (d g t) (f g t) x (after g t)) (sym same)
    ((is g t).taken (subst IsCore same c.took.ensures.valid) (after g t) (takes g t c.in-Ok.ensures))

pub returns-in-Err-clause-refused : goal.returns-in-Err-clause-refused
returns-in-Err-clause-refused g c =
    let t = (goal.at.returns-in-Err-clause-refused g c).After-take in
    rw (c.fail.ensures.answer, c.fail.ensures.failed, backup g t)
    ((is g t).declined (after g t) c.in-Err.fault (refuses g t c.in-Err.fault c.in-Err.ensures))

pub returns-in-Err-clause-served : goal.returns-in-Err-clause-served
returns-in-Err-clause-served g c =
    let t = (goal.at.returns-in-Err-clause-served g c).After-take in
    let same = c.fail.ensures.failed ∙ ap (λ (b : ℕ). failed_data (d g t) b c.in-Err.fault) (backup g t) in
    subst (λ (x : MasterData). StaysServed (d g t) (f g t) x (after g t)) (sym same)
    ((is g t).failed (after g t) c.in-Err.fault (refuses g t c.in-Err.fault c.in-Err.ensures))
