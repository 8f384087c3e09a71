use Rattle.std.proofs.Common.{◌≡◌, ℕ, refl, sym, ap, subst, ◌∙◌}
use Rattle.std.specs.Prelude.{Option, Some, None, IfSome, IsSome, is_none, if◌then◌else◌}
use Rattle.std.specs.Result.{result_err}
use Rattle.entry.specs.Bag.{IsAmong}
use Rattle.log_head.specs.log_laws.Ids.{has}
use Rattle.log_head.specs.log_laws.Ops.{op_of}
use Rattle.master_core.specs.log_laws.Shown.{Seal as SealAct}
use Rattle.master_core.specs.log_bytes.Ops.{log_op_for}
use Rattle.master_core.specs.log_memory.Memory.{text_in}
use Rattle.replica.specs.Op.{OpValue, shown_op}
use Rattle.replica.specs.Picture.{FleetState}
use Rattle.replica.specs.Take.{Takes, Refuses}
use Rattle.replica.specs.declared.op.TakeFault.{TakeFault}
use Rattle.master_core.specs.master_state.declared.step.Refusal.TheVariants.{Nothing}
use Rattle.master_core.specs.master_state.declared.step.Step.TheVariants.{Seal}
use Rattle.master_core.specs.master_state.declared.step.StepAnswer.TheVariants.{Sealed}
use Rattle.master_core.specs.master_state.Budget.{survivors_of}
use Rattle.master_core.specs.master_state.Causes.{seal_refusal, step_refusal}
use Rattle.master_core.specs.master_state.declared.ledger.Posting.TheVariants as posting
use Rattle.master_core.specs.master_state.Data.{MasterData}
use Rattle.master_core.specs.master_state.Invariant.{IsCore}
use Rattle.master_core.specs.master_state.Ledger.{posted}
use Rattle.master_core.specs.master_state.Log.{memory_of, home}
use Rattle.master_core.specs.master_state.Steps.{sealed_data, refusal_of, failed_data}
use Rattle.master_core.specs.master_state.Waits.{next_seal}
use Rattle.master.specs.Invariant.{IsWellKept}
use Rattle.master.specs.Passes.{Seals}
use Rattle.master.specs.Steps.{Declines}
use Rattle.master.proofs.Sealed.{bytes_are, sealed_kept, seal_accepted, seal_works, seal_not_wrong, seal_failed}
use Rattle.master.proofs.Sealed.{seal_declined}
use Rattle.master.proofs.master.Master.seal.Given as given
use Rattle.master.proofs.master.Master.seal.Goals as goal
use Rattle.master.proofs.master.Master.seal.Goals.{After-take}

-- the op that the fleet was handed is the next seal
module _ (g : given.Over) (c : goal.After-take g) where
  abbrev d : MasterData
  d = c.self.inside.core

  abbrev f : FleetState
  f = g.F.Fleet.state c.self.inside.fleet

  abbrev after : FleetState
  after = g.F.Fleet.state c.take.new.self

  kept : IsWellKept d f
  kept = c.self.invariant

  step : step_refusal d ≡ None
  step = sym c.admit.ensures ∙ ap result_err c.in_ok-admit.was

  passed : seal_refusal d ≡ None
  passed =
      c.to_seal.ensures.refused step
      ∙ ap (λ (x : Option (ℕ × ℕ)). if is_none x then Some Nothing else None) c.in-Some.is

  next : next_seal d ≡ Some (c.in-Some.survivor, c.in-Some.replica)
  next = sym c.to_seal.ensures.next ∙ c.in-Some.is

  abbrev home_now : ℕ
  home_now = home d.config d.failed c.in-Some.survivor c.in-Some.replica

  abbrev bytes : OpValue
  bytes = op_of d.config.master (log_op_for d.config.master home_now c.in-Some.survivor
      (SealAct (text_in (memory_of d) c.in-Some.survivor)))

  op : shown_op c.seal_op-op.result ≡ bytes
  op = c.seal_op-op.ensures ∙ bytes_are d f kept passed c.in-Some.survivor c.in-Some.replica next

  takes : Takes f c.home-backup.result (shown_op c.seal_op-op.result) after → Takes f home_now bytes after
  takes = subst (λ (x : ℕ × OpValue). Takes f x.0 x.1 after) (λ i. (c.home-backup.ensures.home i, op i))

  refuses : (x : TakeFault) → Refuses f c.home-backup.result (shown_op c.seal_op-op.result) x after
      → Refuses f home_now bytes x after
  refuses x = subst (λ (y : ℕ × OpValue). Refuses f y.0 y.1 x after) (λ i. (c.home-backup.ensures.home i, op i))

  -- what is known then, if it is posted for this backup
  abbrev sealed_for : ℕ → MasterData
  sealed_for b = sealed_data (posted d (posting.Took c.in-Some.survivor b))

  accepted : Takes f c.home-backup.result (shown_op c.seal_op-op.result) after
      → Seals (record { knows = d; fleet = f }) (Sealed c.home-backup.result)
      (record { knows = sealed_for c.home-backup.result; fleet = after })
  accepted took =
      subst (λ (b : ℕ). Seals (record { knows = d; fleet = f }) (Sealed b)
      (record { knows = sealed_for b; fleet = after })) (sym c.home-backup.ensures.home)
      (seal_accepted d f kept passed c.in-Some.survivor c.in-Some.replica next after (takes took))

  failed : (x : TakeFault) → Refuses f c.home-backup.result (shown_op c.seal_op-op.result) x after
      → IsWellKept (failed_data d c.home-backup.result x) after
  failed x refused =
      subst (λ (b : ℕ). IsWellKept (failed_data d b x) after) (sym c.home-backup.ensures.home)
      (seal_failed d f kept passed c.in-Some.survivor c.in-Some.replica next after x (refuses x refused))

  declined : (x : TakeFault) → Refuses f c.home-backup.result (shown_op c.seal_op-op.result) x after
      → Declines (record { knows = d; fleet = f }) Seal (refusal_of d c.home-backup.result x)
      (record { knows = failed_data d c.home-backup.result x; fleet = after })
  declined x refused =
      subst (λ (b : ℕ). Declines (record { knows = d; fleet = f }) Seal (refusal_of d b x)
      (record { knows = failed_data d b x; fleet = after })) (sym c.home-backup.ensures.home)
      (seal_declined d f kept passed c.in-Some.survivor c.in-Some.replica next after x (refuses x refused))

pub seal_op-op-requires : goal.seal_op-op-requires
seal_op-op-requires g c =
    subst (λ (x : Option (ℕ × ℕ)). IfSome x (λ (y : ℕ × ℕ). IsAmong y.0 (survivors_of c.self.inside.core.pass)))
    c.in-Some.is c.to_seal.ensures.survivor

pub sealed-requires : goal.sealed-requires
sealed-requires g c =
    subst (λ (m : MasterData). IsSome (next_seal m)) (sym c.post.ensures.posted)
    (subst (λ (x : Option (ℕ × ℕ)). IsSome x) (sym (sym c.to_seal.ensures.next ∙ c.in-Some.is)) refl)

pub invariant_of-self : goal.invariant_of-self
invariant_of-self g c =
    let t = (goal.at.invariant_of-self g c).After-take in
    let is = c.sealed.ensures.sealed ∙ ap sealed_data c.post.ensures.posted
    ∙ ap (sealed_for g t) c.home-backup.ensures.home in
    subst (λ (m : MasterData). IsWellKept m (after g t)) (sym is)
    (sealed_kept (d g t) (f g t) (kept g t) (passed g t) c.in-Some.survivor c.in-Some.replica (next g t) (after g t)
    (subst IsCore is c.sealed.ensures.valid) (takes g t c.in-Ok.ensures))

pub fail-requires : goal.fail-requires
fail-requires g c =
    let t = (goal.at.fail-requires g c).After-take in
    record {
      right = seal_not_wrong (d g t) (f g t) (kept g t) (passed g t) c.in-Some.survivor c.in-Some.replica (next g t)
          (after g t) c.in-Err.fault (refuses g t c.in-Err.fault c.in-Err.ensures);
      there = c.home-backup.ensures.there;
      works = ap (has (d g t).failed) c.home-backup.ensures.home
          ∙ seal_works (d g t) (kept g t).core c.in-Some.survivor c.in-Some.replica (next g t);
    }

pub invariant_of-self-in-Err : goal.invariant_of-self-in-Err
invariant_of-self-in-Err g c =
    let t = (goal.at.invariant_of-self-in-Err g c).After-take in
    subst (λ (m : MasterData). IsWellKept m (after g t)) (sym c.fail.ensures.failed)
    (failed g t c.in-Err.fault c.in-Err.ensures)

pub returns-in-Ok-clause-accepted : goal.returns-in-Ok-clause-accepted
returns-in-Ok-clause-accepted g c =
    let t = (goal.at.returns-in-Ok-clause-accepted g c).After-take in
    rw (← c.self.view_is, c.sealed.ensures.sealed, c.post.ensures.posted) (accepted g t c.in-Ok.ensures)

pub returns-in-Err-clause-refused : goal.returns-in-Err-clause-refused
returns-in-Err-clause-refused g c =
    let t = (goal.at.returns-in-Err-clause-refused g c).After-take in
    rw (← c.self.view_is, c.fail.ensures.answer, c.fail.ensures.failed)
    (declined g t c.in-Err.fault c.in-Err.ensures)
