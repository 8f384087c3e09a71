use Rattle.std.proofs.Common.{◌≡◌, ℕ, false, refl, sym, ap, subst, ◌∙◌}
use Rattle.std.specs.Prelude.{Option, Some, None, IsSome, is_none, if◌then◌else◌}
use Rattle.std.specs.Result.{result_err}
use Rattle.log_head.specs.log_laws.Ids.{has}
use Rattle.log_head.specs.log_laws.Ops.{op_of}
use Rattle.master_core.specs.log_laws.Shown.{Free as FreeAct}
use Rattle.master_core.specs.log_bytes.Ops.{log_op_for}
use Rattle.replica.specs.Op.{OpValue}
use Rattle.replica.specs.Op as op
use Rattle.replica.specs.Picture.{FleetState}
use Rattle.replica.specs.Take.{Takes, Refuses}
use Rattle.replica.specs.declared.op.TakeFault.{TakeFault}
use Rattle.master_core.specs.master_state.declared.step.Refusal.TheVariants.{Nothing}
use Rattle.master_core.specs.master_state.declared.step.Step.TheVariants.{Free}
use Rattle.master_core.specs.master_state.declared.step.StepAnswer.TheVariants.{Freed}
use Rattle.master_core.specs.master_state.Causes.{free_refusal, step_refusal}
use Rattle.master_core.specs.master_state.Data.{MasterData}
use Rattle.master_core.specs.master_state.Invariant.{IsCore}
use Rattle.master_core.specs.master_state.Log.{home}
use Rattle.master_core.specs.master_state.Steps.{freed_data, refusal_of, failed_data}
use Rattle.master_core.proofs.master_state.Calm.{calm_parts}
use Rattle.master.specs.Invariant.{IsWellKept}
use Rattle.master.specs.Passes.{Frees}
use Rattle.master.specs.Steps.{Declines}
use Rattle.master.proofs.Freed.{WaitsFirst, first_free, freed_kept, free_accepted, free_works, free_not_wrong}
use Rattle.master.proofs.Freed.{free_failed, free_declined}
use Rattle.master.proofs.master.Master.free.Given as given
use Rattle.master.proofs.master.Master.free.Goals as goal
use Rattle.master.proofs.master.Master.free.Goals.{After-take}

-- the op that the fleet was handed is the next free
module _ (g : given.Over) (c : goal.After-take g) where
  abbrev d : MasterData
  d = c.self.inside.core

  abbrev f : FleetState
  f = g.F.Fleet.state c.self.inside.fleet

  abbrev after : FleetState
  after = g.F.Fleet.state c.take.new.self

  kept : IsWellKept d f
  kept = c.self.invariant

  step : step_refusal d ≡ None
  step = sym c.admit.ensures ∙ ap result_err c.in_ok-admit.was

  passed : free_refusal d ≡ None
  passed =
      c.to_free.ensures.refused step
      ∙ ap (λ (x : Option (ℕ × ℕ)). if is_none x then Some Nothing else None) c.in-Some.is

  first : WaitsFirst d c.in-Some.segment c.in-Some.replica
  first = first_free d c.in-Some.segment c.in-Some.replica (sym c.to_free.ensures.next ∙ c.in-Some.is)

  abbrev home_now : ℕ
  home_now = home d.config d.failed first.waiting.segment first.waiting.freed

  abbrev bytes : OpValue
  bytes = op_of d.config.master (log_op_for d.config.master home_now first.waiting.segment FreeAct)

  abbrev handed : OpValue
  handed = record { master = c.master.result; segment = c.in-Some.segment; act = op.Free }

  op_is : handed ≡ bytes
  op_is = λ i. op_of (c.master.ensures i)
      (log_op_for (c.master.ensures i) home_now (sym first.segment i) FreeAct)

  backup : c.home-backup.result ≡ home_now
  backup = c.home-backup.ensures.home ∙ (λ i. home d.config d.failed (sym first.segment i) (sym first.replica i))

  takes : Takes f c.home-backup.result handed after → Takes f home_now bytes after
  takes = subst (λ (x : ℕ × OpValue). Takes f x.0 x.1 after) (λ i. (backup i, op_is i))

  refuses : (x : TakeFault) → Refuses f c.home-backup.result handed x after → Refuses f home_now bytes x after
  refuses x = subst (λ (y : ℕ × OpValue). Refuses f y.0 y.1 x after) (λ i. (backup i, op_is i))

  accepted : Takes f c.home-backup.result handed after
      → Frees (record { knows = d; fleet = f }) (Freed c.in-Some.segment c.home-backup.result)
      (record { knows = freed_data d; fleet = after })
  accepted took =
      subst (λ (x : ℕ × ℕ). Frees (record { knows = d; fleet = f }) (Freed x.0 x.1)
      (record { knows = freed_data d; fleet = after })) (λ i. (first.segment i, sym backup i))
      (free_accepted d f kept passed first.waiting first.later first.first after (takes took))

  failed : (x : TakeFault) → Refuses f c.home-backup.result handed x after
      → IsWellKept (failed_data d c.home-backup.result x) after
  failed x refused =
      subst (λ (b : ℕ). IsWellKept (failed_data d b x) after) (sym backup)
      (free_failed d f kept passed first.waiting first.later first.first after x (refuses x refused))

  declined : (x : TakeFault) → Refuses f c.home-backup.result handed x after
      → Declines (record { knows = d; fleet = f }) Free (refusal_of d c.home-backup.result x)
      (record { knows = failed_data d c.home-backup.result x; fleet = after })
  declined x refused =
      subst (λ (b : ℕ). Declines (record { knows = d; fleet = f }) Free (refusal_of d b x)
      (record { knows = failed_data d b x; fleet = after })) (sym backup)
      (free_declined d f kept passed first.waiting first.later first.first after x (refuses x refused))

  works : has d.failed c.home-backup.result ≡ false
  works =
      ap (has d.failed) backup ∙ free_works d kept.core kept.apart first.waiting first.later first.first
      (calm_parts d step).1

pub freed-requires : goal.freed-requires
freed-requires g c = subst (λ (x : Option (ℕ × ℕ)). IsSome x) (sym (sym c.to_free.ensures.next ∙ c.in-Some.is)) refl

pub invariant_of-self : goal.invariant_of-self
invariant_of-self g c =
    let t = (goal.at.invariant_of-self g c).After-take in
    let x = first g t in
    subst (λ (m : MasterData). IsWellKept m (after g t)) (sym c.freed.ensures.freed)
    (freed_kept (d g t) (f g t) (kept g t) (passed g t) x.waiting x.later x.first (after g t)
    (subst IsCore c.freed.ensures.freed c.freed.ensures.valid) (takes g t c.in-Ok.ensures))

pub fail-requires : goal.fail-requires
fail-requires g c =
    let t = (goal.at.fail-requires g c).After-take in
    let x = first g t in
    record {
      right = free_not_wrong (d g t) (f g t) (kept g t) (passed g t) x.waiting x.later x.first (after g t)
          c.in-Err.fault (refuses g t c.in-Err.fault c.in-Err.ensures);
      there = c.home-backup.ensures.there;
      works = works g t;
    }

pub invariant_of-self-in-Err : goal.invariant_of-self-in-Err
invariant_of-self-in-Err g c =
    let t = (goal.at.invariant_of-self-in-Err g c).After-take in
    subst (λ (m : MasterData). IsWellKept m (after g t)) (sym c.fail.ensures.failed)
    (failed g t c.in-Err.fault c.in-Err.ensures)

pub returns-in-Ok-clause-accepted : goal.returns-in-Ok-clause-accepted
returns-in-Ok-clause-accepted g c =
    let t = (goal.at.returns-in-Ok-clause-accepted g c).After-take in
    rw (← c.self.view_is, c.freed.ensures.freed) (accepted g t c.in-Ok.ensures)

pub returns-in-Err-clause-refused : goal.returns-in-Err-clause-refused
returns-in-Err-clause-refused g c =
    let t = (goal.at.returns-in-Err-clause-refused g c).After-take in
    rw (← c.self.view_is, c.fail.ensures.answer, c.fail.ensures.failed)
    (declined g t c.in-Err.fault c.in-Err.ensures)
