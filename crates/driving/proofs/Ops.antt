-- What an op that was taken, or that failed, leaves of a fleet's counts.
use Rattle.std.proofs.Common.{◌≡◌, ◌<◌, ◌≤◌, ◌+◌, ◌-◌, ℕ, Bool, true, false, sym, ap, inl, inr, ◌∙◌}
use Rattle.std.proofs.Common.{arith}
use Rattle.std.specs.Prelude.{Option, Some, None, if◌then◌else◌, nat_lt, unwrap_or}
use Rattle.replica.specs.declared.op.TakeFault.TheVariants as take_fault
use Rattle.replica.specs.Op.{OpValue}
use Rattle.replica.specs.Picture.{Replica, FleetState}
use Rattle.replica.specs.Registry.{RefusesRaise}
use Rattle.replica.specs.Take.{Refuses, effect, taken, with_effect}
use Rattle.master.specs.log_laws.Ops.{op_of}
use Rattle.master.specs.log_laws.Shown.{Op, On, Raise}
use Rattle.master.specs.log_bytes.Ops.{RefusesOp, TakesOp, log_op_for}

-- what an op leaves of the counts
pub record IsCounted (old new : FleetState) : Type 0 where
  pub backups : new.backups ≡ old.backups
  pub takes : new.takes ≡ old.takes + 1
  pub end : new.end ≡ old.end

taken_counts : (old : FleetState) (b : ℕ) (op : OpValue) (new : FleetState) → taken old b op ≡ Some new
    → IsCounted old new
taken_counts old b op new is = go (nat_lt b old.backups) (effect op.act (old.picture b op.master op.segment)) is
  where
    go : (there : Bool) (r : Option (Option Replica)) → (if there then with_effect old b op r else None) ≡ Some new
        → IsCounted old new
    go true (Some r) e = record {
      backups = sym (ap (λ (o : Option FleetState). (unwrap_or o new).backups) e);
      takes = sym (ap (λ (o : Option FleetState). (unwrap_or o new).takes) e);
      end = sym (ap (λ (o : Option FleetState). (unwrap_or o new).end) e);
    }
    go true None e = absurd (cc)
    go false r e = absurd (cc)

pub op_counts : (master : ℕ) (old : FleetState) (o : Op) (new : FleetState) → TakesOp master old o new
    → IsCounted old new
op_counts master old (On b s act) new takes = taken_counts old b (op_of master (log_op_for master b s act)) new takes.1
op_counts master old (Raise id) new takes = record {
  backups = ap (λ (f : FleetState). f.backups) takes.1;
  takes = ap (λ (f : FleetState). f.takes) takes.1;
  end = ap (λ (f : FleetState). f.end) takes.1;
}

op_left : (master : ℕ) (old : FleetState) (o : Op) (new : FleetState) → TakesOp master old o new
    → old.takes < old.end
op_left master old (On b s act) new takes = takes.0
op_left master old (Raise id) new takes = takes.0

-- fewer are left to a fleet that took one
pub fewer_to_take : (master : ℕ) (old : FleetState) (o : Op) (new : FleetState) → TakesOp master old o new
    → new.end - new.takes < old.end - old.takes
fewer_to_take master old o new takes =
    let counts = op_counts master old o new takes in
    let more = counts.takes in
    let same = counts.end in
    let left = op_left master old o new takes in
    omega arith

-- ---- a fault

-- what a fault leaves of the counts
pub record IsFaulted (old new : FleetState) : Type 0 where
  pub backups : new.backups ≡ old.backups
  pub end : new.end ≡ old.end
  pub takes : old.takes ≤ new.takes

fault_same : (old mid new : FleetState) → IsCounted old mid → new.backups ≡ mid.backups → new.end ≡ mid.end
    → new.takes ≡ mid.takes → IsFaulted old new
fault_same old mid new counts backups end takes =
    let more = counts.takes in
    record { backups = backups ∙ counts.backups; end = end ∙ counts.end; takes = omega arith }

fault_counts : (old : FleetState) (b : ℕ) (op : OpValue) (new : FleetState) → Refuses old b op take_fault.Fault new
    → IsFaulted old new
fault_counts old b op new (inl same) =
    let takes = ap (λ (f : FleetState). f.takes) same in record {
      backups = ap (λ (f : FleetState). f.backups) same;
      end = ap (λ (f : FleetState). f.end) same;
      takes = omega arith;
    }
fault_counts old b op new (inr took) =
    fault_same old took.0 new (taken_counts old b op took.0 took.1.1) (ap (λ (f : FleetState). f.backups) took.2)
    (ap (λ (f : FleetState). f.end) took.2) (ap (λ (f : FleetState). f.takes) took.2)

raise_counts : (master : ℕ) (old : FleetState) (id : ℕ) (new : FleetState)
    → RefusesRaise old master id take_fault.Fault new → IsFaulted old new
raise_counts master old id new (inl same) =
    let takes = ap (λ (f : FleetState). f.takes) same in record {
      backups = ap (λ (f : FleetState). f.backups) same;
      end = ap (λ (f : FleetState). f.end) same;
      takes = omega arith;
    }
raise_counts master old id new (inr took) =
    fault_same old took.0 new (op_counts master old (Raise id) took.0 took.1)
    (ap (λ (f : FleetState). f.backups) took.2) (ap (λ (f : FleetState). f.end) took.2)
    (ap (λ (f : FleetState). f.takes) took.2)

pub failed_counts : (master : ℕ) (old : FleetState) (o : Op) (new : FleetState)
    → RefusesOp master old o take_fault.Fault new → IsFaulted old new
failed_counts master old (On b s act) new refuses =
    fault_counts old b (op_of master (log_op_for master b s act)) new refuses
failed_counts master old (Raise id) new refuses = raise_counts master old id new refuses
