-- Steps that go on without a backup that failed in them, and what each step leaves to do.
use Rattle.std.proofs.Common.{◌≡◌, ◌<◌, ◌≤◌, ◌+◌, ◌-◌, ℕ, Bool, true, false, List, length, refl, ap}
use Rattle.std.proofs.Common.{subst, inl, inr, arith}
use Rattle.std.proofs.lemmas.Bool.{and_parts, ltb-true}
use Rattle.std.specs.Prelude.{Option, Some, None, Result, Ok, is_none, is_some, ◌==◌, ◌&&◌, nat_lt}
use Rattle.std.specs.Prelude.{if◌then◌else◌, ◌⊎◌}
use Rattle.master.specs.log_laws.Shown.{Op}
use Rattle.versioned_map.specs.declared.command.Record.{Record}
use Rattle.master.specs.master_state.declared.config.Config.{Config}
use Rattle.master.specs.master_state.declared.step.Refusal.{Refusal}
use Rattle.master.specs.master_state.declared.step.Refusal.TheVariants as refusal
use Rattle.master.specs.master_state.declared.step.Step.{Step}
use Rattle.master.specs.master_state.declared.step.Step.TheVariants.{Push, Seal, Free, Copy, BeginRoll}
use Rattle.master.specs.master_state.declared.step.StepAnswer.{StepAnswer}
use Rattle.master.specs.master_state.Causes.{is_done, step_refusal}
use Rattle.master.specs.master_state.Data.{MasterData}
use Rattle.master.specs.master_state.Steps.{lost_data}
use Rattle.master.specs.Passes.{IsFreeOp, IsSealOp}
use Rattle.master.specs.Steps.{Accepts, Declines, FailsTake, IsPushOp, Steps}
use Rattle.master.specs.World.{World}
use Rattle.driving.specs.Rolls.{Advances, is_lost}
use Rattle.driving.proofs.MasterSteps.{accepted_fixed, first_never, push_tested}
use Rattle.driving.proofs.Ops.{IsFaulted, failed_counts, fewer_to_take}

-- ---- a step goes on

pub goes_ok : (s : Step) (old new : World) (r : Result StepAnswer Refusal) (a : StepAnswer) → r ≡ Ok a
    → Steps old s r new → Advances s old new
goes_ok s old new r a is steps =
    inl (a, subst (λ (x : Result StepAnswer Refusal). Steps old s x new) is steps)

pub goes_lost : (s : Step) (old new : World) (r : Refusal) (b : ℕ) → r ≡ refusal.Lost b → Declines old s r new
    → Advances s old new
goes_lost s old new r b is declines = inr (b, subst (λ (x : Refusal). Declines old s x new) is declines)

-- ---- a lost backup

-- No failover was open, and as many backups as replicas are left besides.
pub record IsLoss (old : World) (b : ℕ) (new : World) : Type 0 where
  pub calm : old.knows.failover ≡ None
  pub few : length old.knows.failed < old.knows.config.backups
  pub knows : new.knows ≡ lost_data old.knows b
  pub counts : IsFaulted old.fleet new.fleet

pub none_is : {A : Type 0} (o : Option A) → is_none o ≡ true → o ≡ None
none_is None e = refl
none_is (Some x) e = absurd (cc)

take_lost : (IsOp : Op → Type 0) (old new : World) (b : ℕ) → FailsTake IsOp old (refusal.Lost b) new → IsLoss old b new
take_lost IsOp old new b h =
    let d = old.knows in
    let parts = and_parts ((d.config.format == 2) && is_none d.failover)
    (nat_lt (length d.failed + d.config.replicas) d.config.backups) h.0 in
    let front = and_parts (d.config.format == 2) (is_none d.failover) parts.0 in
    let less = ltb-true (length d.failed + d.config.replicas) d.config.backups parts.1 in
    record {
      calm = none_is d.failover front.1;
      few = omega arith;
      knows = h.1;
      counts = failed_counts d.config.master old.fleet h.2.0 new.fleet h.2.3;
    }

pub push_lost : (old new : World) (b : ℕ) → Declines old Push (refusal.Lost b) new → IsLoss old b new
push_lost old new b (inl h) =
    absurd (tested (push_tested old.knows.is_halted (is_done old.knows) (refusal.Lost b) h.0))
  where
    tested : (refusal.Lost b ≡ refusal.Halted) ⊎ ((refusal.Lost b ≡ refusal.Nothing) × (is_done old.knows ≡ true)) → ⊥
    tested (inl is) = cc
    tested (inr both) = let never = both.0 in cc
push_lost old new b (inr (test, inl h)) = let never = h.2 in absurd (cc)
push_lost old new b (inr (test, inr (inl h))) = let never = h.2 in absurd (cc)
push_lost old new b (inr (test, inr (inr h))) = take_lost (IsPushOp old) old new b h.1

idle_lost : (b : ℕ) (none : Bool) → (if none then Some refusal.Nothing else None) ≡ Some (refusal.Lost b) → ⊥
idle_lost b true e = cc
idle_lost b false e = cc

never_lost : (b : ℕ) (d : MasterData) (rest : Option Refusal) → (rest ≡ Some (refusal.Lost b) → ⊥)
    → (if is_some (step_refusal d) then step_refusal d else rest) ≡ Some (refusal.Lost b) → ⊥
never_lost b d rest others e = first_never (refusal.Lost b) (λ h. cc) (λ h. cc) d rest others e

pub seal_lost : (old new : World) (b : ℕ) → Declines old Seal (refusal.Lost b) new → IsLoss old b new
seal_lost old new b (inl h) = absurd (never_lost b old.knows _ (idle_lost b _) h.0)
seal_lost old new b (inr h) = take_lost (IsSealOp old.knows) old new b h.1

pub free_lost : (old new : World) (b : ℕ) → Declines old Free (refusal.Lost b) new → IsLoss old b new
free_lost old new b (inl h) = absurd (never_lost b old.knows _ (idle_lost b _) h.0)
free_lost old new b (inr h) = take_lost (IsFreeOp old.knows) old new b h.1

-- no backup fails in a copy, nor in the begin of a roll
pub copy_unlost : (old new : World) (b : ℕ) → Declines old Copy (refusal.Lost b) new → ⊥
copy_unlost old new b (same, test) = never_lost b old.knows _ (waits _) test
  where
    waits : (left : Bool) → (if left then None else Some refusal.Nothing) ≡ Some (refusal.Lost b) → ⊥
    waits true e = cc
    waits false e = cc

pub begin_unlost : (old new : World) (b : ℕ) → Declines old BeginRoll (refusal.Lost b) new → ⊥
begin_unlost old new b (same, inl test) = tested _ _ _ _ test
  where
    tested : (halted opened spent may : Bool)
        → (if halted then Some refusal.Halted else if opened then Some refusal.Rolling
        else if spent then Some refusal.SegmentsSpent else if may then Some refusal.Full else None)
        ≡ Some (refusal.Lost b) → ⊥
    tested true opened spent may e = cc
    tested false true spent may e = cc
    tested false false true may e = cc
    tested false false false true e = cc
    tested false false false false e = cc
begin_unlost old new b (same, inr memory) = let none = memory.1 in cc

-- ---- what is left to do

-- the ops that the fleet may still take, and the backups that may still fail
abbrev pub ops_left : World → ℕ
ops_left w = w.fleet.end - w.fleet.takes

abbrev pub backups_left : World → ℕ
backups_left w = w.knows.config.backups - length w.knows.failed

abbrev pub left_to_push : World → ℕ
left_to_push w = ops_left w + backups_left w

abbrev backups_in : Config × List Record × List ℕ → ℕ
backups_in f = f.0.backups - length f.2

-- a lost backup leaves one less, and no more ops
pub loss_lowers : (old new : World) (b : ℕ) → IsLoss old b new
    → (backups_left new < backups_left old) × (ops_left new ≤ ops_left old)
loss_lowers old new b h =
    let same = ap (λ (d : MasterData). d.config.backups) h.knows in
    let more = ap (λ (d : MasterData). length d.failed) h.knows in
    let few = h.few in
    let end = h.counts.end in
    let takes = h.counts.takes in (omega arith, omega arith)

-- a push that is accepted is counted
pub push_counts : (old new : World) (a : StepAnswer) → Accepts old Push a new → ops_left new < ops_left old
push_counts old new a push = fewer_to_take old.knows.config.master old.fleet push.op new.fleet push.takes

-- each push that goes on lowers it
pub push_lowers : (old new : World) → Advances Push old new → left_to_push new < left_to_push old
push_lowers old new (inl (a, push)) =
    let counts = push_counts old new a push in
    let same = ap backups_in (accepted_fixed old new a push) in
    omega arith
push_lowers old new (inr (b, push)) =
    let less = loss_lowers old new b (push_lost old new b push) in
    let backups = less.0 in
    let ops = less.1 in
    omega arith

-- a refusal that tells of no failed backup
pub unlost : (r : Refusal) → ((b : ℕ) → r ≡ refusal.Lost b → ⊥) → is_lost r ≡ false
unlost (refusal.Lost b) other = absurd (other b refl)
unlost refusal.TooBig other = refl
unlost refusal.Full other = refl
unlost refusal.VersionsSpent other = refl
unlost refusal.HistoryFull other = refl
unlost refusal.NoMemory other = refl
unlost refusal.Halted other = refl
unlost refusal.Rolling other = refl
unlost refusal.Nothing other = refl
unlost (refusal.Pass fault) other = refl
unlost refusal.Spent other = refl
unlost refusal.SegmentsSpent other = refl
unlost refusal.NoTablet other = refl
unlost refusal.Overcommit other = refl
