-- A push that is handed to a backup, of the head or of a failover: what the take of its op makes of a master.
use Rattle.std.proofs.Common.{◌≡◌, ◌⊎◌, ◌<◌, inl, inr, false, refl, sym, ap, subst}
use Rattle.std.specs.Prelude.{Some, None}
use Rattle.std.proofs.lemmas.Option.{same_Some}
use Rattle.images.specs.Images.{AreWithin}
use Rattle.replica.specs.Op.{OpValue}
use Rattle.replica.specs.Picture.{FleetState}
use Rattle.replica.specs.Take.{Takes, Refuses}
use Rattle.replica.specs.declared.op.TakeFault.{TakeFault}
use Rattle.replica.specs.declared.op.TakeFault.TheVariants as take_fault
use Rattle.log_head.specs.declared.next.Next.{Next}
use Rattle.log_head.specs.Next.{IsNextPush}
use Rattle.log_head.specs.log_laws.Ids.{has}
use Rattle.master_core.specs.log_laws.Shown.{Op}
use Rattle.master_core.specs.log_bytes.Ops.{TakesOp}
use Rattle.master_core.specs.master_failover.declared.push.Push.{Push as PushKind}
use Rattle.master_core.specs.master_failover.declared.push.Push.TheVariants as push
use Rattle.master_core.specs.master_failover.Mending.{IsNextMend, IsNextPushOf, IsOnReplica, pushed, op_now}
use Rattle.master_core.specs.master_failover.Mending.{backup_for, replica_for, segment_for}
use Rattle.master_core.proofs.master_failover.PushKinds.{mend_fails, mends_as, calm_as}
use Rattle.master_core.proofs.master_rolls.Taken.{taken_images}
use Rattle.master_core.proofs.master_state.Posted.{posted_core}
use Rattle.master_core.specs.master_state.declared.step.Step.TheVariants.{Push}
use Rattle.master_core.specs.master_state.Data.{MasterData}
use Rattle.master_core.specs.master_state.Invariant.{IsCore}
use Rattle.master_core.specs.master_state.Log.{image_of, log_of}
use Rattle.master_core.specs.master_state.Steps.{refusal_of, failed_data, ledger_after}
use Rattle.master.specs.Invariant.{IsServed, StaysServed}
use Rattle.master.specs.Pushes.{HasLeft, IsNextOp, Pushes, push_answer}
use Rattle.master.specs.Steps.{Declines}
use Rattle.master.specs.World.{world_of}
use Rattle.master.proofs.PushKinds.{calm_on}
use Rattle.master.proofs.MendEnds.{IsLimited}
use Rattle.master.proofs.MendOps.{mend_op}
use Rattle.master.proofs.MendPushes.{few_for_mend, op_on, bytes_op, mend_bytes}
use Rattle.master.proofs.MendSeals.{are_limited}
use Rattle.master.proofs.MendServed.{on_later, served_may, served_mends, served_mended, mend_not_wrong}
use Rattle.master.proofs.MendServed.{mend_works, mend_declines, mend_failed}
use Rattle.master.proofs.NextOps.{op_bytes}
use Rattle.master.proofs.Pushed.{few_for}
use Rattle.master.proofs.Served.{served_core, served_told, served_not_wrong, served_works, served_declines}
use Rattle.master.proofs.Served.{served_failed, served_taken}

-- What holds of a push that comes next.
pub record Handing (d : MasterData) (f : FleetState) (p : PushKind) : Type 0 where
  pub bytes : OpValue
  pub op : op_now d p ≡ Some bytes
  pub few : replica_for p < d.config.replicas
  pub works : has d.failed (backup_for d p) ≡ false
  pub right : (g : FleetState) (x : TakeFault) → Refuses f (backup_for d p) bytes x g → x ≡ take_fault.Wrong → ⊥
  pub accepted : IsCore (pushed d p) → (g : FleetState) → Takes f (backup_for d p) bytes g
      → Pushes (world_of d f) (push_answer d p) (world_of (pushed d p) g)
  pub taken : IsCore (pushed d p) → (g : FleetState) → Takes f (backup_for d p) bytes g
      → StaysServed d f (pushed d p) g
  pub declined : (g : FleetState) (x : TakeFault) → Refuses f (backup_for d p) bytes x g
      → Declines (world_of d f) Push (refusal_of d (backup_for d p) x) (world_of (failed_data d (backup_for d p) x) g)
  pub failed : (g : FleetState) (x : TakeFault) → Refuses f (backup_for d p) bytes x g
      → StaysServed d f (failed_data d (backup_for d p) x) g

module _ (d : MasterData) (f : FleetState) (running : d.is_halted ≡ false) (served : IsServed d f) where
  core : IsCore d
  core = served_core d f served

  calm_handing : (n : Next) → d.failover ≡ None → IsNextPush d.head (Some n) → Handing d f (push.Head n)
  calm_handing n calm waits =
      let same = calm_as d n calm in
      record {
        bytes = bytes_op d (push.Head n);
        op = ap Some (op_bytes d core calm n waits);
        few = few_for d core n waits;
        works = served_works d n f running calm waits core;
        right = served_not_wrong d n f running calm waits served;
        accepted = λ own g takes. calm_on (world_of d f) (push_answer d (push.Head n))
            (world_of (pushed d (push.Head n)) g) (record {
              op = mend_op d (push.Head n);
              running = running;
              calm = calm;
              next = subst (λ (x : MasterData). IsNextOp d (mend_op d (push.Head n)) (push_answer d (push.Head n))
                  (log_of x))
                  (sym same) (served_told d n f running calm waits served);
              push = n;
              waits = waits;
              rest = same;
              images = λ s. subst (λ (x : MasterData). HasLeft d x s ⊎ (image_of x s ≡ image_of d s)) (sym same)
                  (taken_images (record d { ledger = ledger_after d n }) (posted_core d (ledger_after d n) core) n
                  waits s);
              takes = takes;
            }) refl;
        taken = λ own g takes. subst (λ (x : MasterData). StaysServed d f x g) (sym same)
            (served_taken d n f running calm waits (subst IsCore same own) g takes);
        declined = served_declines d n f running calm waits served;
        failed = served_failed d n f running calm waits;
      }

  mend_handing : (p : PushKind) → IsNextMend d p → IsLimited d p → IsOnReplica p → Handing d f p
  mend_handing p next limited on =
      let later = on_later p on in
      let may = served_may d p f running next limited later served in
      let same = mends_as d p (mend_fails d p next) in
      record {
        bytes = bytes_op d p;
        op = mend_bytes d p may on;
        few = few_for_mend d p core next on;
        works = mend_works d p f running next limited later on core;
        right = mend_not_wrong d p f running next limited later on served;
        accepted = λ own g takes. subst (λ (x : MasterData). Pushes (world_of d f) (push_answer d p) (world_of x g))
            (sym same) (served_mends d p f running next limited later served (subst IsCore same own) g
            (subst (λ (o : Op). TakesOp d.config.master f o g) (sym (op_on d p on)) takes));
        taken = λ own g takes. subst (λ (x : MasterData). StaysServed d f x g) (sym same)
            (served_mended d p f running next limited later (subst IsCore same own) g
            (subst (λ (o : Op). TakesOp d.config.master f o g) (sym (op_on d p on)) takes));
        declined = mend_declines d p f running next limited later on served;
        failed = mend_failed d p f running next limited later on;
      }

  pub handing : (p : PushKind) → IsNextPushOf d (Some p) → AreWithin d.config.segment d.closed → IsOnReplica p
      → Handing d f p
  handing (push.Head n) (inl calm) all on = calm_handing n calm.0 calm.1
  handing (push.Head n) (inr next) all on = mend_handing (push.Head n) next tt tt
  handing push.Turn next all on = absurd on
  handing (push.Raise id) next all on = absurd on
  handing (push.Repair s j) next all on =
      mend_handing (push.Repair s j) next (are_limited d (push.Repair s j) core all next) tt

-- the op of a push is on its segment
pub op_segment : (d : MasterData) (p : PushKind) → IsOnReplica p → (o : OpValue) → op_now d p ≡ Some o
    → o.segment ≡ segment_for d p
op_segment d (push.Head n) on o is = sym (ap (λ (x : OpValue). x.segment) (same_Some _ o is))
op_segment d push.Turn on o is = absurd on
op_segment d (push.Raise id) on o is = absurd on
op_segment d (push.Repair s j) on o is = sym (ap (λ (x : OpValue). x.segment) (same_Some _ o is))
