-- A push whose op a backup refuses keeps a master, and one that is loading, whether a failover is open or not.
use Rattle.std.proofs.Common.{◌≡◌, ℕ, ◌<◌, inl, inr, false, refl}
use Rattle.std.specs.Prelude.{None}
use Rattle.replica.specs.Op.{OpValue}
use Rattle.replica.specs.Picture.{FleetState}
use Rattle.replica.specs.Take.{Refuses}
use Rattle.replica.specs.declared.op.TakeFault.{TakeFault}
use Rattle.replica.specs.declared.op.TakeFault.TheVariants as take_fault
use Rattle.log_head.specs.log_laws.Ids.{has}
use Rattle.log_head.specs.log_laws.Ops.{op_of}
use Rattle.master_core.specs.log_laws.Data.{FailData}
use Rattle.master_core.specs.log_laws.Shown.{Act, Op, On}
use Rattle.master_core.specs.log_bytes.Ops.{log_op_for}
use Rattle.master_core.specs.log_memory.Loading.{IsLoadingOp}
use Rattle.master_core.specs.log_memory.Ops.{IsOp}
use Rattle.master_core.specs.master_state.declared.step.Step.TheVariants.{Push}
use Rattle.master_core.specs.master_state.Causes.{is_done, push_refusal}
use Rattle.master_core.specs.master_state.Data.{MasterData}
use Rattle.master_core.specs.master_state.Log.{log_of, memory_of}
use Rattle.master_core.specs.master_state.Steps.{refusal_of, failed_data}
use Rattle.master.specs.Invariant.{IsServed, StaysServed}
use Rattle.master.specs.Steps.{IsPushOp, MayPush, Declines}
use Rattle.master.specs.World.{world_of}
use Rattle.master.proofs.Handed.{failed_tells, not_wrong, op_failed, loading_not_wrong, loading_failed}

-- a repair is an op of a master too
pub op_of_master : (d e : FailData) (m : _) (o : Op) → IsLoadingOp d m o e → IsOp d m o e m
op_of_master d e m o (inl head) = inl (head, refl)
op_of_master d e m o (inr repair) = inr (inr (inl (repair, refl)))

-- The op may be asked for, and goes to a backup that there is and that hasn't failed. The loading can't be finished
-- yet.
pub record IsHanded (d : MasterData) (b s : ℕ) (act : Act) : Type 0 where
  pub mid : FailData
  pub op : IsLoadingOp (log_of d) (memory_of d) (On b s act) mid
  pub within : b < d.config.backups
  pub works : has d.failed b ≡ false
  pub lags : is_done d ≡ false

module _ (d : MasterData) (f : FleetState) (running : d.is_halted ≡ false) (b s : ℕ) (act : Act)
    (handed : IsServed d f → IsHanded d b s act) where
  abbrev bytes : OpValue
  bytes = op_of d.config.master (log_op_for d.config.master b s act)

  pub refused_right : IsServed d f → (g : FleetState) (x : TakeFault) → Refuses f b bytes x g
      → x ≡ take_fault.Wrong → ⊥
  refused_right (inl kept) =
      let is = handed (inl kept) in
      not_wrong d f kept running b s act is.mid (memory_of d) (op_of_master (log_of d) is.mid (memory_of d) _ is.op)
      is.within
  refused_right (inr loaded) =
      let is = handed (inr loaded) in loading_not_wrong d f loaded running b s act is.mid is.op is.within

  pub refused_declines : push_refusal d ≡ None → MayPush (world_of d f) → IsPushOp (world_of d f) (On b s act)
      → IsServed d f → (g : FleetState) (x : TakeFault) → Refuses f b bytes x g
      → Declines (world_of d f) Push (refusal_of d b x) (world_of (failed_data d b x) g)
  refused_declines passed may asks served g x refused = inr (
    passed,
    inr (inr (
      may,
      failed_tells d f b s act (IsPushOp (world_of d f)) asks g x refused (refused_right served g x refused),
    )),
  )

  pub refused_stays : (g : FleetState) (x : TakeFault) → Refuses f b bytes x g → StaysServed d f (failed_data d b x) g
  refused_stays g x refused = (
    λ kept.
        let is = handed (inl kept) in
        op_failed d f kept running b s act is.mid (memory_of d)
        (op_of_master (log_of d) is.mid (memory_of d) _ is.op) is.within is.works g x refused,
    λ loaded.
        let is = handed (inr loaded) in
        loading_failed d f loaded running b s act is.mid is.op is.within is.works is.lags g x refused,
  )
