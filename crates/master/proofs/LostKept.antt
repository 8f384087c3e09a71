-- A fault with which a failover begins leaves a master kept, and one that is loading.
use Rattle.std.proofs.Common.{◌≡◌, ℕ, ◌<◌, true, false, refl, sym, subst, arith}
use Rattle.replica.specs.Picture.{FleetState}
use Rattle.replica.specs.Take.{Refuses}
use Rattle.replica.specs.declared.op.TakeFault.TheVariants as take_fault
use Rattle.log_head.specs.log_laws.Ids.{has}
use Rattle.log_head.specs.log_laws.Ops.{op_of}
use Rattle.master_core.specs.log_laws.Data.{FailData}
use Rattle.master_core.specs.log_laws.Shown.{Act, On}
use Rattle.master_core.specs.log_laws.Steps.{failing}
use Rattle.master_core.specs.log_bytes.Ops.{log_op_for}
use Rattle.master_core.specs.log_memory.Fleet.{HoldsAll, HoldsLoading}
use Rattle.master_core.specs.log_memory.Loading.{IsLoadingOp}
use Rattle.master_core.specs.log_memory.Memory.{FailMemory}
use Rattle.master_core.specs.log_memory.Ops.{IsOp}
use Rattle.master_core.specs.log_memory.Steps.{stopped}
use Rattle.master_core.proofs.log_memory.FleetAnswers.{fault_fails_over}
use Rattle.master_core.proofs.log_memory.LoadingFleets.{fault_fails_loading}
use Rattle.master_core.specs.master_state.Data.{MasterData}
use Rattle.master_core.specs.master_state.Log.{log_of, memory_of}
use Rattle.master_core.specs.master_state.Steps.{lost_data, may_lose}
use Rattle.master_core.proofs.master_state.LostCore.{loses, lost_core}
use Rattle.master.proofs.Counting.{AreUnfailed, counted, kept_unfailed, loading_unfailed}
use Rattle.master.proofs.Lasting.{Lasts, IsKeptAs, all_lasts, loading_lasts}
use Rattle.master.proofs.LostLog.{log_lost, may_fail}
use Rattle.master.proofs.LostMemory.{model_lost}
use Rattle.master.proofs.LostPlaces.{apart_lost, placed_lost}
use Rattle.master.proofs.Models.{own_holds}

-- whatever holds of the failover's log, and of memory as it was, holds of the master
pub kept_losing : {Holds : FailData → FailMemory → FleetState → Type 0} (lasts : Lasts Holds) (d : MasterData)
    (f g : FleetState) (b : ℕ) → IsKeptAs Holds d f → AreUnfailed d → may_lose d ≡ true → b < d.config.backups
    → has d.failed b ≡ false → g.backups ≡ f.backups
    → Holds (failing (log_of d) b) (stopped (memory_of d)) g → IsKeptAs Holds (lost_data d b) g
kept_losing {Holds} lasts d f g b kept unfailed may there works size holds =
    let core = lost_core d b kept.core (loses d may) there works in
    let log = log_lost d b may (counted d kept.core kept.placed unfailed) in
    let le = kept.backups in
    record {
      core = core;
      placed = placed_lost d b kept.core kept.placed may;
      holds = own_holds lasts (lost_data d b) core (stopped (memory_of d)) g
          (subst (λ (l : FailData). Holds l (stopped (memory_of d)) g) (sym log) holds)
          (model_lost d b kept.core may there works);
      backups = omega arith;
      apart = apart_lost d.config d.failed b d.waiting kept.apart;
    }

module _ (d : MasterData) (f g : FleetState) (b s : ℕ) (act : Act) (e : FailData) (home : b < d.config.backups)
    (works : has d.failed b ≡ false) (may : may_lose d ≡ true) (size : g.backups ≡ f.backups)
    (refused : Refuses f b (op_of d.config.master (log_op_for d.config.master b s act)) take_fault.Fault g) where
  pub lost_as : (n : FailMemory) → IsOp (log_of d) (memory_of d) (On b s act) e n → IsKeptAs HoldsAll d f
      → IsKeptAs HoldsAll (lost_data d b) g
  lost_as n op kept =
      kept_losing all_lasts d f g b kept (kept_unfailed d f kept.holds.keeps) may home works size
      (fault_fails_over (log_of d) e (memory_of d) n f g (On b s act) b kept.holds op home refl (may_fail d may)
      refused)

  pub lost_loading : IsLoadingOp (log_of d) (memory_of d) (On b s act) e → IsKeptAs HoldsLoading d f
      → IsKeptAs HoldsLoading (lost_data d b) g
  lost_loading op kept =
      kept_losing loading_lasts d f g b kept (loading_unfailed d f kept.holds) may home works size
      (fault_fails_loading (log_of d) e (memory_of d) f g (On b s act) b kept.holds op home refl (may_fail d may)
      refused)
