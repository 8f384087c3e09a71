-- An op that a backup was handed, taken or not, keeps what holds of a master, and of one that is loading.
use Rattle.std.proofs.Common.{◌≡◌, ℕ, ◌+◌, ◌<◌, inl, inr, Bool, true, false, length, refl, sym, ap, subst, map}
use Rattle.std.proofs.Common.{arith}
use Rattle.std.specs.Prelude.{Option, Some, None, IsSome, nat_lt, is_none, ◌==◌, ◌&&◌, if◌then◌else◌}
use Rattle.std.proofs.lemmas.Option.{same_Some}
use Rattle.replica.specs.Op.{OpValue}
use Rattle.replica.specs.Picture.{Replica, FleetState}
use Rattle.replica.specs.Registry.{Raises, RefusesRaise}
use Rattle.replica.specs.Take.{Refuses, taken, with_effect, effect}
use Rattle.replica.specs.declared.op.TakeFault.{TakeFault}
use Rattle.replica.specs.declared.op.TakeFault.TheVariants as take_fault
use Rattle.log_head.specs.log_laws.Ids.{has}
use Rattle.log_head.specs.log_laws.Ops.{op_of}
use Rattle.master_core.specs.log_laws.Data.{FailData}
use Rattle.master_core.specs.log_laws.Shown.{Act, Op, On, Raise}
use Rattle.master_core.specs.log_bytes.Ops.{log_op_for, RefusesOp}
use Rattle.master_core.specs.log_memory.Fleet.{HoldsAll, KeepsAll}
use Rattle.master_core.specs.log_memory.Loading.{IsLoadingOp}
use Rattle.master_core.specs.log_memory.Memory.{FailMemory}
use Rattle.master_core.specs.log_memory.Ops.{IsOp}
use Rattle.master_core.proofs.log_memory.FleetAnswers.{fault_keeps_all, op_is_never_wrong}
use Rattle.master_core.proofs.log_memory.LoadingFleets.{loading_is_never_wrong, repair_is_never_wrong}
use Rattle.master_core.specs.master_state.declared.config.Config.{Config}
use Rattle.master_core.specs.master_state.declared.failover.Failover.{Failover}
use Rattle.master_core.specs.master_state.declared.step.Refusal.{Refusal}
use Rattle.master_core.specs.master_state.declared.step.Refusal.TheVariants as refusal
use Rattle.master_core.specs.master_state.declared.waiting.Waiting.{Waiting}
use Rattle.master_core.specs.master_state.Causes.{is_done, is_pushed}
use Rattle.master_core.specs.master_state.Data.{MasterData}
use Rattle.master_core.specs.master_state.Invariant.{AreApart, IsCore}
use Rattle.master_core.specs.master_state.Loading.{IsBare}
use Rattle.master_core.specs.master_state.Log.{log_of, memory_of}
use Rattle.master_core.specs.master_state.Steps.{halted, lost_data, may_lose, refusal_of, failed_data}
use Rattle.master_core.proofs.master_state.Posted.{halted_core}
use Rattle.master.specs.Invariant.{IsWellKept, IsWellLoaded}
use Rattle.master.specs.Placed.{IsPlaced}
use Rattle.master.specs.Steps.{FailsTake}
use Rattle.master.specs.World.{world_of}
use Rattle.master.proofs.Lasting.{IsKeptAs, kept_as, well_kept, loaded_as, well_loaded}
use Rattle.master.proofs.LostKept.{lost_as, lost_loading}
use Rattle.master.proofs.LostPlaces.{placed_halted}

-- ---- the fleet

-- The other fleet has as many backups.
pub record IsSameSize (f g : FleetState) : Type 0 where
  pub backups : g.backups ≡ f.backups

module _ (f : FleetState) (b : ℕ) (op : OpValue) where
  effect_size : (g : FleetState) (r : Option (Option Replica)) → with_effect f b op r ≡ Some g → IsSameSize f g
  effect_size g None is = absurd (cc)
  effect_size g (Some r) is = subst (IsSameSize f) (same_Some _ g is) (record { backups = refl })

  pub taken_size : (g : FleetState) → taken f b op ≡ Some g → IsSameSize f g
  taken_size g is = go (nat_lt b f.backups) refl where
    go : (t : Bool) → nat_lt b f.backups ≡ t → IsSameSize f g
    go true within = effect_size g (effect op.act (f.picture b op.master op.segment)) (rw within at is)
    go false past = (let never : None ≡ Some g = rw past at is in absurd (cc))

  pub fault_size : (g : FleetState) → Refuses f b op take_fault.Fault g → IsSameSize f g
  fault_size g (inl same) = subst (IsSameSize f) (sym same) (record { backups = refl })
  fault_size g (inr took) =
      let size = taken_size took.0 took.1.1 in
      subst (IsSameSize f) (sym took.2) (record { backups = size.backups })

module _ (f : FleetState) (master id : ℕ) where
  pub raised_size : (g : FleetState) → Raises f master id g → IsSameSize f g
  raised_size g raises = subst (IsSameSize f) (sym raises.1) (record { backups = refl })

  pub raise_fault_size : (g : FleetState) → RefusesRaise f master id take_fault.Fault g → IsSameSize f g
  raise_fault_size g (inl same) = subst (IsSameSize f) (sym same) (record { backups = refl })
  raise_fault_size g (inr took) =
      let size = raised_size took.0 took.1 in
      subst (IsSameSize f) (sym took.2) (record { backups = size.backups })

-- ---- the op was taken

pub handed_kept : {Holds : FailData → FailMemory → FleetState → Type 0} (d e : MasterData) (f g : FleetState)
    → IsKeptAs Holds d f → IsSameSize f g → IsCore e → IsPlaced e → e.config ≡ d.config
    → AreApart (map (λ (w : Waiting). w.segment) e.waiting)
    → Holds (log_of e) (memory_of e) g → IsKeptAs Holds e g
handed_kept d e f g kept size core placed config apart then_holds = record {
  core = core;
  placed = placed;
  holds = then_holds;
  backups = (let le = kept.backups in let count = size.backups in
      let own = ap (λ (c : Config). c.backups) config in omega arith);
  apart = apart;
}

-- ---- the op was refused

-- with an open failover no other begins
pub loses_no_more : (d : MasterData) → IsSome d.failover → may_lose d ≡ false
loses_no_more d some = go d.failover refl some where
  both : (t u : Bool) → t && false && u ≡ false
  both true u = refl
  both false u = refl

  go : (o : Option Failover) → d.failover ≡ o → IsSome o → may_lose d ≡ false
  go None is some = absurd (cc)
  go (Some f) is some =
      rw is (both (d.config.format == 2) (nat_lt (length d.failed + d.config.replicas) d.config.backups))

-- nor is all done then
pub failing_lags : (d : MasterData) → IsSome d.failover → is_done d ≡ false
failing_lags d some = go d.failover refl some where
  go : (o : Option Failover) → d.failover ≡ o → IsSome o → is_done d ≡ false
  go None is some = absurd (cc)
  go (Some f) is some = ap (λ (x : Option Failover). is_none x && is_pushed d.head) is

-- what a fault leaves, by whether a failover begins
pub losing : (d : MasterData) (b : ℕ) → may_lose d ≡ true → failed_data d b take_fault.Fault ≡ lost_data d b
losing d b may = ap (λ (t : Bool). if t then lost_data d b else halted d) may

pub halting : (d : MasterData) (b : ℕ) → may_lose d ≡ false → failed_data d b take_fault.Fault ≡ halted d
halting d b may = ap (λ (t : Bool). if t then lost_data d b else halted d) may

tells_losing : (d : MasterData) (b : ℕ) → may_lose d ≡ true → refusal_of d b take_fault.Fault ≡ refusal.Lost b
tells_losing d b may = ap (λ (t : Bool). if t then refusal.Lost b else refusal.Halted) may

tells_halting : (d : MasterData) (b : ℕ) → may_lose d ≡ false → refusal_of d b take_fault.Fault ≡ refusal.Halted
tells_halting d b may = ap (λ (t : Bool). if t then refusal.Lost b else refusal.Halted) may

-- whether one begins
module _ (d : MasterData) where
  by_loss : {P : Type 0} → (may_lose d ≡ true → P) → (may_lose d ≡ false → P) → P
  by_loss {P} loses keeps = go (may_lose d) refl where
    go : (t : Bool) → may_lose d ≡ t → P
    go true may = loses may
    go false may = keeps may

-- what a take that failed answers, if it isn't wrong
pub failed_tells : (d : MasterData) (f : FleetState) (b s : ℕ) (act : Act) (Is : Op → Type 0) → Is (On b s act)
    → (g : FleetState) (fault : TakeFault) → RefusesOp d.config.master f (On b s act) fault g
    → (fault ≡ take_fault.Wrong → ⊥)
    → FailsTake Is (world_of d f) (refusal_of d b fault) (world_of (failed_data d b fault) g)
failed_tells d f b s act Is is g take_fault.NoMemory refused right =
    ap (λ (h : FleetState). record { knows = d; fleet = h }) refused
failed_tells d f b s act Is is g take_fault.Wrong refused right = absurd (right refl)
failed_tells d f b s act Is is g take_fault.Fault refused right =
    by_loss d
    (λ may. subst (λ (x : Refusal × MasterData). FailsTake Is (world_of d f) x.0 (world_of x.1 g))
    (λ i. (sym (tells_losing d b may) i, sym (losing d b may) i)) (may, refl, (On b s act, is, refl, refused)))
    (λ may. subst (λ (x : Refusal × MasterData). FailsTake Is (world_of d f) x.0 (world_of x.1 g))
    (λ i. (sym (tells_halting d b may) i, sym (halting d b may) i)) (may, refl, (On b s act, is, refused)))
failed_tells d f b s act Is is g take_fault.Spent refused right = (
  refused.0,
  ap (λ (h : FleetState). record { knows = d; fleet = h }) refused.1,
)

-- ---- a master

-- after a fault the master halts
halts_kept : (d : MasterData) (f g : FleetState) → IsWellKept d f → IsSameSize f g
    → KeepsAll (log_of d) (memory_of d) g → IsWellKept (halted d) g
halts_kept d f g kept size keeps = record {
  core = halted_core d kept.core;
  placed = placed_halted d kept.placed;
  kept = keeps;
  known = λ never. absurd (cc);
  backups = (let le = kept.backups in let count = size.backups in omega arith);
  apart = kept.apart;
}

module _ (d : MasterData) (f : FleetState) (kept : IsWellKept d f) (running : d.is_halted ≡ false) (b s : ℕ)
    (act : Act) (e : FailData) (n : FailMemory) (op : IsOp (log_of d) (memory_of d) (On b s act) e n)
    (home : b < d.config.backups) where
  abbrev bytes : OpValue
  bytes = op_of d.config.master (log_op_for d.config.master b s act)

  holds : HoldsAll (log_of d) (memory_of d) f
  holds = kept.known running

  -- the fleet never answers Wrong
  never_wrong : (g : FleetState) → Refuses f b bytes take_fault.Wrong g → ⊥
  never_wrong g refused =
      op_is_never_wrong (log_of d) e (memory_of d) n f g (On b s act) holds op
      (let le = kept.backups in let lt = home in omega arith) refused

  pub not_wrong : (g : FleetState) (y : TakeFault) → Refuses f b bytes y g → y ≡ take_fault.Wrong → ⊥
  not_wrong g y refused is = never_wrong g (subst (λ (x : TakeFault). Refuses f b bytes x g) is refused)

  pub fault_halts : (g : FleetState) → Refuses f b bytes take_fault.Fault g → IsWellKept (halted d) g
  fault_halts g refused =
      halts_kept d f g kept (fault_size f b bytes g refused)
      (fault_keeps_all (log_of d) e (memory_of d) n f g (On b s act) holds op home refused)

  module _ (works : has d.failed b ≡ false) where
    fault_kept : (g : FleetState) → Refuses f b bytes take_fault.Fault g
        → IsWellKept (failed_data d b take_fault.Fault) g
    fault_kept g refused =
        by_loss d
        (λ may. subst (λ (x : MasterData). IsWellKept x g) (sym (losing d b may))
        (well_kept (lost_data d b) g
        (lost_as d f g b s act e home works may (fault_size f b bytes g refused).backups refused n op
        (kept_as d f kept running))))
        (λ may. subst (λ (x : MasterData). IsWellKept x g) (sym (halting d b may)) (fault_halts g refused))

    pub op_failed : (g : FleetState) (fault : TakeFault) → Refuses f b bytes fault g
        → IsWellKept (failed_data d b fault) g
    op_failed g take_fault.NoMemory refused = subst (IsWellKept d) (sym refused) kept
    op_failed g take_fault.Wrong refused = absurd (never_wrong g refused)
    op_failed g take_fault.Fault refused = fault_kept g refused
    op_failed g take_fault.Spent refused = subst (IsWellKept d) (sym refused.1) kept

-- ---- one that is loading

-- after a fault it is never finished, since something is left to be pushed
pub loading_halts : (d : MasterData) (f : FleetState) → IsWellLoaded d f → is_done d ≡ false → (g : FleetState)
    → IsSameSize f g → IsWellLoaded (halted d) g
loading_halts d f loaded lags g size = record {
  core = halted_core d loaded.core;
  bare = record { history = loaded.bare.history; pass = loaded.bare.pass; waiting = loaded.bare.waiting };
  placed = placed_halted d loaded.placed;
  loading = λ never. absurd (cc);
  backups = (let le = loaded.backups in let count = size.backups in omega arith);
  halted = λ is. lags;
}

bare_lost : (d : MasterData) (b : ℕ) → IsBare d → IsBare (lost_data d b)
bare_lost d b bare = record {
  history = bare.history;
  pass = (let none = bare.pass in rw none refl);
  waiting = (let none = bare.waiting in rw none refl);
}

module _ (d : MasterData) (f : FleetState) (loaded : IsWellLoaded d f) (running : d.is_halted ≡ false) (b s : ℕ)
    (act : Act) (e : FailData) (op : IsLoadingOp (log_of d) (memory_of d) (On b s act) e)
    (home : b < d.config.backups) where
  abbrev loading_bytes : OpValue
  loading_bytes = op_of d.config.master (log_op_for d.config.master b s act)

  loading_right : (g : FleetState) → Refuses f b loading_bytes take_fault.Wrong g → ⊥
  loading_right g refused = by_op op where
    there : b < f.backups
    there = let le = loaded.backups in let lt = home in omega arith

    by_op : IsLoadingOp (log_of d) (memory_of d) (On b s act) e → ⊥
    by_op (inl head) =
        loading_is_never_wrong (log_of d) e (memory_of d) f g (On b s act) (loaded.loading running) head there refused
    by_op (inr repair) =
        repair_is_never_wrong (log_of d) e (memory_of d) f g (On b s act) (loaded.loading running) repair there refused

  pub loading_not_wrong : (g : FleetState) (y : TakeFault) → Refuses f b loading_bytes y g → y ≡ take_fault.Wrong → ⊥
  loading_not_wrong g y refused is =
      loading_right g (subst (λ (x : TakeFault). Refuses f b loading_bytes x g) is refused)

  module _ (works : has d.failed b ≡ false) (lags : is_done d ≡ false) where
    fault_loaded : (g : FleetState) → Refuses f b loading_bytes take_fault.Fault g
        → IsWellLoaded (failed_data d b take_fault.Fault) g
    fault_loaded g refused =
        let size = fault_size f b loading_bytes g refused in
        by_loss d
        (λ may. subst (λ (x : MasterData). IsWellLoaded x g) (sym (losing d b may))
        (well_loaded (lost_data d b) g
        (lost_loading d f g b s act e home works may size.backups refused op (loaded_as d f loaded running))
        (bare_lost d b loaded.bare) running))
        (λ may. subst (λ (x : MasterData). IsWellLoaded x g) (sym (halting d b may))
        (loading_halts d f loaded lags g size))

    pub loading_failed : (g : FleetState) (fault : TakeFault) → Refuses f b loading_bytes fault g
        → IsWellLoaded (failed_data d b fault) g
    loading_failed g take_fault.NoMemory refused = subst (IsWellLoaded d) (sym refused) loaded
    loading_failed g take_fault.Wrong refused = absurd (loading_right g refused)
    loading_failed g take_fault.Fault refused = fault_loaded g refused
    loading_failed g take_fault.Spent refused = subst (IsWellLoaded d) (sym refused.1) loaded

-- ---- a raise

-- it is never wrong
pub raise_not_wrong : (f : FleetState) (master id : ℕ) (g : FleetState) (y : TakeFault)
    → RefusesRaise f master id y g → y ≡ take_fault.Wrong → ⊥
raise_not_wrong f master id g y refused is = subst (λ (x : TakeFault). RefusesRaise f master id x g) is refused

pub raise_tells : (d : MasterData) (f : FleetState) (id : ℕ) (Is : Op → Type 0) → Is (Raise id) → IsSome d.failover
    → (b : ℕ) (g : FleetState) (fault : TakeFault) → RefusesRaise f d.config.master id fault g
    → FailsTake Is (world_of d f) (refusal_of d b fault) (world_of (failed_data d b fault) g)
raise_tells d f id Is is some b g take_fault.NoMemory refused =
    ap (λ (h : FleetState). record { knows = d; fleet = h }) refused
raise_tells d f id Is is some b g take_fault.Wrong refused = absurd refused
raise_tells d f id Is is some b g take_fault.Fault refused =
    let may = loses_no_more d some in
    subst (λ (x : Refusal × MasterData). FailsTake Is (world_of d f) x.0 (world_of x.1 g))
    (λ i. (sym (tells_halting d b may) i, sym (halting d b may) i)) (may, refl, (Raise id, is, refused))
raise_tells d f id Is is some b g take_fault.Spent refused = (
  refused.0,
  ap (λ (h : FleetState). record { knows = d; fleet = h }) refused.1,
)

pub raise_halts : (d : MasterData) (f : FleetState) → IsWellKept d f → d.is_halted ≡ false → (id : ℕ) (e : FailData)
    (n : FailMemory) → IsOp (log_of d) (memory_of d) (Raise id) e n → (g : FleetState)
    → RefusesRaise f d.config.master id take_fault.Fault g → IsWellKept (halted d) g
raise_halts d f kept running id e n op g refused =
    halts_kept d f g kept (raise_fault_size f d.config.master id g refused)
    (fault_keeps_all (log_of d) e (memory_of d) n f g (Raise id) (kept.known running) op tt refused)

pub raise_failed : (d : MasterData) (f : FleetState) → IsWellKept d f → d.is_halted ≡ false → (id : ℕ) (e : FailData)
    (n : FailMemory) → IsOp (log_of d) (memory_of d) (Raise id) e n → IsSome d.failover → (g : FleetState)
    (fault : TakeFault) → RefusesRaise f d.config.master id fault g → (b : ℕ) → IsWellKept (failed_data d b fault) g
raise_failed d f kept running id e n op some g take_fault.NoMemory refused b =
    subst (IsWellKept d) (sym refused) kept
raise_failed d f kept running id e n op some g take_fault.Wrong refused b = absurd refused
raise_failed d f kept running id e n op some g take_fault.Fault refused b =
    subst (λ (x : MasterData). IsWellKept x g) (sym (halting d b (loses_no_more d some)))
    (raise_halts d f kept running id e n op g refused)
raise_failed d f kept running id e n op some g take_fault.Spent refused b =
    subst (IsWellKept d) (sym refused.1) kept

pub raise_loading_failed : (d : MasterData) (f : FleetState) → IsWellLoaded d f → (id : ℕ) → IsSome d.failover
    → (g : FleetState) (fault : TakeFault) → RefusesRaise f d.config.master id fault g → (b : ℕ)
    → IsWellLoaded (failed_data d b fault) g
raise_loading_failed d f loaded id some g take_fault.NoMemory refused b =
    subst (IsWellLoaded d) (sym refused) loaded
raise_loading_failed d f loaded id some g take_fault.Wrong refused b = absurd refused
raise_loading_failed d f loaded id some g take_fault.Fault refused b =
    subst (λ (x : MasterData). IsWellLoaded x g) (sym (halting d b (loses_no_more d some)))
    (loading_halts d f loaded (failing_lags d some) g (raise_fault_size f d.config.master id g refused))
raise_loading_failed d f loaded id some g take_fault.Spent refused b =
    subst (IsWellLoaded d) (sym refused.1) loaded
