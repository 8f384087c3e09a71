-- A push of a failover keeps a master, and one that is loading, whatever the fleet answers; and what it tells.
use Rattle.std.proofs.Common.{◌≡◌, ℕ, suc, ◌<◌, inl, inr, Bool, true, false, [], ◌∷◌, refl, sym}
use Rattle.std.proofs.Common.{subst, ◌∙◌}
use Rattle.std.specs.Prelude.{Option, Some, None, IsSome, is_none, ◌==◌, if◌then◌else◌}
use Rattle.std.specs.Option.{option_map_or}
use Rattle.master_core.specs.cleaner.declared.pass.Pass.{Pass}
use Rattle.replica.specs.Picture.{FleetState}
use Rattle.replica.specs.Registry.{RefusesRaise}
use Rattle.replica.specs.Take.{Refuses}
use Rattle.replica.specs.declared.op.TakeFault.{TakeFault}
use Rattle.replica.specs.declared.op.TakeFault.TheVariants as take_fault
use Rattle.images.specs.Sorted.{changed}
use Rattle.images.specs.Steps.{more_replicas}
use Rattle.log_head.specs.declared.head.Roll.{Roll}
use Rattle.log_head.specs.Steps.{with_closed_replica, old_image}
use Rattle.log_head.specs.log_laws.Ids.{has}
use Rattle.log_head.specs.declared.next.Next.TheVariants as nexts
use Rattle.master_core.specs.log_laws.Data.{FailData}
use Rattle.master_core.specs.log_laws.Shown.{Op, On, Raise}
use Rattle.master_core.specs.log_bytes.Ops.{TakesOp}
use Rattle.master_core.specs.log_memory.Loading.{IsLoadingOp}
use Rattle.master_core.specs.master_failover.declared.push.Push.{Push as PushKind}
use Rattle.master_core.specs.master_failover.declared.push.Push.TheVariants as push
use Rattle.master_core.specs.master_failover.Mending.{IsNextMend, IsLater, IsOnReplica, mended_data}
use Rattle.master_core.specs.master_failover.Mending.{backup_for}
use Rattle.master_core.specs.master_failover.Mending.{segment_for, replica_for, was_headless, first_lost, repaired_data}
use Rattle.master_core.specs.master_failover.Mending.{with_part}
use Rattle.master_core.specs.master_failover.Mending.{closed_more}
use Rattle.master_core.proofs.master_failover.PushKinds.{mend_fails, next_of}
use Rattle.master_core.specs.master_state.declared.failover.Part.TheVariants as part
use Rattle.master_core.specs.master_state.declared.ledger.Posting.TheVariants as posting
use Rattle.master_core.specs.master_state.declared.step.Refusal.TheVariants.{Halted, Nothing}
use Rattle.master_core.specs.master_state.declared.step.Step.TheVariants.{Push}
use Rattle.master_core.specs.master_state.Causes.{push_refusal}
use Rattle.master_core.specs.master_state.Data.{MasterData}
use Rattle.master_core.specs.master_state.Images.{with_closed}
use Rattle.master_core.specs.master_state.Invariant.{IsCore}
use Rattle.master_core.specs.master_state.Loading.{IsBare}
use Rattle.master_core.specs.master_state.Log.{home, log_of, memory_of}
use Rattle.master_core.specs.master_state.Steps.{refusal_of, failed_data, roll_ended, closed_data}
use Rattle.master.specs.Invariant.{IsServed, StaysServed}
use Rattle.master.specs.Pushes.{IsMendOp, Pushes, push_answer}
use Rattle.master.specs.Steps.{IsPushOp, Declines}
use Rattle.master.specs.World.{world_of}
use Rattle.master.proofs.Handed.{raise_tells}
use Rattle.master.proofs.Handed.{raise_failed, raise_loading_failed, failing_lags}
use Rattle.master.proofs.Lasting.{kept_as, well_kept, loaded_as, well_loaded}
use Rattle.master.proofs.MendEnds.{IsLimited, MayMend, IsMendPush}
use Rattle.master.proofs.MendKeeps.{all_on, loading_on, may_mend, mended_kept}
use Rattle.master.proofs.PushKinds.{mends_on}
use Rattle.master.proofs.MendOps.{mend_op, mend_act}
use Rattle.master.proofs.MendPushes.{mend_push, few_for_mend, op_on, bytes_op}
use Rattle.master.proofs.MendedRest.{mended_rest}
use Rattle.master.proofs.NextMends.{later_may}
use Rattle.master.proofs.Placing.{core_within, core_left}
use Rattle.master.proofs.Refused.{IsHanded, op_of_master, refused_right, refused_declines, refused_stays}
use Rattle.master.proofs.Served.{served_core, all_ends, none_ends}

-- ---- a failover is open

-- no test refuses a push of it
pub mend_passed : (d : MasterData) → d.is_halted ≡ false → IsSome d.failover → push_refusal d ≡ None
mend_passed d running failing =
    λ i. if running i then Some Halted else if failing_lags d failing i then Some Nothing else None

-- ---- one that is loading has no pass

-- and gets none
abbrev HasNone : MasterData → Type 0
HasNone d = (d.pass ≡ None) × (d.waiting ≡ [])

repaired_none : (d : MasterData) → HasNone d → HasNone (repaired_data d)
repaired_none d none = go (is_none (first_lost d)) where
  gives : Bool → MasterData
  gives t = if t then record d { failover = None } else d

  go : (t : Bool) → HasNone (gives t)
  go true = none
  go false = none

raised_none : (d : MasterData) (id : ℕ) → HasNone d → HasNone (mended_data d (push.Raise id))
raised_none d id none = go (was_headless d) where
  gives : Bool → MasterData
  gives t =
      if t then record d { failover = None; abandoned = []; ledger = posting.Ended ∷ d.ledger }
      else with_part d part.Closes

  go : (t : Bool) → HasNone (gives t)
  go true = none
  go false = none

ended_none : (o : Option Pass) → o ≡ None → (e : MasterData) → HasNone e → HasNone (roll_ended o e)
ended_none o is e none = subst (λ (p : Option Pass). HasNone (roll_ended p e)) (sym is) none

closed_none : (d : MasterData) (r : Roll) → HasNone d → HasNone (closed_data d r)
closed_none d r none = go (suc r.closed == d.head.replicas) where
  one : MasterData
  one = record d {
    head = with_closed_replica d.head r;
    closed = with_closed d.closed d.head.id d.config.replicas (old_image d.head r);
  }

  gives : Bool → MasterData
  gives t = if t then roll_ended d.pass one else one

  go : (t : Bool) → HasNone (gives t)
  go true = ended_none d.pass none.0 one none
  go false = none

closed_more_none : (d : MasterData) (j : ℕ) (r : Roll) → HasNone d → HasNone (closed_more d j r)
closed_more_none d j r none = go (suc j == d.config.replicas) where
  k : MasterData
  k = record d { ledger = posting.Shut (home d.config d.failed d.head.id j) ∷ d.ledger }

  e : MasterData
  e = closed_data k r

  last : MasterData
  last = with_part (record e { abandoned = []; ledger = posting.Ended ∷ e.ledger }) part.Repairs

  gives : Bool → MasterData
  gives t = if t then repaired_data last else e

  go : (t : Bool) → HasNone (gives t)
  go true = repaired_none last (closed_none k r none)
  go false = closed_none k r none

mended_none : (d : MasterData) (m : PushKind) → IsLater m → HasNone d → HasNone (mended_data d m)
mended_none d (push.Head (nexts.Extend j)) later none = none
mended_none d (push.Head (nexts.OpenWhole j)) later none = none
mended_none d push.Turn later none = absurd later
mended_none d (push.Head (nexts.OpenNew j)) later none = none
mended_none d (push.Head (nexts.OpenFirst j)) later none = none
mended_none d (push.Raise id) later none = raised_none d id none
mended_none d (push.Head (nexts.CloseOld j)) later none = go d.head.roll where
  gives : Option Roll → MasterData
  gives o = option_map_or (closed_more d j) o d

  go : (o : Option Roll) → HasNone (gives o)
  go None = none
  go (Some r) = closed_more_none d j r none
mended_none d (push.Repair s j) later none = repaired_none (record d {
  closed = changed d.closed s more_replicas;
  ledger = posting.Took s (home d.config d.failed s j) ∷ d.ledger;
}) none

mended_bare : (d : MasterData) (m : PushKind) → IsLater m → IsBare d → IsBare (mended_data d m)
mended_bare d m later bare =
    let none = mended_none d m later (bare.pass, bare.waiting) in
    record { history = (mended_rest d m).1 ∙ bare.history; pass = none.0; waiting = none.1 }

-- ---- a push

pub on_later : (m : PushKind) → IsOnReplica m → IsLater m
on_later (push.Head n) on = tt
on_later push.Turn on = absurd on
on_later (push.Raise id) on = tt
on_later (push.Repair s j) on = tt

not_turn : (m : PushKind) → IsLater m → m ≡ push.Turn → ⊥
not_turn m later is = subst IsLater is later

module _ (d : MasterData) (m : PushKind) (f : FleetState) (running : d.is_halted ≡ false) (next : IsNextMend d m)
    (limited : IsLimited d m) (later : IsLater m) where
  pub served_may : IsServed d f → MayMend d m
  served_may (inl kept) = may_mend all_on d f (kept_as d f kept running) m next limited
  served_may (inr loaded) = may_mend loading_on d f (loaded_as d f loaded running) m next limited

  pub served_push : IsServed d f → IsMendPush d m
  served_push served = mend_push d m (served_may served) later

  -- ---- taken

  pub served_mends : IsServed d f → IsCore (mended_data d m) → (g : FleetState)
      → TakesOp d.config.master f (mend_op d m) g
      → Pushes (world_of d f) (push_answer d m) (world_of (mended_data d m) g)
  served_mends served core g takes =
      mends_on (world_of d f) (push_answer d m) (world_of (mended_data d m) g) (record {
        op = mend_op d m;
        running = running;
        failing = mend_fails d m next;
        mend = m;
        next = next;
        may = λ turn. absurd (not_turn m later turn);
        does = (served_push served).does core;
        told = refl;
        rest = refl;
        takes = takes;
      })

  pub served_mended : IsCore (mended_data d m) → (g : FleetState) → TakesOp d.config.master f (mend_op d m) g
      → StaysServed d f (mended_data d m) g
  served_mended core g takes = (
    λ kept. well_kept (mended_data d m) g
        (mended_kept all_on d f (kept_as d f kept running) m (served_may (inl kept)) later
        (all_ends d f (kept.known running)) core g takes),
    λ loaded. well_loaded (mended_data d m) g
        (mended_kept loading_on d f (loaded_as d f loaded running) m (served_may (inr loaded)) later
        (none_ends d loaded.bare) core g takes)
        (mended_bare d m later loaded.bare) ((mended_rest d m).2 ∙ running),
  )

  -- ---- refused by a backup

  module _ (on : IsOnReplica m) where
    abbrev b : ℕ
    b = backup_for d m

    few : IsCore d → replica_for m < d.config.replicas
    few core = few_for_mend d m core next on

    within : IsCore d → b < d.config.backups
    within core = core_within d core (segment_for d m) (replica_for m) (few core)

    pub mend_works : IsCore d → has d.failed (backup_for d m) ≡ false
    mend_works core = core_left d core (segment_for d m) (replica_for m) (few core)

    -- the op may be asked for, and is one of the failover
    abbrev IsAsked : Op → Type 0
    IsAsked o = (e : FailData) × IsLoadingOp (log_of d) (memory_of d) o e × ((x : FailData) × IsMendOp d m o x)

    asked_op : IsServed d f → IsAsked (On b (segment_for d m) (mend_act d m))
    asked_op served =
        let is = served_push served in
        subst IsAsked (op_on d m on) (is.mid, is.op, is.asks)

    handed : IsServed d f → IsHanded d b (segment_for d m) (mend_act d m)
    handed served =
        let op = asked_op served in
        let core = served_core d f served in
        record {
          mid = op.0;
          op = op.1;
          within = within core;
          works = mend_works core;
          lags = failing_lags d (mend_fails d m next);
        }

    pub mend_not_wrong : IsServed d f → (g : FleetState) (x : TakeFault) → Refuses f b (bytes_op d m) x g
        → x ≡ take_fault.Wrong → ⊥
    mend_not_wrong = refused_right d f running b (segment_for d m) (mend_act d m) handed

    pub mend_declines : IsServed d f → (g : FleetState) (x : TakeFault) → Refuses f b (bytes_op d m) x g
        → Declines (world_of d f) Push (refusal_of d b x) (world_of (failed_data d b x) g)
    mend_declines served =
        let op = asked_op served in
        refused_declines d f running b (segment_for d m) (mend_act d m) handed
        (mend_passed d running (mend_fails d m next)) (later_may d m later next)
        (m, op.2.0, next_of d m next, not_turn m later, inr (mend_fails d m next, op.2.1)) served

    pub mend_failed : (g : FleetState) (x : TakeFault) → Refuses f b (bytes_op d m) x g
        → StaysServed d f (failed_data d b x) g
    mend_failed = refused_stays d f running b (segment_for d m) (mend_act d m) handed

-- ---- a raise is refused

module _ (d : MasterData) (id : ℕ) (f : FleetState) (running : d.is_halted ≡ false)
    (next : IsNextMend d (push.Raise id)) where
  raised_push : IsServed d f → IsMendPush d (push.Raise id)
  raised_push = served_push d (push.Raise id) f running next tt tt

  failing : IsSome d.failover
  failing = mend_fails d (push.Raise id) next

  pub raise_declines : IsServed d f → (g : FleetState) (x : TakeFault) → RefusesRaise f d.config.master id x g → (b : ℕ)
      → Declines (world_of d f) Push (refusal_of d b x) (world_of (failed_data d b x) g)
  raise_declines served g x refused b = inr (
    mend_passed d running failing,
    inr (inr (
      later_may d (push.Raise id) tt next,
      raise_tells d f id (IsPushOp (world_of d f)) (
        push.Raise id,
        (raised_push served).asks.0,
        next,
        not_turn (push.Raise id) tt,
        inr (failing, (raised_push served).asks.1),
      ) failing b g x refused,
    )),
  )

  pub raise_keeps : (g : FleetState) (x : TakeFault) → RefusesRaise f d.config.master id x g → (b : ℕ)
      → StaysServed d f (failed_data d b x) g
  raise_keeps g x refused b = (
    λ kept.
        let is = raised_push (inl kept) in
        raise_failed d f kept running id is.mid (memory_of d)
        (op_of_master (log_of d) is.mid (memory_of d) (Raise id) is.op) failing g x refused b,
    λ loaded. raise_loading_failed d f loaded id failing g x refused b,
  )
