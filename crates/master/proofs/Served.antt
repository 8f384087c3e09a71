-- A push keeps a master, and one that is loading.
use Rattle.std.proofs.Common.{◌≡◌, ℕ, ◌<◌, inl, inr, false, sym, ◌∙◌}
use Rattle.std.specs.Prelude.{Some, None}
use Rattle.master_core.specs.cleaner.declared.pass.Pass.{Pass as OpenPass}
use Rattle.replica.specs.Op.{OpValue}
use Rattle.replica.specs.Picture.{FleetState}
use Rattle.replica.specs.Take.{Takes, Refuses}
use Rattle.replica.specs.declared.op.TakeFault.{TakeFault}
use Rattle.replica.specs.declared.op.TakeFault.TheVariants as take_fault
use Rattle.log_head.specs.declared.next.Next.{Next}
use Rattle.log_head.specs.Next.{IsNextPush, replica_of, segment_of}
use Rattle.log_head.specs.log_laws.Ids.{has}
use Rattle.log_head.specs.log_laws.Ops.{op_of}
use Rattle.master_core.specs.log_bytes.Ops.{log_op_for}
use Rattle.master_core.specs.log_memory.Fleet.{HoldsAll, HoldsLoading}
use Rattle.master_core.proofs.log_memory.FleetSteps.{finish_holds_all}
use Rattle.master_core.specs.master_failover.declared.push.Push.TheVariants as kind
use Rattle.master_core.specs.master_state.declared.step.Refusal.TheVariants.{Halted, Nothing}
use Rattle.master_core.specs.master_state.declared.step.Step.TheVariants.{Push}
use Rattle.master_core.specs.master_state.Causes.{is_done}
use Rattle.master_core.specs.master_state.Data.{MasterData}
use Rattle.master_core.specs.master_state.Invariant.{IsCore}
use Rattle.master_core.specs.master_state.Loading.{IsBare}
use Rattle.master_core.specs.master_state.Log.{log_of, memory_of}
use Rattle.master_core.specs.master_state.Steps.{backup_of, pushed_data, refusal_of, failed_data}
use Rattle.master_core.proofs.master_state.Refusals.{passes, push_passed}
use Rattle.master_core.proofs.master_commands.LoadedCore.{pushed_bare}
use Rattle.master.specs.Invariant.{IsServed, StaysServed}
use Rattle.master.specs.Pushes.{IsNextOp, answer_of}
use Rattle.master.specs.Steps.{Declines}
use Rattle.master.specs.World.{world_of}
use Rattle.master.proofs.Lasting.{all_lasts, loading_lasts, kept_as, well_kept, loaded_as, well_loaded}
use Rattle.master.proofs.NextMends.{calm_may}
use Rattle.master.proofs.NextOps.{act_now, push_op, IsHeadPush, head_push}
use Rattle.master.proofs.Placing.{core_within, core_left}
use Rattle.master.proofs.Pushed.{EndsPass, few_for, told, taken_kept}
use Rattle.master.proofs.PushedRest.{same_rest}
use Rattle.master.proofs.Refused.{IsHanded, refused_right, refused_declines, refused_stays}

pub served_core : (d : MasterData) (f : FleetState) → IsServed d f → IsCore d
served_core d f (inl kept) = kept.core
served_core d f (inr loaded) = loaded.core

-- ---- passes

-- that of a master ends
pub all_ends : (d : MasterData) (f : FleetState) → HoldsAll (log_of d) (memory_of d) f → EndsPass HoldsAll d
all_ends d f holds = record {
  finish = λ p opened l m g n mode then_holds ends commits. finish_holds_all l m g n mode then_holds ends commits;
  gone = λ p opened w waits victim. holds.keeps.intact.waiting.out w waits
      (holds.keeps.intact.passing.victims_count w.segment victim);
}

-- one that is loading has none
pub no_pass : (d : MasterData) → IsBare d → (p : OpenPass) → d.pass ≡ Some p → ⊥
no_pass d bare p opened = let both = sym opened ∙ bare.pass in cc

pub none_ends : (d : MasterData) → IsBare d → EndsPass HoldsLoading d
none_ends d bare = record {
  finish = λ p opened. absurd (no_pass d bare p opened);
  gone = λ p opened. absurd (no_pass d bare p opened);
}

-- ---- a push

module _ (d : MasterData) (push : Next) (f : FleetState) (running : d.is_halted ≡ false) (calm : d.failover ≡ None)
    (waits : IsNextPush d.head (Some push)) where
  abbrev backup : ℕ
  backup = backup_of d push

  abbrev bytes : OpValue
  bytes = op_of d.config.master (log_op_for d.config.master backup (segment_of d.head push) (act_now d push))

  pub served_told : IsServed d f
      → IsNextOp d (push_op d push) (answer_of push backup (segment_of d.head push)) (log_of (pushed_data d push))
  served_told (inl kept) = told all_lasts d push f (kept_as d f kept running) calm waits
  served_told (inr loaded) = told loading_lasts d push f (loaded_as d f loaded running) calm waits

  -- it is on a backup that there is and that hasn't failed
  pub served_within : IsCore d → backup < d.config.backups
  served_within core = core_within d core (segment_of d.head push) (replica_of push) (few_for d core push waits)

  pub served_works : IsCore d → has d.failed backup ≡ false
  served_works core = core_left d core (segment_of d.head push) (replica_of push) (few_for d core push waits)

  op_of_head : IsServed d f → IsHeadPush d push
  op_of_head served = head_push d push (answer_of push backup (segment_of d.head push)) (served_told served)

  -- something is left to be pushed, so one that halts can't be finished
  lags : is_done d ≡ false
  lags = (passes (is_done d) Nothing None (passes d.is_halted Halted _ (push_passed d push running waits)).1).0

  -- ---- refused by a backup

  handed : IsServed d f → IsHanded d backup (segment_of d.head push) (act_now d push)
  handed served =
      let op = op_of_head served in
      let core = served_core d f served in
      record {
        mid = op.mid;
        op = inl op.op;
        within = served_within core;
        works = served_works core;
        lags = lags;
      }

  pub served_not_wrong : IsServed d f → (g : FleetState) (x : TakeFault) → Refuses f backup bytes x g
      → x ≡ take_fault.Wrong → ⊥
  served_not_wrong = refused_right d f running backup (segment_of d.head push) (act_now d push) handed

  pub served_declines : IsServed d f → (g : FleetState) (x : TakeFault) → Refuses f backup bytes x g
      → Declines (world_of d f) Push (refusal_of d backup x) (world_of (failed_data d backup x) g)
  served_declines served =
      refused_declines d f running backup (segment_of d.head push) (act_now d push) handed
      (push_passed d push running waits) (calm_may d calm) (
        kind.Head push,
        log_of (pushed_data d push),
        inl (calm, waits),
        (λ turn. (cc)),
        inl (calm, served_told served),
      ) served

  pub served_failed : (g : FleetState) (x : TakeFault) → Refuses f backup bytes x g
      → StaysServed d f (failed_data d backup x) g
  served_failed = refused_stays d f running backup (segment_of d.head push) (act_now d push) handed

  module _ (core : IsCore (pushed_data d push)) (g : FleetState) (takes : Takes f backup bytes g) where
    pub served_taken : StaysServed d f (pushed_data d push) g
    served_taken = (
      λ kept. well_kept (pushed_data d push) g
          (taken_kept all_lasts d push f (kept_as d f kept running) calm waits (all_ends d f (kept.known running)) core
          g takes),
      λ loaded. well_loaded (pushed_data d push) g
          (taken_kept loading_lasts d push f (loaded_as d f loaded running) calm waits (none_ends d loaded.bare) core
          g takes)
          (pushed_bare d loaded.bare push) ((same_rest d push).2 ∙ running),
    )
