-- A Turn: the new head is made, and its first Open is handed to its backup.
use Rattle.std.proofs.Common.{◌≡◌, ℕ, ◌+◌, inl, inr, Bool, true, false, List, [], ◌∷◌, length, refl}
use Rattle.std.proofs.Common.{sym, ap, subst, ◌∙◌, arith}
use Rattle.std.specs.Prelude.{Option, Some, None, IsSome, Err, if◌then◌else◌}
use Rattle.std.specs.Option.{option_map, option_map_or}
use Rattle.std.proofs.lemmas.List.{take_all}
use Rattle.std.proofs.lemmas.Option.{same_Some}
use Rattle.master_core.specs.cleaner.declared.pass.Pass.{Pass}
use Rattle.master_core.specs.cleaner.Passes.{is_ready as is_ready_pass}
use Rattle.entry.specs.Text.{text_of}
use Rattle.replica.specs.Op.{OpValue, Open as OpenBytes}
use Rattle.replica.specs.Picture.{FleetState}
use Rattle.replica.specs.Take.{Takes, Refuses}
use Rattle.replica.specs.declared.op.TakeFault.{TakeFault}
use Rattle.replica.specs.declared.op.TakeFault.TheVariants as take_fault
use Rattle.log_head.specs.declared.head.Roll.{Roll}
use Rattle.log_head.specs.declared.next.Next.{Next}
use Rattle.log_head.specs.declared.next.Next.TheVariants as nexts
use Rattle.log_head.specs.Head.{HeadValue, IsHeadValue}
use Rattle.log_head.specs.Steps.{lone_start, fresh_head, start_after}
use Rattle.log_head.specs.log_laws.Heads.{Start}
use Rattle.master_core.specs.log_laws.Data.{bare, Opens, FailData}
use Rattle.master_core.specs.log_laws.Shown.{Op}
use Rattle.master_core.specs.log_laws.Steps.{rolling, next_start, OpensNew}
use Rattle.master_core.specs.log_bytes.Ops.{TakesOp, RefusesOp}
use Rattle.master_core.specs.log_bytes.Text.{IsWholeText}
use Rattle.master_core.specs.log_memory.Memory.{FailMemory}
use Rattle.master_core.specs.log_memory.Steps.{MayCommit, commit_start, rolled}
use Rattle.master_core.specs.log_laws.Intact.{IsCommit}
use Rattle.master_core.proofs.log_memory.FleetSteps.{commit_holds_all}
use Rattle.master_core.specs.master_failover.declared.push.Push.TheVariants as push
use Rattle.master_core.specs.master_failover.declared.turning.NewHead.{NewHead}
use Rattle.master_core.specs.master_failover.declared.turning.NewHead.TheVariants as new_head
use Rattle.master_core.specs.master_failover.Mending.{IsNextMend, IsNextOpen, IsNewHead, MayPut, put_data, turned_data}
use Rattle.master_core.specs.master_failover.Mending.{turn_roll}
use Rattle.master_core.specs.master_failover.Mending.{mended_data, opened_more, replica_for}
use Rattle.master_core.specs.master_failover.Mending.{was_headless, backup_for, segment_for, op_now}
use Rattle.master_core.specs.master_failover.Mending.{opening}
use Rattle.master_core.proofs.master_failover.PushKinds.{mend_fails}
use Rattle.master_core.proofs.master_failover.TurnedCore.{turned_core, turned_next, turned_is}
use Rattle.master_core.specs.master_state.declared.ledger.Posting.TheVariants as posting
use Rattle.master_core.specs.master_state.declared.step.Refusal.{Refusal}
use Rattle.master_core.specs.master_state.declared.step.Refusal.TheVariants as refusal
use Rattle.master_core.specs.master_state.declared.step.Step.TheVariants.{Push}
use Rattle.master_core.specs.master_state.declared.step.StepAnswer.TheVariants.{Opened}
use Rattle.master_core.specs.master_state.Budget.{is_ready, may_turn, victims_of, survivors_of}
use Rattle.master_core.specs.master_state.Data.{MasterData}
use Rattle.master_core.specs.master_state.Invariant.{IsCore}
use Rattle.master_core.specs.master_state.Loading.{IsBare}
use Rattle.master_core.specs.master_state.Log.{home, log_of, memory_of}
use Rattle.master_core.specs.master_state.Steps.{halted, listed_in, next_now, start_now}
use Rattle.master_core.proofs.master_state.Posted.{halted_core}
use Rattle.master.specs.Invariant.{IsWellKept, IsWellLoaded, IsServed, StaysServed}
use Rattle.master.specs.Pushes.{IsMendOp, Pushes, first_open, OpensFirst, IsNewValid}
use Rattle.master.specs.Placed.{IsPlaced}
use Rattle.master.specs.Steps.{Declines, FailsTurn}
use Rattle.master.specs.World.{world_of}
use Rattle.master.proofs.Handed.{fault_size, fault_halts, loading_halts, failing_lags}
use Rattle.master.proofs.Lasting.{Lasts, all_lasts, loading_lasts, IsKeptAs, kept_as, well_kept, loaded_as, well_loaded}
use Rattle.master.proofs.Lasting.{unhanded_kept}
use Rattle.master.proofs.LostPlaces.{placed_halted}
use Rattle.master.proofs.MendEnds.{MayMend, IsMendPush}
use Rattle.master.proofs.MendOps.{mend_op, mend_act}
use Rattle.master.proofs.MendPushes.{bytes_op, mend_bytes, few_for_mend}
use Rattle.master.proofs.PushKinds.{mends_on}
use Rattle.master.proofs.MendServed.{mend_passed, served_may, served_push, served_mended, mend_not_wrong}
use Rattle.master.proofs.Refused.{op_of_master}
use Rattle.master.proofs.Served.{served_core}
use Rattle.master.proofs.MendTurns.{IsTurn, turns}
use Rattle.master.proofs.MendedRest.{turned_rest}
use Rattle.master.proofs.Models.{own_holds}
use Rattle.master.proofs.Placing.{core_within}
use Rattle.master.proofs.Rolled.{ready_pass}

-- ---- what a Turn leaves

module _ (d : MasterData) where
  abbrev turned_by : Bool → MasterData
  turned_by t =
      if t then record d {
        head = fresh_head d.config.master d.config.replicas (lone_start d.next d.config.format d.safe);
        next = d.next + 1;
        failover = option_map opening d.failover;
        ledger = posting.Began d.next ∷ d.ledger;
      } else record d {
        head = record d.head { roll = Some (turn_roll d) };
        next = d.next + 1;
        pass =
            option_map (λ (p : Pass). record p { is_committing = is_ready_pass d.config.replicas d.closed p }) d.pass;
        failover = option_map opening d.failover;
        ledger = posting.Began d.next ∷ d.ledger;
      }

  turned_waiting : (turned_data d).waiting ≡ d.waiting
  turned_waiting = go (was_headless d) where
    go : (t : Bool) → (turned_by t).waiting ≡ d.waiting
    go true = refl
    go false = refl

  turned_failed : (turned_data d).failed ≡ d.failed
  turned_failed = go (was_headless d) where
    go : (t : Bool) → (turned_by t).failed ≡ d.failed
    go true = refl
    go false = refl

  start_id : (start_now d).id ≡ d.next
  start_id = go (is_ready d) where
    go : (t : Bool)
        → (if t then start_after d.head (victims_of d.pass) (listed_in d.closed (survivors_of d.pass)) d.next d.safe
        else start_after d.head [] [] d.next d.safe).id ≡ d.next
    go true = refl
    go false = refl

  none_kept : d.pass ≡ None → (turned_data d).pass ≡ None
  none_kept none = go (was_headless d) where
    go : (t : Bool) → (turned_by t).pass ≡ None
    go true = none
    go false =
        ap (option_map (λ (p : Pass). record p { is_committing = is_ready_pass d.config.replicas d.closed p })) none

  turned_bare : IsBare d → IsBare (turned_data d)
  turned_bare bare = record {
    history = (turned_rest d).1 ∙ bare.history;
    pass = none_kept bare.pass;
    waiting = turned_waiting ∙ bare.waiting;
  }

-- ---- the first Open of the new head, as the push that comes next

abbrev opens_by : Bool → Next
opens_by t = if t then nexts.OpenFirst 0 else nexts.OpenNew 0

module _ (d : MasterData) where
  abbrev first_next : Next
  first_next = opens_by (was_headless d)

  open_next : IsNextOpen (turned_data d) 0 → IsNextMend (turned_data d) (push.Head first_next)
  open_next = go (was_headless d) where
    go : (t : Bool) → IsNextOpen (turned_by d t) 0 → IsNextMend (turned_by d t) (push.Head (opens_by t))
    go true is = (is, refl)
    go false is = (is, refl)

  open_counts : mended_data (turned_data d) (push.Head first_next) ≡ mended_data d push.Turn
  open_counts = go (was_headless d) where
    go : (t : Bool) → mended_data (turned_by d t) (push.Head (opens_by t)) ≡ opened_more (turned_by d t) 0
    go true = refl
    go false = refl

  open_asks : (o : Op) (e : FailData) → IsMendOp (turned_data d) (push.Head first_next) o e
      → OpensNew (log_of (turned_data d)) o e
  open_asks o e = go (was_headless d) where
    go : (t : Bool) → IsMendOp (turned_by d t) (push.Head (opens_by t)) o e → OpensNew (log_of (turned_by d t)) o e
    go true is = is
    go false is = is

  open_segment : segment_for (turned_data d) (push.Head first_next) ≡ d.next
  open_segment = go (was_headless d) where
    go : (t : Bool) → segment_for (turned_by d t) (push.Head (opens_by t)) ≡ d.next
    go true = refl
    go false = start_id d

  open_replica : replica_for (push.Head first_next) ≡ 0
  open_replica = go (was_headless d) where
    go : (t : Bool) → replica_for (push.Head (opens_by t)) ≡ 0
    go true = refl
    go false = refl

  -- its op
  first_bytes : (new : NewHead) → IsNewHead d new
      → op_now (turned_data d) (push.Head first_next) ≡ Some (first_open d.config.master d.next new)
  first_bytes (new_head.First h) made =
      let image = (fresh_head d.config.master d.config.replicas (lone_start d.next d.config.format d.safe)).image in
      ap (λ (t : Bool). op_now (turned_by d t) (push.Head (opens_by t))) made.0
      ∙ ap (λ (bs : List ℕ). Some (record { master = d.config.master; segment = d.next; act = OpenBytes bs }))
      (take_all (length (text_of image)) (text_of image) (omega arith))
      ∙ ap (λ (h : HeadValue). Some (first_open d.config.master d.next (new_head.First h))) (sym made.1)
  first_bytes (new_head.Next r) made =
      ap (λ (t : Bool). op_now (turned_by d t) (push.Head (opens_by t))) made.0
      ∙ ap (λ (s : ℕ). Some (record {
        master = d.config.master;
        segment = s;
        act = OpenBytes (text_of (turn_roll d).image);
      })) (start_id d)
      ∙ ap (λ (q : Roll). Some (first_open d.config.master d.next (new_head.Next q))) (sym made.1)

-- ---- the log, memory and the fleet

-- the commit of a pass that is ready keeps what holds
abbrev pub CommitOpens : (FailData → FailMemory → FleetState → Type 0) → MasterData → FleetState → Type 0
CommitOpens Holds d f =
    is_ready d ≡ true
    → MayCommit (log_of d) (memory_of d) (commit_start (log_of d) (memory_of d))
    (Opens (commit_start (log_of d) (memory_of d)))
    → IsWholeText d.config.master d.next (bare (commit_start (log_of d) (memory_of d)))
    → Holds (rolling (log_of d) (commit_start (log_of d) (memory_of d))
    (Opens (commit_start (log_of d) (memory_of d))))
    (rolled (log_of d) (memory_of d) (commit_start (log_of d) (memory_of d)) true) f

module _ {Holds : FailData → FailMemory → FleetState → Type 0} (lasts : Lasts Holds) (d : MasterData) (f : FleetState)
    (kept : IsKeptAs Holds d f) (commit : CommitOpens Holds d f) (turn : IsTurn d)
    (later : IsCore (turned_data d)) where
  abbrev next_of : Bool → Start
  next_of ready = if ready then commit_start (log_of d) (memory_of d) else next_start (log_of d)

  abbrev IsHead : Bool → Type 0
  IsHead t = IsWholeText d.config.master (next_of t).id (bare (next_of t))

  rolled_by : (t : Bool) → is_ready d ≡ t → Holds (rolling (log_of d) (next_of t) (Opens (next_of t)))
      (rolled (log_of d) (memory_of d) (next_of t) t) f
  rolled_by true ready =
      commit ready (record {
        may = inr (turn.mode, refl);
        real = turn.real ready;
        ready = ready_pass d kept.core kept.placed ready;
        commit = subst (λ (t : Bool). IsCommit (log_of d).head.start (memory_of d).pass (next_of t)) ready
            (turn.commit ready);
        next = refl;
        lens = refl;
        safe = refl;
      }) (subst IsHead ready turn.whole)
  rolled_by false unready =
      lasts.roll (log_of d) (memory_of d) f (Opens (next_start (log_of d))) kept.holds
      (record { may = inr (turn.mode, refl); some = turn.none }) (subst IsHead unready turn.whole)

  turned_holds : Holds (log_of (turned_data d)) (rolled (log_of d) (memory_of d) (next_now d) (is_ready d)) f
  turned_holds =
      subst (λ (l : FailData). Holds l (rolled (log_of d) (memory_of d) (next_now d) (is_ready d)) f) (sym turn.log)
      (rolled_by (is_ready d) refl)

  pub turned_kept : IsKeptAs Holds (turned_data d) f
  turned_kept =
      unhanded_kept d (turned_data d) f kept later turn.placed (turned_rest d).0 (turned_waiting d)
      (own_holds lasts (turned_data d) later (rolled (log_of d) (memory_of d) (next_now d) (is_ready d)) f turned_holds
      turn.model)

-- one that is loading has no pass to commit
unready : (d : MasterData) → IsBare d → is_ready d ≡ true → ⊥
unready d bare ready =
    let never : false ≡ true =
    sym (ap (λ (o : Option Pass). option_map_or (is_ready_pass d.config.replicas d.closed) o false) bare.pass)
    ∙ ready in
    cc

-- ---- it may not be

-- a master that halts, though no backup was asked
pub stuck_served : (d : MasterData) (f : FleetState) → IsSome d.failover → StaysServed d f (halted d) f
stuck_served d f failing = (
  λ kept. record {
    core = halted_core d kept.core;
    placed = placed_halted d kept.placed;
    kept = kept.kept;
    known = λ never. absurd (cc);
    backups = kept.backups;
    apart = kept.apart;
  },
  λ loaded. loading_halts d f loaded (failing_lags d failing) f (record { backups = refl }),
)

-- ---- the Turn

module _ (d : MasterData) (f : FleetState) (running : d.is_halted ≡ false) (next : IsNextMend d push.Turn)
    (served : IsServed d f) (may : may_turn d ≡ true) (new : NewHead) (made : IsNewHead d new) where
  core : IsCore d
  core = served_core d f served

  abbrev t : MasterData
  t = turned_data d

  pub put_valid : (x : NewHead) → MayPut d.head x → IsNewValid x → IsHeadValue (put_data x d.head)
  put_valid (new_head.First h) put valid = valid
  put_valid (new_head.Next r) put valid =
      let head = core.head in
      record {
        segment = head.segment;
        limit = head.limit;
        units = head.units;
        opened = head.opened;
        few = head.few;
        taken = head.taken;
        roll = put.1;
      }

  -- the core, once the head that is put is valid
  pub turning_core : IsHeadValue (put_data new d.head) → IsCore (turned_data d)
  turning_core valid =
      turned_core d core next may
      (subst (λ (m : MasterData). IsHeadValue m.head) (turned_is d core next new made) valid)

  module _ (valid : IsHeadValue (put_data new d.head)) where
    later : IsCore (turned_data d)
    later = turning_core valid

    turn_of : IsCore d → IsPlaced d → IsTurn d
    turn_of own p = turns d (record { core = own; placed = p; next = next; later = later })

    t_running : (turned_data d).is_halted ≡ false
    t_running = (turned_rest d).2 ∙ running

    turns_kept : IsWellKept d f → IsWellKept (turned_data d) f
    turns_kept kept =
        well_kept (turned_data d) f (turned_kept all_lasts d f (kept_as d f kept running)
        (λ ready now whole. commit_holds_all (log_of d) (memory_of d) f (commit_start (log_of d) (memory_of d))
        (Opens (commit_start (log_of d) (memory_of d))) (kept.known running) now whole)
        (turn_of kept.core kept.placed) later)

    turns_loaded : IsWellLoaded d f → IsWellLoaded (turned_data d) f
    turns_loaded loaded =
        well_loaded (turned_data d) f (turned_kept loading_lasts d f (loaded_as d f loaded running)
        (λ ready now whole. absurd (unready d loaded.bare ready)) (turn_of loaded.core loaded.placed) later)
        (turned_bare d loaded.bare) t_running

    t_served : IsServed (turned_data d) f
    t_served = elim served as (λ _. IsServed (turned_data d) f) [
      | inl kept ↦ inl (turns_kept kept)
      | inr loaded ↦ inr (turns_loaded loaded)
    ]

    turn : IsTurn d
    turn = elim served as (λ _. IsTurn d) [
      | inl kept ↦ turn_of kept.core kept.placed
      | inr loaded ↦ turn_of loaded.core loaded.placed
    ]

    t_next : IsNextMend (turned_data d) (push.Head (first_next d))
    t_next = open_next d (turned_next d core next)

    open_may : MayMend (turned_data d) (push.Head (first_next d))
    open_may = served_may (turned_data d) (push.Head (first_next d)) f t_running t_next tt tt t_served

    -- ---- its op

    same_backup : backup_for d push.Turn ≡ backup_for (turned_data d) (push.Head (first_next d))
    same_backup =
        λ i. home (sym (turned_rest d).0 i) (sym (turned_failed d) i) (sym (open_segment d) i) (sym (open_replica d) i)

    same_bytes : first_open d.config.master d.next new ≡ bytes_op (turned_data d) (push.Head (first_next d))
    same_bytes =
        same_Some (first_open d.config.master d.next new) (bytes_op (turned_data d) (push.Head (first_next d)))
        (sym (first_bytes d new made) ∙ mend_bytes (turned_data d) (push.Head (first_next d)) open_may tt)

    refuses : (g : FleetState) (x : TakeFault)
        → Refuses f (backup_for d push.Turn) (first_open d.config.master d.next new) x g
        → Refuses f (backup_for (turned_data d) (push.Head (first_next d)))
        (bytes_op (turned_data d) (push.Head (first_next d))) x g
    refuses g x = subst (λ (y : ℕ × OpValue). Refuses f y.0 y.1 x g) (λ i. (same_backup i, same_bytes i))

    takes : (g : FleetState) → Takes f (backup_for d push.Turn) (first_open d.config.master d.next new) g
        → TakesOp (turned_data d).config.master f (mend_op (turned_data d) (push.Head (first_next d))) g
    takes g = subst (λ (y : ℕ × OpValue). Takes f y.0 y.1 g) (λ i. (same_backup i, same_bytes i))

    pub turn_not_wrong : (g : FleetState)
        → Refuses f (backup_for d push.Turn) (first_open d.config.master d.next new) take_fault.Wrong g → ⊥
    turn_not_wrong g refused =
        mend_not_wrong (turned_data d) (push.Head (first_next d)) f t_running t_next tt tt tt t_served g
        take_fault.Wrong
        (refuses g take_fault.Wrong refused) refl

    opening_push : IsMendPush (turned_data d) (push.Head (first_next d))
    opening_push = served_push (turned_data d) (push.Head (first_next d)) f t_running t_next tt tt t_served

    opens : (e : FailData) → IsMendOp (turned_data d) (push.Head (first_next d))
        (mend_op (turned_data d) (push.Head (first_next d))) e
        → (n : Start) × OpensNew (rolling (log_of d) n (Opens n)) (mend_op (turned_data d) (push.Head (first_next d))) e
    opens e is = (
      next_now d,
      subst (λ (l : FailData). OpensNew l (mend_op (turned_data d) (push.Head (first_next d))) e) turn.log
          (open_asks d (mend_op (turned_data d) (push.Head (first_next d))) e is),
    )

    counted : IsCore (mended_data d push.Turn) → IsCore (mended_data (turned_data d) (push.Head (first_next d)))
    counted = subst IsCore (sym (open_counts d))

    -- ---- it was taken

    pub turn_mends : IsCore (mended_data d push.Turn) → (g : FleetState)
        → Takes f (backup_for d push.Turn) (first_open d.config.master d.next new) g
        → Pushes (world_of d f) (Opened (backup_for d push.Turn) d.next) (world_of (mended_data d push.Turn) g)
    turn_mends own g took =
        mends_on (world_of d f) (Opened (backup_for d push.Turn) d.next) (world_of (mended_data d push.Turn) g)
        (record {
          op = mend_op (turned_data d) (push.Head (first_next d));
          running = running;
          failing = mend_fails d push.Turn next;
          mend = push.Turn;
          next = next;
          may = λ turn. may;
          does = subst (λ (x : MasterData). IsMendOp d push.Turn (mend_op (turned_data d) (push.Head (first_next d)))
              (log_of x))
              (open_counts d)
              (opens (log_of (mended_data (turned_data d) (push.Head (first_next d))))
              (opening_push.does (counted own)));
          told = refl;
          rest = refl;
          takes = subst (λ (c : _). TakesOp c.master f (mend_op (turned_data d) (push.Head (first_next d))) g)
              (turned_rest d).0
              (takes g took);
        })

    pub turn_mended : IsCore (mended_data d push.Turn) → (g : FleetState)
        → Takes f (backup_for d push.Turn) (first_open d.config.master d.next new) g
        → StaysServed d f (mended_data d push.Turn) g
    turn_mended own g took =
        let both = served_mended (turned_data d) (push.Head (first_next d)) f t_running t_next tt tt (counted own) g
        (takes g took) in (
          λ kept. subst (λ (x : MasterData). IsWellKept x g) (open_counts d) (both.0 (turns_kept kept)),
          λ loaded. subst (λ (x : MasterData). IsWellLoaded x g) (open_counts d) (both.1 (turns_loaded loaded)),
        )

    -- ---- nobody knows whether it was

    pub turn_faults : (g : FleetState)
        → Refuses f (backup_for d push.Turn) (first_open d.config.master d.next new) take_fault.Fault g
        → FailsTurn (world_of d f) refusal.Halted (world_of (halted (turned_data d)) g)
    turn_faults g refused = (
      next,
      may,
      refl,
      refl,
      (
        mend_op (turned_data d) (push.Head (first_next d)),
        opening_push.asks.0,
        opens opening_push.asks.0 opening_push.asks.1,
        subst (λ (c : _). RefusesOp c.master f (mend_op (turned_data d) (push.Head (first_next d))) take_fault.Fault g)
            (turned_rest d).0 (refuses g take_fault.Fault refused),
      ),
    )

    pub turn_halts : (g : FleetState)
        → Refuses f (backup_for d push.Turn) (first_open d.config.master d.next new) take_fault.Fault g
        → StaysServed d f (halted (turned_data d)) g
    turn_halts g refused =
        let now = refuses g take_fault.Fault refused in
        let o = push.Head (first_next d) in (
          λ kept.
              let own = turns_kept kept in
              let is = served_push (turned_data d) o f t_running t_next tt tt (inl own) in
              fault_halts (turned_data d) f own t_running (backup_for (turned_data d) o) (segment_for (turned_data d) o)
              (mend_act (turned_data d) o) is.mid (memory_of (turned_data d))
              (op_of_master (log_of (turned_data d)) is.mid (memory_of (turned_data d)) _ is.op)
              (core_within (turned_data d) later (segment_for (turned_data d) o) (replica_for o)
              (few_for_mend (turned_data d) o later t_next tt)) g now,
          λ loaded.
              loading_halts (turned_data d) f (turns_loaded loaded)
              (failing_lags (turned_data d) (mend_fails (turned_data d) o t_next)) g
              (fault_size f (backup_for (turned_data d) o) (bytes_op (turned_data d) o) g now),
        )

-- ---- it wasn't taken

pub turn_declines : (d : MasterData) (f : FleetState) → d.is_halted ≡ false → (next : IsNextMend d push.Turn)
    → may_turn d ≡ true → (b : ℕ) (handed : OpValue) (r : Refusal) (g : FleetState) → OpensFirst f b handed (Err r) g
    → Declines (world_of d f) Push r (world_of d g) × (g ≡ f)
turn_declines d f running next may b handed refusal.NoMemory g is = (
  inr (
    mend_passed d running (mend_fails d push.Turn next),
    inr (inr (λ turn. may, ap (λ (h : FleetState). world_of d h) is)),
  ),
  is,
)
turn_declines d f running next may b handed refusal.Spent g is = (
  inr (
    mend_passed d running (mend_fails d push.Turn next),
    inr (inr (λ turn. may, (is.0, ap (λ (h : FleetState). world_of d h) is.1))),
  ),
  is.1,
)
turn_declines d f running next may b handed _ g is = absurd is
