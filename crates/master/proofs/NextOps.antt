-- The op of a push is the one that comes next in the log.
use Rattle.std.proofs.Common.{◌≡◌, ℕ, zero, suc, [], ◌∷◌, ◌++◌, ◌<◌, ◌≤◌, Bool, true, false, inl, inr, List, length}
use Rattle.std.proofs.Common.{Some, refl, sym, ap, subst, ◌∙◌, arith}
use Rattle.std.specs.Prelude.{Option, None, IfSome, not, slice_get, unwrap_or, ◌==◌, if◌then◌else◌}
use Rattle.std.specs.List.{AllByRecursion}
use Rattle.std.specs.Option.{option_map_or}
use Rattle.std.proofs.lemmas.Bool.{le-leb, eqb-true}
use Rattle.std.proofs.lemmas.Bool.Decides.{nat_tests}
use Rattle.std.proofs.lemmas.List.{length-append, length-set}
use Rattle.std.proofs.lemmas.Option.{same_Some, slice_get_within}
use Rattle.master_core.specs.cleaner.declared.pass.Pass.{Pass}
use Rattle.entry.specs.declared.entry.Entry.{Entry}
use Rattle.entry.specs.Text.{Opening, text_of, opening_of as opening_at}
use Rattle.replica.specs.Op.{ActValue, Open as OpenBytes, Extend as ExtendBytes}
use Rattle.log_head.specs.declared.head.Roll.{Roll}
use Rattle.log_head.specs.declared.next.Next.{Next}
use Rattle.log_head.specs.declared.next.Next.TheVariants as next
use Rattle.log_head.specs.Head.{HeadValue}
use Rattle.log_head.specs.Log.{start_in, head_of, start_of, units_from}
use Rattle.log_head.specs.Next.{IsWholeHead, IsNextPush, units_of, segment_of, act_of}
use Rattle.log_head.specs.Steps.{with_opened_replica, with_all_taken, with_new_replica, in_force}
use Rattle.log_head.proofs.HeadLog.{end_is, front_is, part_is, count_is}
use Rattle.log_head.proofs.RollLog.{head_in_force}
use Rattle.log_head.proofs.Rolls.{rolls, zeros_length}
use Rattle.log_head.specs.log_laws.Heads.{Head as LogHead, start_entries, entries_of}
use Rattle.log_head.specs.log_laws.Ids.{has, without}
use Rattle.log_head.specs.log_laws.Ops.{op_of}
use Rattle.log_head.specs.log_laws.HeadSteps.{units_between}
use Rattle.master_core.specs.log_laws.Data.{Head, front, bare, Calm, Rolls, FailData, HasTaken, IsHome}
use Rattle.master_core.specs.log_laws.Shown.{Act, Open, Extend, Close, Op, On}
use Rattle.master_core.specs.log_laws.Steps.{with_taken, with_count, ended, EndsRoll, OpensNew, ClosesOld}
use Rattle.master_core.specs.log_laws.Text.{length_of}
use Rattle.master_core.specs.log_bytes.Ops.{act_for, log_op_for}
use Rattle.master_core.proofs.log_bytes.Texts.{length_is}
use Rattle.master_core.specs.log_memory.Ops.{IsHeadOp}
use Rattle.master_core.specs.master_state.declared.failover.Failover.{Failover}
use Rattle.master_core.specs.master_state.declared.ledger.Posting.{Posting}
use Rattle.master_core.specs.master_state.declared.ledger.Posting.TheVariants as posting
use Rattle.master_core.specs.master_state.declared.step.StepAnswer.{StepAnswer}
use Rattle.master_core.specs.master_state.declared.step.StepAnswer.TheVariants.{Applied, Opened, Extended, Closed}
use Rattle.master_core.specs.master_state.declared.step.StepAnswer.TheVariants.{Rolling}
use Rattle.master_core.specs.master_state.declared.step.StepAnswer.TheVariants.{Compacted, Begun, Moved, Carried}
use Rattle.master_core.specs.master_state.declared.step.StepAnswer.TheVariants.{Dropped}
use Rattle.master_core.specs.master_state.declared.step.StepAnswer.TheVariants.{Sealed, Freed, Raised, Repaired}
use Rattle.master_core.specs.master_state.Data.{MasterData}
use Rattle.master_core.specs.master_state.Images.{with_closed}
use Rattle.master_core.specs.master_state.Invariant.{IsRollOf, IsCore}
use Rattle.master_core.specs.master_state.Ledger.{took_in, counts_in, shut_in, ended_with}
use Rattle.master_core.specs.master_state.Log.{home, placed, fail_config, opening_of, is_opened, failing_mode, log_of}
use Rattle.master_core.specs.master_state.Steps.{pass_ended, roll_ended, closed_data, backup_of, pushed_data}
use Rattle.master_core.proofs.master_state.Imaging.{same_id, other_id}
use Rattle.master.specs.Placed.{closed_by, closed_now, holders, is_opening, IsPlaced}
use Rattle.master.specs.Pushes.{IsAfter, ExtendsNext, IsNextOp, answer_of}
use Rattle.master.proofs.Counting.{AreUnfailed}
use Rattle.master.proofs.InForce.{real_head, none_head, mode_by, force_headed, force_headless, headed, headless}
use Rattle.master.proofs.InForce.{mode_opened, mode_unopened, new_unopened, new_now}
use Rattle.master.proofs.Placing.{placed_length, home_placed, IsAmongPlaced, placed_home, core_left, core_later}
use Rattle.master.proofs.Placing.{left_has, has_left, left_not, all_work, left_more}

-- what a push does to the replica that it is for
abbrev pub act_now : MasterData → Next → Act
act_now d (next.OpenFirst j) = Open (bare (head_of d.head).start)
act_now d (next.Extend j) =
    Extend (length_of (front (real_head d.head) (units_of d.head j)))
    (entries_of (units_between (head_of d.head).units (units_of d.head j) (length d.head.units)))
act_now d (next.OpenWhole j) = Open (front (real_head d.head) (length d.head.units))
act_now d (next.OpenNew j) = Open (bare (option_map_or start_of d.head.roll (head_of d.head).start))
act_now d (next.CloseOld j) = Close

-- the op of a push as the log sees it
abbrev pub push_op : MasterData → Next → Op
push_op d push = On (backup_of d push) (segment_of d.head push) (act_now d push)

-- ---- lists

-- all of them have it, so one of them has
pub every : (P : ℕ → Type 0) (ns : List ℕ) (i n : ℕ) → AllByRecursion P ns → slice_get ns i ≡ Some n → P n
every P [] i n each has = absurd (cc)
every P (m ∷ ns) zero n each has = subst P (same_Some m n has) each.0
every P (m ∷ ns) (suc i) n each has = every P ns i n each.1 has

-- there is one at each place
there : (ns : List ℕ) (i : ℕ) → i < length ns → (n : ℕ) × (slice_get ns i ≡ Some n)
there [] i lt = absurd (omega arith)
there (n ∷ ns) zero lt = (n, refl)
there (n ∷ ns) (suc i) lt = there ns i (omega arith)

-- ---- the log by whether the first head is open

-- and by the failover that is open
abbrev log_at : MasterData → Option Failover → Bool → FailData
log_at d o t = record {
  config = fail_config d.config;
  opening = opening_of d;
  history = d.history;
  head = if option_map_or (λ (f : Failover). f.is_first) o (not t) then none_head d.config.format else real_head d.head;
  counts = counts_in d.ledger;
  shut = shut_in d.ledger;
  mode = option_map_or (failing_mode d.head) o (if t then mode_by d.head.roll else Rolls (head_of d.head).start);
  abandoned = d.abandoned;
  took = took_in d.ledger;
  failed = d.failed;
  frozen = option_map_or (λ (f : Failover). f.frozen) o 0;
  next = d.next;
}

abbrev log_by : MasterData → Bool → FailData
log_by d t = log_at d None t

pub log_is : (d : MasterData) → d.failover ≡ None → (t : Bool) → is_opened d.head ≡ t → log_of d ≡ log_by d t
log_is d calm t is = (λ i. log_at d (calm i) (is i))

-- how many replicas of the old head are closed, by a roll that is under way
abbrev pub closed_of : Option Roll → ℕ
closed_of roll = option_map_or (λ (r : Roll). r.closed) roll 0

pub closed_calm : (d : MasterData) → d.failover ≡ None → closed_now d ≡ closed_of d.head.roll
closed_calm d calm =
    ap (λ (o : Option Failover). option_map_or (λ (r : Roll). r.closed) d.head.roll (closed_by o)) calm

-- without a failover no new head of one is opened
pub never_opens : (o : Option Failover) → o ≡ None → is_opening o ≡ true → ⊥
never_opens o calm is = (let never : true ≡ false = sym is ∙ ap is_opening calm in cc)

pub opened_is : (h : HeadValue) → length h.taken ≡ h.replicas → is_opened h ≡ true
opened_is h all = le-leb h.replicas (length h.taken) (omega arith)

pub unopened_is : (h : HeadValue) → length h.taken < h.replicas → is_opened h ≡ false
unopened_is h few = grind (arith, nat_tests)

unequal : (a b : ℕ) → (a == b) ≡ false → a ≡ b → ⊥
unequal a b is same =
    let never : true ≡ false = sym (same_id a) ∙ ap (λ (k : ℕ). a == k) same ∙ is in cc

pub start_id : (r : Roll) → (start_of r).id ≡ r.id
start_id r = go (opening_at r.image) where
  go : (o : Option Opening) → (start_in r.id o).id ≡ r.id
  go None = refl
  go (Some o) = refl

-- ---- the op in bytes

module _ (d : MasterData) (core : IsCore d) where
  pub roll_of : (r : Roll) → d.head.roll ≡ Some r → IsRollOf d r
  roll_of r is = subst (λ (o : Option Roll). IfSome o (IsRollOf d)) is core.roll

  counts : length d.head.units ≡ length (head_of d.head).units
  counts = count_is d.config.master d.head (head_of d.head) core.image

  pub segment_new : (j : ℕ) (r : Roll) → d.head.roll ≡ Some r → segment_of d.head (next.OpenNew j) ≡ r.id
  segment_new j r is = ap (λ (o : Option Roll). option_map_or (λ (q : Roll). q.id) o d.head.id) is

  module _ (calm : d.failover ≡ None) where
    acts : (push : Next) → IsNextPush d.head (Some push)
        → act_of d.head push ≡ act_for d.config.master (segment_of d.head push) (act_now d push)
    acts (next.OpenFirst j) waits =
        let n = (head_of d.head).start in
        let first = core.first (headless d calm
        (unopened_is d.head (let at = waits.0 in let lt = waits.1 in omega arith))) in
        ap OpenBytes (front_is d.config.master d.head (head_of d.head) core.image 0
        ∙ ap (λ (es : List Entry). text_of (start_entries d.config.master n ++ (es ++ []))) first.loaded)
        ∙ ap (λ (s : ℕ). act_for d.config.master s (Open (bare n))) core.image.id
    acts (next.Extend j) waits =
        let from = units_of d.head j in
        let units : from ≡ waits.1.0 = ap (λ (x : Option ℕ). unwrap_or x 0) waits.1.1 in
        (λ i. ExtendBytes ((end_is d.config.master d.head (head_of d.head) core.image from
        ∙ length_is d.config.master (head_of d.head).start.id (front (real_head d.head) from)) i)
        (part_is d.config.master d.head (head_of d.head) core.image from (length d.head.units)
        (let lt = waits.1.2 in let same = units in omega arith) i))
    acts (next.OpenWhole j) waits = absurd waits
    acts (next.OpenNew j) waits =
        let r = waits.1 in
        let roll = waits.2 in
        let master = d.config.master in
        let n = start_of r in
        ap (λ (o : Option Roll). OpenBytes (option_map_or (λ (q : Roll). text_of q.image) o [])) roll
        ∙ ap (λ es. OpenBytes (text_of es)) (roll_of r roll).image
        ∙ ap (λ (s : ℕ). act_for master s (Open (bare n))) (start_id r ∙ sym (segment_new j r roll))
        ∙ ap (λ (o : Option Roll). act_for master (segment_of d.head (next.OpenNew j))
        (Open (bare (option_map_or start_of o (head_of d.head).start)))) (sym roll)
    acts (next.CloseOld j) waits = refl

    -- the fleet is handed just this op
    pub op_bytes : (push : Next) → IsNextPush d.head (Some push)
        → record { master = d.config.master; segment = segment_of d.head push; act = act_of d.head push }
        ≡ op_of d.config.master
        (log_op_for d.config.master (backup_of d push) (segment_of d.head push) (act_now d push))
    op_bytes push waits =
        ap (λ (a : ActValue). record { master = d.config.master; segment = segment_of d.head push; act = a })
        (acts push waits)

-- ---- a replica of a first head

module _ (d : MasterData) (core : IsCore d) (placed_now : IsPlaced d) (calm : d.failover ≡ None)
    (unfailed : AreUnfailed d) where
  abbrev few_homes : (j : ℕ) → j < d.head.replicas → j < d.config.replicas
  few_homes j lt = let same = core.replicas in omega arith

  module _ (j : ℕ) (waits : IsNextPush d.head (Some (next.OpenFirst j))) where
    abbrev first_backup : ℕ
    first_backup = home d.config d.failed d.head.id j

    abbrev first_mid : FailData
    first_mid = record (log_of d) { took = with_taken (took_in d.ledger) (head_of d.head).start.id first_backup }

    pub unopened : is_opened d.head ≡ false
    unopened = unopened_is d.head (let at = waits.0 in let lt = waits.1 in omega arith)

    pub no_roll : d.head.roll ≡ None
    no_roll = go d.head.roll refl where
      go : (o : Option Roll) → d.head.roll ≡ o → d.head.roll ≡ None
      go None none = none
      go (Some r) is = absurd (
          let whole = (rolls d.head r core.head is).whole in
          let at = waits.0 in let lt = waits.1 in omega arith)

    none_now : (log_of d).head ≡ none_head d.config.format
    none_now = force_headless d (headless d calm unopened)

    -- none of those that took the first head has failed
    took_first : took_in d.ledger (head_of d.head).start.id
        ≡ placed d.config d.failed d.head.id (length d.head.taken)
    took_first =
        sym (all_work d.failed (took_in d.ledger (head_of d.head).start.id)
        (λ b took. unfailed.new (head_of d.head).start b (new_unopened d calm unopened) took))
        ∙ ap (holders d) core.image.id ∙ placed_now.head

    nobody : (c : ℕ) → HasTaken (log_of d) (log_of d).head.start.id c → ⊥
    nobody c took =
        let never : false ≡ true =
        sym (ap (λ (h : Head). has (took_in d.ledger h.start.id) c) none_now
        ∙ ap (λ (bs : List ℕ). has bs c) (placed_now.none (headless d calm unopened))) ∙ took in
        cc

    opens : OpensNew (log_of d) (push_op d (next.OpenFirst j)) first_mid
    opens = record {
      b = first_backup;
      n = (head_of d.head).start;
      mode = inl (mode_unopened d calm unopened);
      works = core_left d core d.head.id j (few_homes j waits.1);
      apart = ap (λ (bs : List ℕ). has bs first_backup) took_first
          ∙ core_later d core d.head.id (length d.head.taken) j
          (let at = waits.0 in omega arith) (few_homes j waits.1);
      few = (let count = ap length took_first ∙ placed_length d.config d.failed d.head.id (length d.head.taken) in
          let at = waits.0 in let lt = few_homes j waits.1 in omega arith);
      whole = λ c is. absurd (nobody c is.0);
      enough = inl (ap (λ (h : Head). h.start.id) none_now);
      op = ap (λ (s : ℕ). On first_backup s (Open (bare (head_of d.head).start))) (sym core.image.id);
      gives = refl;
    }

    abbrev first_posts : List Posting
    first_posts = posting.Took d.head.id first_backup ∷ d.ledger

    abbrev opened_with : List Posting → MasterData
    opened_with ps = record d { head = with_opened_replica d.head; ledger = ps }

    took_is : with_taken (took_in d.ledger) d.head.id first_backup
        ≡ with_taken (took_in d.ledger) (head_of d.head).start.id first_backup
    took_is = ap (λ (s : ℕ). with_taken (took_in d.ledger) s first_backup) (sym core.image.id)

    pub more_taken : length (d.head.taken ++ 0 ∷ []) ≡ suc (length d.head.taken)
    more_taken = (let sum = length-append d.head.taken (0 ∷ []) in omega (arith, sum))

    first_more : suc j < d.head.replicas → log_of (opened_with first_posts) ≡ first_mid
    first_more lt =
        let still : is_opened (with_opened_replica d.head) ≡ false =
        unopened_is (with_opened_replica d.head) (let at = waits.0 in let count = more_taken in omega arith) in
        log_is (opened_with first_posts) calm false still
        ∙ (λ i. record (log_by d false) { took = took_is i })
        ∙ ap (λ (l : FailData). record l {
          took = with_taken (took_in d.ledger) (head_of d.head).start.id
              first_backup;
        }) (sym (log_is d calm false unopened))

    first_last : suc j ≡ d.head.replicas
        → log_of (opened_with (posting.Ended ∷ first_posts)) ≡ ended first_mid (head_of d.head).start Calm
    first_last last =
        let all : is_opened (with_opened_replica d.head) ≡ true =
        opened_is (with_opened_replica d.head) (let at = waits.0 in let count = more_taken in omega arith) in
        let first = core.first (headless d calm unopened) in
        log_is (opened_with (posting.Ended ∷ first_posts)) calm true all
        ∙ (λ i. record (log_by d true) {
          head = record {
            start = (head_of d.head).start;
            loaded = first.loaded i;
            units = units_from (text_of d.head.image) d.head.base (first.units i);
          };
          counts = λ b. 0;
          shut = [];
          mode = mode_by (no_roll i);
          abandoned = core.abandoned calm i;
          took = took_is i;
        })
        ∙ ap (λ (l : FailData). ended (record l {
          took = with_taken (took_in d.ledger) (head_of d.head).start.id
              first_backup;
        }) (head_of d.head).start Calm) (sym (log_is d calm false unopened))

    first_ends : suc j ≡ d.head.replicas → EndsRoll first_mid (head_of d.head).start Calm
    first_ends last = record {
      may = inl (mode_unopened d calm unopened, refl);
      opened = opened;
      shut = λ b is. absurd (nobody_then b is.0);
    } where
      opened : d.config.replicas ≤ length (with_taken (took_in d.ledger) (head_of d.head).start.id first_backup
          (head_of d.head).start.id)
      opened =
          let own = same_id (head_of d.head).start.id in
          let count = ap length took_first ∙ placed_length d.config d.failed d.head.id (length d.head.taken) in
          let same = core.replicas in
          let at = waits.0 in
          rw own (omega arith)

      other : ((log_of d).head.start.id == (head_of d.head).start.id) ≡ false
      other =
          ap (λ (h : Head). h.start.id == (head_of d.head).start.id) none_now
          ∙ other_id 0 (head_of d.head).start.id (λ same. (
          let real = core.real in let id = core.image.id in omega arith))

      nobody_then : (b : ℕ) → HasTaken first_mid first_mid.head.start.id b → ⊥
      nobody_then b took =
          let was = took_in d.ledger (log_of d).head.start.id in
          nobody b (subst (λ (t : Bool). has (if t then first_backup ∷ was else was) b ≡ true) other took)

    abbrev FirstAfter : Bool → Type 0
    FirstAfter t = IsAfter first_mid (log_of (opened_with (ended_with t first_posts)))

    first_after : IsAfter first_mid (log_of (pushed_data d (next.OpenFirst j)))
    first_after = go (suc j == d.config.replicas) refl where
      go : (t : Bool) → (suc j == d.config.replicas) ≡ t → FirstAfter (suc j == d.config.replicas)
      go true is =
          let last : suc j ≡ d.head.replicas = (let at = eqb-true (suc j) d.config.replicas is in
          let same = core.replicas in omega arith) in
          subst FirstAfter (sym is) (inr ((head_of d.head).start, first_ends last, first_last last))
      go false is =
          let more : suc j < d.head.replicas = (let same = core.replicas in let lt = waits.1 in
          let other = unequal (suc j) d.config.replicas is in omega arith) in
          subst FirstAfter (sym is) (inl (first_more more))

    pub first_told : ((mid : FailData) × OpensNew (log_of d) (push_op d (next.OpenFirst j)) mid
        × IsAfter mid (log_of (pushed_data d (next.OpenFirst j))))
    first_told = (first_mid, opens, first_after)

-- a home on which the head is closed has all its units
abbrev pub WholeOnceShut : MasterData → Type 0
WholeOnceShut d = (b : ℕ) → IsHome (log_of d) (log_of d).head.start.id b → has (shut_in d.ledger) b ≡ true
    → counts_in d.ledger b ≡ length (log_of d).head.units

-- ---- a head that is open

module _ (d : MasterData) (core : IsCore d) (placed_now : IsPlaced d) (calm : d.failover ≡ None)
    (unfailed : AreUnfailed d) (all : length d.head.taken ≡ d.head.replicas) where
  opened : is_opened d.head ≡ true
  opened = opened_is d.head all

  force : (log_of d).head ≡ real_head d.head
  force = force_headed d (headed d calm opened)

  replicas : length d.head.taken ≡ d.config.replicas
  replicas = all ∙ core.replicas

  head_id : (log_of d).head.start.id ≡ d.head.id
  head_id = ap (λ (h : Head). h.start.id) force ∙ core.image.id

  hold_head : holders d (log_of d).head.start.id ≡ placed d.config d.failed d.head.id d.config.replicas
  hold_head = ap (holders d) head_id ∙ placed_now.head
      ∙ ap (λ (n : ℕ). placed d.config d.failed d.head.id n) replicas

  pub is_home : (j : ℕ) → j < d.config.replicas
      → IsHome (log_of d) (log_of d).head.start.id (home d.config d.failed d.head.id j)
  is_home j lt =
      left_has d.failed (took_in d.ledger (log_of d).head.start.id) (home d.config d.failed d.head.id j)
      (ap (λ (bs : List ℕ). has bs (home d.config d.failed d.head.id j)) hold_head
      ∙ home_placed d.config d.failed d.head.id d.config.replicas j lt)

  pub home_is : (b : ℕ) → IsHome (log_of d) (log_of d).head.start.id b
      → IsAmongPlaced d.config d.failed d.head.id d.config.replicas b
  home_is b is = placed_home d.config d.failed d.head.id d.config.replicas b
      (sym (ap (λ (bs : List ℕ). has bs b) hold_head)
      ∙ has_left d.failed (took_in d.ledger (log_of d).head.start.id) b is.0 is.1)

  unit_count : length (log_of d).head.units ≡ length d.head.units
  unit_count = ap (λ (h : Head). length h.units) force ∙ sym (counts d core)

  -- it isn't closed on a home on which none of those that haven't failed closed it
  not_shut : (s j n : ℕ) → j < d.config.replicas
      → without d.failed (shut_in d.ledger) ≡ placed d.config d.failed d.head.id n
      → has (placed d.config d.failed d.head.id n) (home d.config d.failed s j) ≡ false
      → has (shut_in d.ledger) (home d.config d.failed s j) ≡ false
  not_shut s j n lt is none =
      left_not d.failed (shut_in d.ledger) (home d.config d.failed s j) (core_left d core s j lt)
      (ap (λ (bs : List ℕ). has bs (home d.config d.failed s j)) is ∙ none)

  -- ---- a unit

  module _ (whole : WholeOnceShut d) (j : ℕ) (waits : IsNextPush d.head (Some (next.Extend j))) where
    abbrev units : ℕ
    units = waits.1.0

    abbrev lagger : ℕ
    lagger = home d.config d.failed d.head.id j

    units_are : units_of d.head j ≡ units
    units_are = ap (λ (x : Option ℕ). unwrap_or x 0) waits.1.1

    few : j < d.config.replicas
    few = (let lt = slice_get_within d.head.taken j units waits.1.1 in let same = replicas in omega arith)

    counted : counts_in d.ledger lagger ≡ units
    counted = placed_now.counts j units waits.1.1

    unshut : has (shut_in d.ledger) lagger ≡ false
    unshut = go (has (shut_in d.ledger) lagger) refl where
      go : (t : Bool) → has (shut_in d.ledger) lagger ≡ t → has (shut_in d.ledger) lagger ≡ false
      go true is =
          let every = whole lagger (is_home j few) is in
          let same = counted in let count = unit_count in let lt = waits.1.2 in
          absurd (omega arith)
      go false is = is

    pub extends : ExtendsNext d (push_op d (next.Extend j)) (log_of (pushed_data d (next.Extend j)))
    extends = record {
      extends = record {
        b = lagger;
        to = length d.head.units;
        home = is_home j few;
        unshut = unshut;
        lags = (let same = counted in let lt = waits.1.2 in omega arith);
        within = (let count = unit_count in omega arith);
        op = op;
        gives = gives;
      };
      replica = j;
      lagging = waits.1;
      home = refl;
      whole = refl;
    } where
      op : push_op d (next.Extend j) ≡ On lagger (log_of d).head.start.id
          (Extend (length_of (front (log_of d).head (counts_in d.ledger lagger)))
          (entries_of (units_between (log_of d).head.units (counts_in d.ledger lagger) (length d.head.units))))
      op =
          let from : units_of d.head j ≡ counts_in d.ledger lagger = units_are ∙ sym counted in
          (λ i. On lagger (sym core.image.id i)
          (Extend (length_of (front (real_head d.head) (from i)))
          (entries_of (units_between (head_of d.head).units (from i) (length d.head.units)))))
          ∙ ap (λ (h : Head). On lagger h.start.id (Extend (length_of (front h (counts_in d.ledger lagger)))
          (entries_of (units_between h.units (counts_in d.ledger lagger) (length d.head.units))))) (sym force)

      gives : log_of (pushed_data d (next.Extend j))
          ≡ record (log_of d) { counts = with_count (counts_in d.ledger) lagger (length d.head.units) }
      gives =
          let still : is_opened (with_all_taken d.head j) ≡ true =
          opened_is (with_all_taken d.head j) (length-set d.head.taken j (length d.head.units) ∙ all) in
          log_is (pushed_data d (next.Extend j)) calm true still
          ∙ ap (λ (l : FailData). record l { counts = with_count (counts_in d.ledger) lagger (length d.head.units) })
          (sym (log_is d calm true opened))

  -- ---- a roll

  module _ (r : Roll) (is : d.head.roll ≡ Some r) where
    mode_is : (log_of d).mode ≡ Rolls (start_of r)
    mode_is = mode_opened d calm opened ∙ ap mode_by is

    -- none of those that took the new head has failed
    pub took_new : took_in d.ledger (start_of r).id ≡ placed d.config d.failed r.id r.opened
    took_new =
        sym (all_work d.failed (took_in d.ledger (start_of r).id)
        (λ b took. unfailed.new (start_of r) b (new_now d core r is) took))
        ∙ ap (holders d) (start_id r)
        ∙ subst (λ (o : Option Roll). IfSome o (λ (q : Roll).
        holders d q.id ≡ placed d.config d.failed q.id q.opened)) is placed_now.new

    -- each replica has each unit
    whole_counts : IsWholeHead d.head → (c : ℕ) → IsHome (log_of d) (log_of d).head.start.id c
        → counts_in d.ledger c ≡ length (log_of d).head.units
    whole_counts whole c home_of =
        let at = home_is c home_of in
        let has = there d.head.taken at.replica (let lt = at.within in let same = replicas in omega arith) in
        let least = every (λ (m : ℕ). length d.head.units ≤ m) d.head.taken at.replica has.0 whole.none_lags has.1 in
        let most = every (λ (m : ℕ). m ≤ length d.head.units) d.head.taken at.replica has.0 core.head.taken has.1 in
        let count = ap (counts_in d.ledger) at.is ∙ placed_now.counts at.replica has.0 has.1 in
        let same = unit_count in
        omega arith

  module _ (j : ℕ) (waits : IsNextPush d.head (Some (next.OpenNew j))) where
    abbrev new_backup : ℕ
    new_backup = backup_of d (next.OpenNew j)

    abbrev pub new_mid : FailData
    new_mid = record (log_of d) { took = with_taken (took_in d.ledger) (start_of waits.1).id new_backup }

    new_segment : segment_of d.head (next.OpenNew j) ≡ waits.1.id
    new_segment = segment_new d core j waits.1 waits.2

    few_new : waits.1.opened < d.config.replicas
    few_new = (let at = waits.3 in let lt = waits.4 in let same = core.replicas in omega arith)

    new_is : new_backup ≡ home d.config d.failed waits.1.id waits.1.opened
    new_is = λ i. home d.config d.failed (new_segment i) (waits.3 i)

    pub opens_new : OpensNew (log_of d) (push_op d (next.OpenNew j)) new_mid
    opens_new = record {
      b = new_backup;
      n = start_of waits.1;
      mode = inl (mode_is waits.1 waits.2);
      works = ap (has d.failed) new_is ∙ core_left d core waits.1.id waits.1.opened few_new;
      apart = (λ i. has (took_new waits.1 waits.2 i) (new_is i))
          ∙ core_later d core waits.1.id waits.1.opened waits.1.opened (omega arith) few_new;
      few = (let count = ap length (took_new waits.1 waits.2)
          ∙ placed_length d.config d.failed waits.1.id waits.1.opened in
          let lt = few_new in omega arith);
      whole = whole_counts waits.1 waits.2 waits.0;
      enough = inr (let count = ap length hold_head
          ∙ placed_length d.config d.failed d.head.id d.config.replicas in omega arith);
      op = (λ i. On new_backup ((new_segment ∙ sym (start_id waits.1)) i)
          (Open (bare (option_map_or start_of (waits.2 i) (head_of d.head).start))));
      gives = refl;
    }

    abbrev new_posts : List Posting
    new_posts = posting.Took (segment_of d.head (next.OpenNew j)) new_backup ∷ d.ledger

    pub new_after : log_of (pushed_data d (next.OpenNew j)) ≡ new_mid
    new_after =
        let e : MasterData = record d { head = with_new_replica d.head waits.1; ledger = new_posts } in
        ap (λ (o : Option Roll). log_of (option_map_or
        (λ (r : Roll). record d { head = with_new_replica d.head r; ledger = new_posts }) o
        (record d { ledger = new_posts }))) waits.2
        ∙ log_is e calm true (opened_is (with_new_replica d.head waits.1) all)
        ∙ (λ i. record (log_by d true) {
          mode = mode_by (sym waits.2 i);
          took = with_taken (took_in d.ledger) ((new_segment ∙ sym (start_id waits.1)) i) new_backup;
        })
        ∙ ap (λ (l : FailData). record l { took = with_taken (took_in d.ledger) (start_of waits.1).id new_backup })
        (sym (log_is d calm true opened))

    pub new_told : (mid : FailData) × OpensNew (log_of d) (push_op d (next.OpenNew j)) mid
        × IsAfter mid (log_of (pushed_data d (next.OpenNew j)))
    new_told = (new_mid, opens_new, inl new_after)

  module _ (j : ℕ) (waits : IsNextPush d.head (Some (next.CloseOld j))) where
    abbrev pub old_backup : ℕ
    old_backup = home d.config d.failed d.head.id j

    abbrev pub old_mid : FailData
    old_mid = record (log_of d) { shut = old_backup ∷ shut_in d.ledger }

    few_old : j < d.config.replicas
    few_old = (let at = waits.3 in let lt = (rolls d.head waits.1 core.head waits.2).closed in
        let same = core.replicas in omega arith)

    shut_is : without d.failed (shut_in d.ledger) ≡ placed d.config d.failed d.head.id j
    shut_is = placed_now.shut ∙ ap (placed d.config d.failed d.head.id) (closed_calm d calm)
        ∙ (λ i. placed d.config d.failed d.head.id (closed_of (waits.2 i)))
        ∙ ap (placed d.config d.failed d.head.id) (sym waits.3)

    new_opened : d.config.replicas ≤ length (took_in d.ledger (start_of waits.1).id)
    new_opened = (let count = ap length (took_new waits.1 waits.2)
        ∙ placed_length d.config d.failed waits.1.id waits.1.opened in
        let every = waits.4 in let same = core.replicas in omega arith)

    pub closes : ClosesOld (log_of d) (push_op d (next.CloseOld j)) old_mid
    closes = record {
      b = old_backup;
      n = start_of waits.1;
      mode = inl (mode_is waits.1 waits.2);
      opened = new_opened;
      home = is_home j few_old;
      unshut = not_shut d.head.id j j few_old shut_is (core_later d core d.head.id j j (omega arith) few_old);
      op = ap (λ (s : ℕ). On old_backup s Close) (sym head_id);
      gives = refl;
    }

    shut_then : without d.failed (old_backup ∷ shut_in d.ledger) ≡ placed d.config d.failed d.head.id (suc j)
    shut_then = left_more d.failed old_backup (shut_in d.ledger) (core_left d core d.head.id j few_old)
        ∙ ap (λ (bs : List ℕ). old_backup ∷ bs) shut_is

    pub ends : suc j ≡ d.config.replicas → EndsRoll old_mid (start_of waits.1) Calm
    ends last = record {
      may = inl (mode_is waits.1 waits.2, refl);
      opened = new_opened;
      shut = λ b is.
          let at = home_is b is in
          (left_has d.failed (old_backup ∷ shut_in d.ledger) b
          ((λ i. has (shut_then i) (at.is i))
          ∙ home_placed d.config d.failed d.head.id (suc j) at.replica (let lt = at.within in omega arith))).0;
    }

    abbrev pub old_posts : List Posting
    old_posts = posting.Shut old_backup ∷ d.ledger

    -- by whether it was the last
    abbrev pub closed_one : List Posting → Bool → MasterData
    closed_one ps t = record d {
      head = if t then in_force d.head waits.1
          else record d.head { roll = Some (record waits.1 { closed = suc waits.1.closed }) };
      closed = with_closed d.closed d.head.id d.config.replicas (if t then Some d.head.image else None);
      ledger = ps;
    }

    abbrev pub closed_at : List Posting → Bool → MasterData
    closed_at ps t = if t then roll_ended d.pass (closed_one ps t) else closed_one ps t

    -- the end of a pass leaves the log as it is
    log_ended : (o : Option Pass) (e : MasterData) → log_of (roll_ended o e) ≡ log_of e
    log_ended None e = refl
    log_ended (Some p) e = go p.is_committing where
      go : (t : Bool) → log_of (if t then pass_ended p e else e) ≡ log_of e
      go true = refl
      go false = refl

    pub old_more : log_of (closed_at old_posts false) ≡ old_mid
    old_more =
        log_is (closed_one old_posts false) calm true
        (opened_is (record d.head { roll = Some (record waits.1 { closed = suc waits.1.closed }) }) all)
        ∙ (λ i. record (log_by d true) { mode = mode_by (sym waits.2 i); shut = old_backup ∷ shut_in d.ledger })
        ∙ ap (λ (l : FailData). record l { shut = old_backup ∷ shut_in d.ledger }) (sym (log_is d calm true opened))

    pub old_last : log_of (closed_at (posting.Ended ∷ old_posts) true) ≡ ended old_mid (start_of waits.1) Calm
    old_last =
        let e : MasterData = closed_one (posting.Ended ∷ old_posts) true in
        log_ended d.pass e
        ∙ log_is e calm true (opened_is (in_force d.head waits.1) (zeros_length d.head.replicas))
        ∙ ap (λ (l : LogHead). record (log_by e true) {
          head = record { start = l.start; loaded = l.loaded; units = l.units };
        })
        (head_in_force d.config.master d.head waits.1 (roll_of d core waits.1 waits.2).image
        (rolls d.head waits.1 core.head waits.2).segment)
        ∙ (λ i. record (log_by e true) {
          head = record { start = start_of waits.1; loaded = []; units = [] };
          abandoned = core.abandoned calm i;
        })
        ∙ ap (λ (l : FailData). ended (record l { shut = old_backup ∷ shut_in d.ledger }) (start_of waits.1) Calm)
        (sym (log_is d calm true opened))

    abbrev OldAfter : Bool → Type 0
    OldAfter t = IsAfter old_mid (log_of (closed_at (ended_with t old_posts) t))

    pub old_is : pushed_data d (next.CloseOld j)
        ≡ closed_at (ended_with (suc j == d.config.replicas) old_posts) (suc j == d.config.replicas)
    old_is =
        let ps = ended_with (suc j == d.config.replicas) old_posts in
        let tests : (suc waits.1.closed == d.head.replicas) ≡ (suc j == d.config.replicas) =
        (λ i. suc (sym waits.3 i) == core.replicas i) in
        ap (λ (o : Option Roll). option_map_or (closed_data (record d { ledger = ps })) o (record d { ledger = ps }))
        waits.2
        ∙ ap (closed_at ps) tests

    old_after : IsAfter old_mid (log_of (pushed_data d (next.CloseOld j)))
    old_after =
        subst (λ (e : MasterData). IsAfter old_mid (log_of e)) (sym old_is) (go (suc j == d.config.replicas) refl)
      where
        go : (t : Bool) → (suc j == d.config.replicas) ≡ t → OldAfter (suc j == d.config.replicas)
        go true is = subst OldAfter (sym is)
            (inr (start_of waits.1, ends (eqb-true (suc j) d.config.replicas is), old_last))
        go false is = subst OldAfter (sym is) (inl old_more)

    pub old_told : (mid : FailData) × ClosesOld (log_of d) (push_op d (next.CloseOld j)) mid
        × IsAfter mid (log_of (pushed_data d (next.CloseOld j)))
    old_told = (old_mid, closes, old_after)

-- ---- each push

module _ (d : MasterData) (core : IsCore d) (placed_now : IsPlaced d) (calm : d.failover ≡ None)
    (unfailed : AreUnfailed d) (whole : WholeOnceShut d) where
  pub next_told : (push : Next) → IsNextPush d.head (Some push)
      → IsNextOp d (push_op d push) (answer_of push (backup_of d push) (segment_of d.head push))
      (log_of (pushed_data d push))
  next_told (next.OpenFirst j) waits = (first_told d core placed_now calm unfailed j waits, (refl, refl))
  next_told (next.Extend j) waits = (extends d core placed_now calm unfailed waits.0 whole j waits, (refl, refl))
  next_told (next.OpenWhole j) waits = absurd waits
  next_told (next.OpenNew j) waits = (new_told d core placed_now calm unfailed waits.0.opened j waits, (refl, refl))
  next_told (next.CloseOld j) waits = (old_told d core placed_now calm unfailed waits.0.opened j waits, (refl, refl))

-- what an op of a head leads to, and how the log goes on from there
pub record IsHeadPush (d : MasterData) (push : Next) : Type 0 where
  pub mid : FailData
  pub op : IsHeadOp (log_of d) (push_op d push) mid
  pub after : IsAfter mid (log_of (pushed_data d push))

pub head_push : (d : MasterData) (push : Next) (answer : StepAnswer) → IsNextOp d (push_op d push) answer
    (log_of (pushed_data d push)) → IsHeadPush d push
head_push d push (Opened backup segment) is = record { mid = is.0.0; op = inr (inl is.0.1); after = is.0.2 }
head_push d push (Extended backup segment) is =
    record { mid = log_of (pushed_data d push); op = inl is.0.extends; after = inl refl }
head_push d push (Closed backup segment) is =
    record { mid = is.0.0; op = inr (inr (inr (inr is.0.1))); after = is.0.2 }
head_push d push (Applied place reply) is = absurd is
head_push d push (Rolling segment) is = absurd is
head_push d push (Compacted segment len) is = absurd is
head_push d push (Begun segment) is = absurd is
head_push d push Moved is = absurd is
head_push d push Carried is = absurd is
head_push d push Dropped is = absurd is
head_push d push (Sealed backup) is = absurd is
head_push d push (Freed segment backup) is = absurd is
head_push d push (Raised segment) is = absurd is
head_push d push (Repaired backup segment) is = absurd is
