-- The op of a failover's push is the one that comes next in the log: of the head, of the new head, or a raise.
use Rattle.std.proofs.Common.{◌≡◌, ℕ, ◌<◌, ◌≤◌, inl, inr, Bool, true, false, List, ◌∷◌, length}
use Rattle.std.proofs.Common.{get_or, refl, sym, ap, ◌∙◌, arith}
use Rattle.std.specs.Prelude.{Option, Some, None, unwrap_or}
use Rattle.std.specs.List.{AllByRecursion}
use Rattle.std.proofs.lemmas.Option.{slice_get_within, slice_get-get_or}
use Rattle.log_head.specs.declared.head.Roll.{Roll}
use Rattle.log_head.specs.Head.{IsLagging}
use Rattle.log_head.specs.Log.{head_of, start_of}
use Rattle.log_head.specs.Next.{units_of}
use Rattle.log_head.proofs.HeadLog.{count_is}
use Rattle.log_head.proofs.Rolls.{rolls}
use Rattle.log_head.specs.log_laws.Heads.{entries_of}
use Rattle.log_head.specs.log_laws.Ids.{has, without}
use Rattle.log_head.specs.log_laws.HeadSteps.{units_between}
use Rattle.log_head.specs.declared.next.Next.TheVariants as nexts
use Rattle.master_core.specs.log_laws.Data.{Head, front, bare, Closes, FailData, IsHome}
use Rattle.master_core.specs.log_laws.Shown.{Act, Open, Extend, Close, Seal, Op, On, Raise}
use Rattle.master_core.specs.log_laws.Steps.{with_taken, with_count, Extends, OpensNew, Replaces, Raises, ClosesOld}
use Rattle.master_core.specs.log_laws.Text.{length_of}
use Rattle.master_core.specs.log_memory.Memory.{text_in}
use Rattle.master_core.specs.master_failover.declared.push.Push.{Push}
use Rattle.master_core.specs.master_failover.declared.push.Push.TheVariants as push
use Rattle.master_core.specs.master_failover.Mending.{backup_for, segment_for, opened_more, raised_data}
use Rattle.master_core.specs.master_state.declared.failover.Failover.{Failover}
use Rattle.master_core.specs.master_state.declared.failover.Part.{Part}
use Rattle.master_core.specs.master_state.declared.failover.Part.TheVariants as part
use Rattle.master_core.specs.master_state.Data.{MasterData}
use Rattle.master_core.specs.master_state.Invariant.{IsCore}
use Rattle.master_core.specs.master_state.Ledger.{took_in, counts_in, shut_in}
use Rattle.master_core.specs.master_state.Log.{home, placed, is_headless, log_of, memory_of}
use Rattle.master_core.specs.master_state.Steps.{pushed_data}
use Rattle.master.specs.Placed.{holders, IsPlaced}
use Rattle.master.proofs.Counting.{AreUnfailed}
use Rattle.master.proofs.InForce.{real_head, force_headed}
use Rattle.master.proofs.NextOps.{act_now, WholeOnceShut, every, start_id}
use Rattle.master.proofs.Placing.{placed_length, home_placed, IsAmongPlaced, placed_home, core_left, core_later}
use Rattle.master.proofs.Placing.{left_has, has_left, left_not, all_work}

-- ---- the ops

-- what a push does to the replica that it is for
abbrev pub mend_act : MasterData → Push → Act
mend_act d (push.Head n) = act_now d n
mend_act d push.Turn = Close
mend_act d (push.Raise id) = Close
mend_act d (push.Repair s j) = Seal (text_in (memory_of d) s)

-- its op as the log sees it; that of a Turn is the first Open of the new head
abbrev pub mend_op : MasterData → Push → Op
mend_op d (push.Head n) = On (backup_for d (push.Head n)) (segment_for d (push.Head n)) (act_now d n)
mend_op d push.Turn = On (backup_for d push.Turn) (segment_for d push.Turn) (mend_act d push.Turn)
mend_op d (push.Raise id) = Raise id
mend_op d (push.Repair s j) =
    On (backup_for d (push.Repair s j)) (segment_for d (push.Repair s j)) (mend_act d (push.Repair s j))

-- ---- a master whose failover is open, with roll and failover written out

abbrev pub as_part : Failover → Part → Bool → Failover
as_part f p first = record f { part = p; is_first = first }

abbrev pub at_part : MasterData → Option Roll → Failover → MasterData
at_part d roll f = record d { head = record d.head { roll = roll }; failover = Some f }

pub is_at : (d : MasterData) (roll : Option Roll) (f : Failover) (p : Part) (first : Bool) → d.head.roll ≡ roll
    → d.failover ≡ Some f → f.part ≡ p → f.is_first ≡ first → d ≡ at_part d roll (as_part f p first)
is_at d roll f p first rolling failing part_is first_is =
    (λ i. record d { head = record d.head { roll = rolling i }; failover = failing i })
    ∙ (λ i. at_part d roll (record f { part = part_is i; is_first = first_is i }))

-- ---- a head in force

module _ (d : MasterData) (core : IsCore d) (p : IsPlaced d) (forced : is_headless d ≡ false) where
  force : (log_of d).head ≡ real_head d.head
  force = force_headed d forced

  head_id : (log_of d).head.start.id ≡ d.head.id
  head_id = ap (λ (h : Head). h.start.id) force ∙ core.image.id

  few_taken : length d.head.taken ≤ d.config.replicas
  few_taken = (let few = core.head.opened in let same = core.replicas in omega arith)

  hold_head : holders d (log_of d).head.start.id ≡ placed d.config d.failed d.head.id (length d.head.taken)
  hold_head = ap (holders d) head_id ∙ p.head

  pub forced_home : (j : ℕ) → j < length d.head.taken
      → IsHome (log_of d) (log_of d).head.start.id (home d.config d.failed d.head.id j)
  forced_home j lt =
      left_has d.failed (took_in d.ledger (log_of d).head.start.id) (home d.config d.failed d.head.id j)
      (ap (λ (bs : List ℕ). has bs (home d.config d.failed d.head.id j)) hold_head
      ∙ home_placed d.config d.failed d.head.id (length d.head.taken) j lt)

  pub home_forced : (b : ℕ) → IsHome (log_of d) (log_of d).head.start.id b
      → IsAmongPlaced d.config d.failed d.head.id (length d.head.taken) b
  home_forced b is = placed_home d.config d.failed d.head.id (length d.head.taken) b
      (sym (ap (λ (bs : List ℕ). has bs b) hold_head)
      ∙ has_left d.failed (took_in d.ledger (log_of d).head.start.id) b is.0 is.1)

  unit_count : length d.head.units ≡ length (log_of d).head.units
  unit_count = count_is d.config.master d.head (head_of d.head) core.image
      ∙ sym (ap (λ (h : Head). length h.units) force)

  -- if no replica lags, each home has all units
  pub whole_homes : AllByRecursion (λ (k : ℕ). length d.head.units ≤ k) d.head.taken → (c : ℕ)
      → IsHome (log_of d) (log_of d).head.start.id c → counts_in d.ledger c ≡ length (log_of d).head.units
  whole_homes none c home_of =
      let at = home_forced c home_of in
      let k = get_or d.head.taken at.replica 0 in
      let has = slice_get-get_or d.head.taken at.replica 0 at.within in
      let least = every (λ (m : ℕ). length d.head.units ≤ m) d.head.taken at.replica k none has in
      let most = every (λ (m : ℕ). m ≤ length d.head.units) d.head.taken at.replica k core.head.taken has in
      let count = ap (counts_in d.ledger) at.is ∙ p.counts at.replica k has in
      let same = unit_count in
      omega (arith, least, most, count, same)

  -- it isn't closed on a replica behind those that are
  pub not_shut : (j n : ℕ) → n ≤ j → j < d.config.replicas
      → without d.failed (shut_in d.ledger) ≡ placed d.config d.failed d.head.id n
      → has (shut_in d.ledger) (home d.config d.failed d.head.id j) ≡ false
  not_shut j n le lt is =
      left_not d.failed (shut_in d.ledger) (home d.config d.failed d.head.id j) (core_left d core d.head.id j lt)
      (ap (λ (bs : List ℕ). has bs (home d.config d.failed d.head.id j)) is
      ∙ core_later d core d.head.id n j le lt)

-- the lagging replica isn't closed
module _ (d : MasterData) (core : IsCore d) (p : IsPlaced d) (forced : is_headless d ≡ false)
    (shut : WholeOnceShut d) (j : ℕ) (lagging : IsLagging (length d.head.units) d.head.taken (Some j)) where
  abbrev pub lagger : ℕ
  lagger = home d.config d.failed d.head.id j

  pub lag_within : j < length d.head.taken
  lag_within = slice_get_within d.head.taken j lagging.0 lagging.1

  pub lag_counted : counts_in d.ledger (home d.config d.failed d.head.id j) ≡ lagging.0
  lag_counted = p.counts j lagging.0 lagging.1

  pub lag_unshut : has (shut_in d.ledger) (home d.config d.failed d.head.id j) ≡ false
  lag_unshut = go (has (shut_in d.ledger) lagger) refl where
    go : (t : Bool) → has (shut_in d.ledger) lagger ≡ t → has (shut_in d.ledger) lagger ≡ false
    go true is =
        let all = shut lagger (forced_home d core p forced j lag_within) is in
        let same = lag_counted in let count = unit_count d core p forced in let lt = lagging.2 in
        absurd (omega (arith, all, same, count, lt))
    go false is = is

-- ---- part 1 and 2

module _ (d0 : MasterData) (f : Failover) (core : IsCore (at_part d0 None (as_part f part.Mends false)))
    (p : IsPlaced (at_part d0 None (as_part f part.Mends false))) where
  abbrev mending : MasterData
  mending = at_part d0 None (as_part f part.Mends false)

  module _ (shut : WholeOnceShut (at_part d0 None (as_part f part.Mends false))) (j : ℕ)
      (lagging : IsLagging (length d0.head.units) d0.head.taken (Some j)) where
    pub mend_extends : Extends (log_of (at_part d0 None (as_part f part.Mends false)))
        (mend_op (at_part d0 None (as_part f part.Mends false)) (push.Head (nexts.Extend j)))
        (log_of (pushed_data (at_part d0 None (as_part f part.Mends false)) (nexts.Extend j)))
    mend_extends =
        let d = mending in
        let b = home d.config d.failed d.head.id j in
        let within = lag_within d core p refl shut j lagging in
        let counted = lag_counted d core p refl shut j lagging in
        let units = count_is d.config.master d.head (head_of d.head) core.image in
        let units_are : units_of d.head j ≡ lagging.0 = ap (λ (x : Option ℕ). unwrap_or x 0) lagging.1 in
        let from : units_of d.head j ≡ counts_in d.ledger b = units_are ∙ sym counted in
        record {
          b = home mending.config mending.failed mending.head.id j;
          to = length d0.head.units;
          home = forced_home d core p refl j within;
          unshut = lag_unshut d core p refl shut j lagging;
          lags = (let lt = lagging.2 in omega (arith, lt, counted));
          within = omega (arith, units);
          op = λ i. On b (sym core.image.id i)
              (Extend (length_of (front (real_head d.head) (from i)))
              (entries_of (units_between (head_of d.head).units (from i) (length d.head.units))));
          gives = refl;
        }

  module _ (few : length d0.head.taken < d0.config.replicas) where
    pub mend_replaces : Replaces (log_of (at_part d0 None (as_part f part.Mends false)))
        (mend_op (at_part d0 None (as_part f part.Mends false)) (push.Head (nexts.OpenWhole (length d0.head.taken))))
        (log_of (pushed_data (at_part d0 None (as_part f part.Mends false)) (nexts.OpenWhole (length d0.head.taken))))
    mend_replaces =
        let d = mending in
        let j = length d0.head.taken in
        let b = home d.config d.failed d.head.id j in
        let hold = hold_head d core p refl in
        let count = ap length hold ∙ placed_length d.config d.failed d.head.id (length d.head.taken) in
        let units = count_is d.config.master d.head (head_of d.head) core.image in
        let closed = core.failover.mends refl in
        record {
          b = home mending.config mending.failed mending.head.id (length d0.head.taken);
          mode = refl;
          works = core_left d core d.head.id j few;
          apart = left_not d.failed (took_in d.ledger (head_of d.head).start.id) b (core_left d core d.head.id j few)
              (ap (λ (bs : List ℕ). has bs b) hold ∙ core_later d core d.head.id j j (omega arith) few);
          unshut = not_shut d core p refl j f.closed closed.1 few p.shut;
          few = omega (arith, count, few);
          op = λ i. On b (sym core.image.id i) (Open (front (real_head d.head) (units i)));
          gives = λ i. record (log_of d) {
            took = with_taken (took_in d.ledger) (sym core.image.id i) b;
            counts = with_count (counts_in d.ledger) b (units i);
          };
        }

-- ---- part 3 and 4, with a head in force

module _ (d0 : MasterData) (r : Roll) (f : Failover)
    (core : IsCore (at_part d0 (Some r) (as_part f part.Opens false)))
    (p : IsPlaced (at_part d0 (Some r) (as_part f part.Opens false)))
    (unfailed : AreUnfailed (at_part d0 (Some r) (as_part f part.Opens false))) where
  abbrev opening_now : MasterData
  opening_now = at_part d0 (Some r) (as_part f part.Opens false)

  -- none of those that took the new head has failed
  pub took_opening : took_in d0.ledger (start_of r).id ≡ placed d0.config d0.failed r.id r.opened
  took_opening =
      sym (all_work d0.failed (took_in d0.ledger (start_of r).id) (λ b took. unfailed.new (start_of r) b refl took))
      ∙ ap (holders opening_now) (start_id r) ∙ p.new

  all_taken : length d0.head.taken ≡ d0.config.replicas
  all_taken = (let whole = (rolls opening_now.head r core.head refl).whole in let same = core.replicas in
      omega (arith, whole, same))

  module _ (lt : r.opened < d0.config.replicas) where
    pub mend_opens : OpensNew (log_of (at_part d0 (Some r) (as_part f part.Opens false)))
        (mend_op (at_part d0 (Some r) (as_part f part.Opens false)) (push.Head (nexts.OpenNew r.opened)))
        (log_of (opened_more (at_part d0 (Some r) (as_part f part.Opens false)) r.opened))
    mend_opens =
        let d = opening_now in
        let b = home d.config d.failed r.id r.opened in
        let took = took_opening in
        let count = ap length took ∙ placed_length d.config d.failed r.id r.opened in
        let old = ap length (hold_head d core p refl)
        ∙ placed_length d.config d.failed d.head.id (length d.head.taken) in
        let all = all_taken in
        record {
          b = home opening_now.config opening_now.failed r.id r.opened;
          n = start_of r;
          mode = inr refl;
          works = core_left d core r.id r.opened lt;
          apart = ap (λ (bs : List ℕ). has bs b) took ∙ core_later d core r.id r.opened r.opened (omega arith) lt;
          few = omega (arith, count, lt);
          whole = whole_homes d core p refl (p.whole refl);
          enough = inr (omega (arith, old, all));
          op = λ i. On b (sym (start_id r) i) (Open (bare (start_of r)));
          gives = λ i. record (log_of d) { took = with_taken (took_in d.ledger) (sym (start_id r) i) b };
        }

  module _ (all : r.opened ≡ d0.config.replicas) where
    pub mend_raises : Raises (log_of (at_part d0 (Some r) (as_part f part.Opens false)))
        (mend_op (at_part d0 (Some r) (as_part f part.Opens false)) (push.Raise r.id))
        (log_of (raised_data (at_part d0 (Some r) (as_part f part.Opens false))))
    mend_raises =
        let count = ap length took_opening ∙ placed_length d0.config d0.failed r.id r.opened in
        record {
          n = start_of r;
          mode = refl;
          opened = omega (arith, count, all);
          op = ap Raise (sym (start_id r));
          gives = refl;
        }

-- ---- and with none

module _ (d0 : MasterData) (f : Failover) (core : IsCore (at_part d0 None (as_part f part.Opens true)))
    (p : IsPlaced (at_part d0 None (as_part f part.Opens true)))
    (unfailed : AreUnfailed (at_part d0 None (as_part f part.Opens true))) where
  abbrev first_now : MasterData
  first_now = at_part d0 None (as_part f part.Opens true)

  pub took_alone : took_in d0.ledger (head_of d0.head).start.id
      ≡ placed d0.config d0.failed d0.head.id (length d0.head.taken)
  took_alone =
      sym (all_work d0.failed (took_in d0.ledger (head_of d0.head).start.id)
      (λ b took. unfailed.new (head_of d0.head).start b refl took))
      ∙ ap (holders first_now) core.image.id ∙ p.head

  -- no backup has a head that isn't there
  pub nobody : (c : ℕ) → has (took_in d0.ledger 0) c ≡ true → ⊥
  nobody c took = (let never : false ≡ true = sym (ap (λ (bs : List ℕ). has bs c) (p.none refl)) ∙ took in cc)

  module _ (lt : length d0.head.taken < d0.config.replicas) where
    pub mend_opens_first : OpensNew (log_of (at_part d0 None (as_part f part.Opens true)))
        (mend_op (at_part d0 None (as_part f part.Opens true)) (push.Head (nexts.OpenFirst (length d0.head.taken))))
        (log_of (opened_more (at_part d0 None (as_part f part.Opens true)) (length d0.head.taken)))
    mend_opens_first =
        let d = first_now in
        let j = length d0.head.taken in
        let b = home d.config d.failed d.head.id j in
        let took = took_alone in
        let count = ap length took ∙ placed_length d.config d.failed d.head.id j in
        record {
          b = home first_now.config first_now.failed first_now.head.id (length d0.head.taken);
          n = (head_of first_now.head).start;
          mode = inr refl;
          works = core_left d core d.head.id j lt;
          apart = ap (λ (bs : List ℕ). has bs b) took ∙ core_later d core d.head.id j j (omega arith) lt;
          few = omega (arith, count, lt);
          whole = λ c is. absurd (nobody c is.0);
          enough = inl refl;
          op = λ i. On b (sym core.image.id i) (Open (bare (head_of d.head).start));
          gives = λ i. record (log_of d) { took = with_taken (took_in d.ledger) (sym core.image.id i) b };
        }

  -- what the raise leads to; the first head is in force then
  abbrev pub raised_first : FailData
  raised_first = record (log_of first_now) { mode = Closes (head_of first_now.head).start }

  module _ (all : length d0.head.taken ≡ d0.config.replicas) where
    pub mend_raises_first : Raises (log_of (at_part d0 None (as_part f part.Opens true)))
        (mend_op (at_part d0 None (as_part f part.Opens true)) (push.Raise d0.head.id))
        (record (log_of (at_part d0 None (as_part f part.Opens true))) { mode = Closes (head_of d0.head).start })
    mend_raises_first =
        let count = ap length took_alone ∙ placed_length d0.config d0.failed d0.head.id (length d0.head.taken) in
        record {
          n = (head_of first_now.head).start;
          mode = refl;
          opened = omega (arith, count, all);
          op = ap Raise (sym core.image.id);
          gives = refl;
        }

-- ---- part 5

module _ (d0 : MasterData) (r : Roll) (f : Failover)
    (core : IsCore (at_part d0 (Some r) (as_part f part.Closes false)))
    (p : IsPlaced (at_part d0 (Some r) (as_part f part.Closes false)))
    (unfailed : AreUnfailed (at_part d0 (Some r) (as_part f part.Closes false))) where
  abbrev closing_now : MasterData
  closing_now = at_part d0 (Some r) (as_part f part.Closes false)

  pub took_closing : took_in d0.ledger (start_of r).id ≡ placed d0.config d0.failed r.id d0.config.replicas
  took_closing =
      sym (all_work d0.failed (took_in d0.ledger (start_of r).id) (λ b took. unfailed.new (start_of r) b refl took))
      ∙ ap (holders closing_now) (start_id r) ∙ p.new
      ∙ ap (placed d0.config d0.failed r.id) (core.failover.closes refl).2

  pub closing_all : length d0.head.taken ≡ d0.config.replicas
  closing_all = (let whole = (rolls closing_now.head r core.head refl).whole in let same = core.replicas in
      omega (arith, whole, same))

  pub few_closed : r.closed < d0.config.replicas
  few_closed = (let lt = (rolls closing_now.head r core.head refl).closed in let same = core.replicas in
      omega (arith, lt, same))

  pub all_opened_then : d0.config.replicas ≤ length (took_in d0.ledger (start_of r).id)
  all_opened_then =
      let count = ap length took_closing ∙ placed_length d0.config d0.failed r.id d0.config.replicas in
      omega (arith, count)

  pub mend_closes : ClosesOld (log_of (at_part d0 (Some r) (as_part f part.Closes false)))
      (mend_op (at_part d0 (Some r) (as_part f part.Closes false)) (push.Head (nexts.CloseOld r.closed)))
      (record (log_of (at_part d0 (Some r) (as_part f part.Closes false))) {
        shut = home d0.config d0.failed d0.head.id r.closed ∷ shut_in d0.ledger;
      })
  mend_closes =
      let d = closing_now in
      let all = closing_all in
      let lt = few_closed in
      record {
        b = home closing_now.config closing_now.failed closing_now.head.id r.closed;
        n = start_of r;
        mode = inr refl;
        opened = all_opened_then;
        home = forced_home d core p refl r.closed (omega (arith, all, lt));
        unshut = not_shut d core p refl r.closed r.closed (omega arith) lt p.shut;
        op = λ i. On (home d.config d.failed d.head.id r.closed) (sym core.image.id i) Close;
        gives = refl;
      }
