-- A replica that is freed keeps what holds of a master.
use Rattle.std.proofs.Common.{◌≡◌, ℕ, zero, suc, ◌+◌, ◌-◌, ◌<◌, ◌≤◌, Bool, true, false, inl, inr, List, [], ◌∷◌, ◌++◌}
use Rattle.std.proofs.Common.{map, refl, sym, ap, subst, ◌∙◌, arith}
use Rattle.std.specs.Prelude.{Some, None, not, slice_get, filter, ◌==◌, ◌&&◌, if◌then◌else◌}
use Rattle.std.specs.List.{AllByRecursion}
use Rattle.std.specs.Option.{option_map}
use Rattle.std.proofs.lemmas.Bool.{eqb-true}
use Rattle.std.proofs.lemmas.Option.{same_Some}
use Rattle.entry.specs.Bag.{IsAmong}
use Rattle.entry.proofs.BagLemmas.{among_either, among_left, among_right}
use Rattle.replica.specs.Op.{OpValue}
use Rattle.replica.specs.Picture.{FleetState}
use Rattle.replica.specs.Take.{Takes, Refuses}
use Rattle.replica.specs.declared.op.TakeFault.{TakeFault}
use Rattle.replica.specs.declared.op.TakeFault.TheVariants as take_fault
use Rattle.log_head.specs.log_laws.Ids.{has}
use Rattle.log_head.specs.log_laws.Ops.{op_of}
use Rattle.master_core.proofs.log_laws.KeptEntries.{has_is}
use Rattle.master_core.specs.log_laws.Shown.{Free as FreeAct}
use Rattle.master_core.specs.log_bytes.Ops.{log_op_for}
use Rattle.master_core.specs.log_memory.Fleet.{HoldsAll}
use Rattle.master_core.specs.log_memory.Memory.{Spot, FailMemory}
use Rattle.master_core.specs.log_memory.Ops.{IsOp}
use Rattle.master_core.specs.log_memory.Steps.{MayFree, free_op, freed, is_spot}
use Rattle.master_core.proofs.log_memory.FleetAnswers.{ok_holds_all}
use Rattle.master_core.specs.master_state.declared.config.Config.{Config}
use Rattle.master_core.specs.master_state.declared.step.Step.TheVariants.{Free}
use Rattle.master_core.specs.master_state.declared.step.StepAnswer.TheVariants.{Freed as StepFreed}
use Rattle.master_core.specs.master_state.declared.waiting.Waiting.{Waiting}
use Rattle.master_core.specs.master_state.Causes.{free_refusal, step_refusal}
use Rattle.master_core.specs.master_state.Data.{MasterData}
use Rattle.master_core.specs.master_state.Invariant.{AreApart, IsCore}
use Rattle.master_core.specs.master_state.Log.{log_of, memory_of, home, spots_from, spots_in}
use Rattle.master_core.specs.master_state.Steps.{freed_one, freed_data, refusal_of, failed_data}
use Rattle.master_core.specs.master_state.Waits.{next_free}
use Rattle.master_core.proofs.master_state.Calm.{passes_first, calm_parts}
use Rattle.master.specs.Invariant.{IsWellKept}
use Rattle.master.specs.Passes.{IsFreeOp, Frees}
use Rattle.master.specs.Placed.{IsPlaced}
use Rattle.master.specs.Steps.{Declines}
use Rattle.master.proofs.Agreeing.{Agree, agreeing_holds}
use Rattle.master.proofs.Handed.{IsSameSize, taken_size, handed_kept, not_wrong, op_failed, failed_tells}
use Rattle.master.proofs.InForce.{never_fails}
use Rattle.master.proofs.Lasting.{kept_as, well_kept}
use Rattle.master.proofs.Placing.{core_within, core_left, core_apart}

-- ---- what waits

-- The replica is one of a segment, from this one on and so many.
record IsSpotFrom (c : Config) (failed : List ℕ) (s j n : ℕ) (w : Spot) : Type 0 where
  replica : ℕ
  least : j ≤ replica
  within : replica < j + n
  is : w ≡ record { segment = s; backup = home c failed s replica }

spots_of : (c : Config) (failed : List ℕ) (s j n : ℕ) (w : Spot) → IsAmong w (spots_from c failed s j n)
    → IsSpotFrom c failed s j n w
spots_of c failed s j zero w m = absurd m
spots_of c failed s j (suc n) w (inl same) =
    record { replica = j; least = omega arith; within = omega arith; is = sym same }
spots_of c failed s j (suc n) w (inr m) =
    let later = spots_of c failed s (suc j) n w m in
    let low = later.least in
    let high = later.within in
    record { replica = later.replica; least = omega (arith, low); within = omega (arith, high); is = later.is }

abbrev ids_of : List Waiting → List ℕ
ids_of ws = map (λ (x : Waiting). x.segment) ws

-- it is of one of the segments that wait
spot_segment : (c : Config) (failed : List ℕ) (ws : List Waiting) (w : Spot) → IsAmong w (spots_in c failed ws)
    → IsAmong w.segment (ids_of ws)
spot_segment c failed [] w m = absurd m
spot_segment c failed (x ∷ ws) w m =
    elim (among_either w (spots_from c failed x.segment x.freed (x.replicas - x.freed)) (spots_in c failed ws) m)
    as (λ _. IsAmong w.segment (x.segment ∷ ids_of ws)) [
      | inl own ↦ inl (sym (ap (λ (v : Spot). v.segment)
          (spots_of c failed x.segment x.freed (x.replicas - x.freed) w own).is))
      | inr later ↦ inr (spot_segment c failed ws w later)
    ]

in_filter : (T : Spot → Bool) (ws : List Spot) (w : Spot) → IsAmong w ws → T w ≡ true → IsAmong w (filter T ws)
in_filter T [] w m passes = absurd m
in_filter T (v ∷ ws) w m passes = go (T v) refl m (in_filter T ws w) where
  go : (t : Bool) → T v ≡ t → IsAmong w (v ∷ ws) → (IsAmong w ws → T w ≡ true → IsAmong w (filter T ws))
      → IsAmong w (if t then v ∷ filter T ws else filter T ws)
  go true is (inl same) later = inl same
  go true is (inr m) later = inr (later m passes)
  go false is (inl same) later = absurd (let both = sym passes ∙ ap T (sym same) ∙ is in cc)
  go false is (inr m) later = later m passes

not_spot : (w v : Spot) → (w.segment ≡ v.segment → w.backup ≡ v.backup → ⊥) → not (is_spot w v) ≡ true
not_spot w v other = go (w.segment == v.segment) (w.backup == v.backup) refl refl where
  go : (a b : Bool) → (w.segment == v.segment) ≡ a → (w.backup == v.backup) ≡ b → not (a && b) ≡ true
  go true true s t = absurd (other (eqb-true w.segment v.segment s) (eqb-true w.backup v.backup t))
  go true false s t = refl
  go false b s t = refl

-- ---- a free

module _ (d : MasterData) (core : IsCore d) (apart : AreApart (map (λ (x : Waiting). x.segment) d.waiting))
    (w : Waiting) (ws : List Waiting) (first : d.waiting ≡ w ∷ ws) (calm : d.failover ≡ None)
  where
    abbrev backup : ℕ
    backup = home d.config d.failed w.segment w.freed

    abbrev spot : Spot
    spot = record { segment = w.segment; backup = backup }

    abbrev own : List Spot
    own = spots_from d.config d.failed w.segment (suc w.freed) (w.replicas - suc w.freed)

    abbrev later : List Spot
    later = spots_in d.config d.failed ws

    left : (w.freed < w.replicas) × (w.replicas ≤ d.config.replicas)
    left = (subst (λ (xs : List Waiting). AllByRecursion
        (λ (x : Waiting). (x.freed < x.replicas) × (x.replicas ≤ d.config.replicas)) xs) first core.waiting).0

    few : w.freed < d.config.replicas
    few = let lt = left.0 in let le = left.1 in omega (arith, lt, le)

    pub free_works : has d.failed (home d.config d.failed w.segment w.freed) ≡ false
    free_works = core_left d core w.segment w.freed few

    pub free_within : home d.config d.failed w.segment w.freed < d.config.backups
    free_within = core_within d core w.segment w.freed few

    -- all that waits: this replica, those of the segment behind it, and those of others
    waiting_is : spots_in d.config d.failed d.waiting ≡ spot ∷ (own ++ later)
    waiting_is =
        let lt = left.0 in
        let more : w.replicas - w.freed ≡ suc (w.replicas - suc w.freed) = omega (arith, lt) in
        ap (spots_in d.config d.failed) first
        ∙ ap (λ (n : ℕ). spots_from d.config d.failed w.segment w.freed n ++ later) more

    may : MayFree (log_of d) (memory_of d) w.segment backup
    may = record {
      waits = subst (λ (xs : List Spot). IsAmong spot xs) (sym waiting_is) (inl refl);
      works = free_works;
      calm = never_fails d calm;
    }

    pub frees_spot : IsOp (log_of d) (memory_of d) (free_op w.segment backup) (log_of d) (freed (memory_of d) spot)
    frees_spot = inr (inr (inr (record { s = w.segment; b = backup; may = may; op = refl; gives = refl }, refl)))

    abbrev pub free_now : IsFreeOp d (free_op w.segment backup)
    free_now = record {
      segment = w.segment;
      replica = w.freed;
      next = ap (λ (xs : List Waiting). option_map (λ (x : Waiting). (x.segment, x.freed)) (slice_get xs 0)) first;
      is = refl;
    }

    -- ---- what waits then

    others_wait : (v : Spot) → IsAmong v (own ++ later) → (w.segment ≡ v.segment → backup ≡ v.backup → ⊥)
        → IsAmong v (freed (memory_of d) spot).waiting
    others_wait v m other =
        in_filter (λ (x : Spot). not (is_spot spot x)) (spots_in d.config d.failed d.waiting) v
        (subst (λ (xs : List Spot). IsAmong v xs) (sym waiting_is) (inr m)) (not_spot spot v other)

    apart_first : (has (ids_of ws) w.segment ≡ false) × AreApart (map (λ (x : Waiting). x.segment) ws)
    apart_first = subst (λ (xs : List Waiting). AreApart (map (λ (x : Waiting). x.segment) xs)) first apart

    -- a replica of another segment
    later_waits : (v : Spot) → IsAmong v later → IsAmong v (freed (memory_of d) spot).waiting
    later_waits v m =
        others_wait v (among_right v own later m)
        (λ same at. (
        let there = has_is (ids_of ws) v.segment (spot_segment d.config d.failed ws v m) in
        let never : true ≡ false = sym there ∙ ap (has (ids_of ws)) (sym same) ∙ apart_first.0 in
        cc))

    -- a later one of the same
    more_waits : (v : Spot) → IsAmong v own → IsAmong v (freed (memory_of d) spot).waiting
    more_waits v m =
        let one = spots_of d.config d.failed w.segment (suc w.freed) (w.replicas - suc w.freed) v m in
        let low = one.least in
        let high = one.within in
        let lt = left.0 in
        let le = left.1 in
        others_wait v (among_left v own later m)
        (λ same at. core_apart d core w.segment w.freed one.replica few (omega (arith, high, low, lt, le))
        (λ i. (let small = low in omega (arith, small, i))) (at ∙ ap (λ (x : Spot). x.backup) one.is))

    abbrev one_more : MasterData
    one_more = record d { waiting = record w { freed = suc w.freed } ∷ ws }

    abbrev last : MasterData
    last = record d { waiting = ws }

    more_agree : Agree (log_of d) (freed (memory_of d) spot) (memory_of one_more)
    more_agree = record {
      pass = refl;
      images = λ z. refl;
      index = λ k. refl;
      rest = λ p e victim stands of_data coming. coming;
      done = λ none. none;
      commits = refl;
      waiting = λ v m. elim (among_either v own later m) as (λ _. IsAmong v (freed (memory_of d) spot).waiting) [
        | inl here ↦ more_waits v here
        | inr behind ↦ later_waits v behind
      ];
    }

    last_agree : Agree (log_of d) (freed (memory_of d) spot) (memory_of last)
    last_agree = record {
      pass = refl;
      images = λ z. refl;
      index = λ k. refl;
      rest = λ p e victim stands of_data coming. coming;
      done = λ none. none;
      commits = refl;
      waiting = λ v m. later_waits v m;
    }

-- the ledger and the segments that it speaks of stay
placed_waiting : (d : MasterData) (ws : List Waiting) → IsPlaced d → IsPlaced (record d { waiting = ws })
placed_waiting d ws p = record {
  none = p.none;
  head = p.head;
  counts = p.counts;
  unopened = p.unopened;
  whole = p.whole;
  new = p.new;
  shut = p.shut;
  closed = p.closed;
}

module _ (d : MasterData) (f : FleetState) (kept : IsWellKept d f) (passed : free_refusal d ≡ None) (w : Waiting)
    (ws : List Waiting) (first : d.waiting ≡ w ∷ ws) where
  abbrev home_now : ℕ
  home_now = home d.config d.failed w.segment w.freed

  abbrev bytes : OpValue
  bytes = op_of d.config.master (log_op_for d.config.master home_now w.segment FreeAct)

  abbrev then_memory : FailMemory
  then_memory = freed (memory_of d) (record { segment = w.segment; backup = home_now })

  step : (d.is_halted ≡ false) × (d.failover ≡ None)
  step = calm_parts d (passes_first (step_refusal d) _ passed).0

  op : IsOp (log_of d) (memory_of d) (free_op w.segment home_now) (log_of d) then_memory
  op = frees_spot d kept.core kept.apart w ws first step.1

  within : home_now < d.config.backups
  within = free_within d kept.core kept.apart w ws first step.1

  pub freed_kept : (g : FleetState) → IsCore (freed_data d) → Takes f home_now bytes g → IsWellKept (freed_data d) g
  freed_kept g core takes =
      subst (λ (xs : List Waiting). IsWellKept (record d { waiting = xs }) g) (sym is)
      (by_test (suc w.freed == w.replicas)
      (subst (λ (xs : List Waiting). IsCore (record d { waiting = xs })) is core))
    where
      is : freed_one d.waiting ≡ (if suc w.freed == w.replicas then ws else record w { freed = suc w.freed } ∷ ws)
      is = ap freed_one first

      size : IsSameSize f g
      size = taken_size f home_now bytes g takes.1

      after : HoldsAll (log_of d) then_memory g
      after = ok_holds_all (log_of d) (log_of d) (memory_of d) then_memory f g (free_op w.segment home_now)
          (kept.known step.0) op within takes

      apart_then : (has (map (λ (x : Waiting). x.segment) ws) w.segment ≡ false)
          × AreApart (map (λ (x : Waiting). x.segment) ws)
      apart_then = subst (λ (xs : List Waiting). AreApart (map (λ (x : Waiting). x.segment) xs)) first kept.apart

      by_test : (t : Bool)
          → IsCore (record d { waiting = if t then ws else record w { freed = suc w.freed } ∷ ws })
          → IsWellKept (record d { waiting = if t then ws else record w { freed = suc w.freed } ∷ ws }) g
      by_test true core =
          let e = last d kept.core kept.apart w ws first step.1 in
          well_kept e g
          (handed_kept d e f g (kept_as d f kept step.0) size core (placed_waiting d ws kept.placed) refl apart_then.1
          (agreeing_holds (log_of d) then_memory (memory_of e) g after
          (last_agree d kept.core kept.apart w ws first step.1)))
      by_test false core =
          let e = one_more d kept.core kept.apart w ws first step.1 in
          well_kept e g
          (handed_kept d e f g (kept_as d f kept step.0) size core
          (placed_waiting d (record w { freed = suc w.freed } ∷ ws) kept.placed) refl apart_then
          (agreeing_holds (log_of d) then_memory (memory_of e) g after
          (more_agree d kept.core kept.apart w ws first step.1)))

  -- ---- what the fleet answers

  pub free_accepted : (g : FleetState) → Takes f home_now bytes g
      → Frees (record { knows = d; fleet = f }) (StepFreed w.segment home_now)
      (record { knows = freed_data d; fleet = g })
  free_accepted g takes = record {
    op = free_op w.segment home_now;
    passed = passed;
    next = free_now d kept.core kept.apart w ws first step.1;
    told = refl;
    rest = refl;
    takes = takes;
  }

  pub free_not_wrong : (g : FleetState) (x : TakeFault) → Refuses f home_now bytes x g → x ≡ take_fault.Wrong → ⊥
  free_not_wrong = not_wrong d f kept step.0 home_now w.segment FreeAct (log_of d) then_memory op within

  pub free_failed : (g : FleetState) (x : TakeFault) → Refuses f home_now bytes x g
      → IsWellKept (failed_data d home_now x) g
  free_failed g x refused =
      op_failed d f kept step.0 home_now w.segment FreeAct (log_of d) then_memory op within
      (free_works d kept.core kept.apart w ws first step.1) g x refused

  pub free_declined : (g : FleetState) (x : TakeFault) → Refuses f home_now bytes x g
      → Declines (record { knows = d; fleet = f }) Free (refusal_of d home_now x)
      (record { knows = failed_data d home_now x; fleet = g })
  free_declined g x refused =
      inr (
        passed,
        failed_tells d f home_now w.segment FreeAct (IsFreeOp d)
            (free_now d kept.core kept.apart w ws first step.1) g x refused (free_not_wrong g x refused),
      )

-- ---- the next free

-- What waits begins with a segment, of which so many replicas were freed.
pub record WaitsFirst (d : MasterData) (s j : ℕ) : Type 0 where
  pub waiting : Waiting
  pub later : List Waiting
  pub first : d.waiting ≡ waiting ∷ later
  pub segment : waiting.segment ≡ s
  pub replica : waiting.freed ≡ j

pub first_free : (d : MasterData) (s j : ℕ) → next_free d ≡ Some (s, j) → WaitsFirst d s j
first_free d s j is = go d.waiting refl is where
  go : (xs : List Waiting) → d.waiting ≡ xs
      → option_map {U = ℕ × ℕ} (λ (x : Waiting). (x.segment, x.freed)) (slice_get xs 0) ≡ Some (s, j)
      → WaitsFirst d s j
  go [] none is = absurd (cc)
  go (w ∷ ws) some is =
      let same : (w.segment, w.freed) ≡ (s, j) = same_Some (w.segment, w.freed) (s, j) is in
      record {
        waiting = w;
        later = ws;
        first = some;
        segment = ap (λ (x : ℕ × ℕ). x.0) same;
        replica = ap (λ (x : ℕ × ℕ). x.1) same;
      }
