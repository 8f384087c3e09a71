-- A master that is loaded halts, or runs out of ids, only once a take has ended in a fault.
use Rattle.std.proofs.Common.{◌≡◌, ◌⊎◌, ◌<◌, ◌≤◌, ◌+◌, ℕ, zero, suc, Bool, true, false, List, [], ◌∷◌, refl, sym, ap}
use Rattle.std.proofs.Common.{subst, inl, inr, ◌∙◌, arith}
use Rattle.std.specs.Prelude.{Option, Some, None, IsSome, nat_lt, unwrap_or, if◌then◌else◌}
use Rattle.entry.specs.declared.entry.Object.{Object}
use Rattle.replica.specs.declared.op.TakeFault.TheVariants as take_fault
use Rattle.replica.specs.Op.{OpValue}
use Rattle.replica.specs.Picture.{Replica, FleetState}
use Rattle.replica.specs.Take.{effect, taken, with_effect}
use Rattle.claims.specs.declared.rebuilt.Rebuilt.{Rebuilt}
use Rattle.replay.specs.Adopting.{HasRoomMade, HasLoaded, DeclinesOne, IsStuck, Stops, DeclinesList}
use Rattle.replay.specs.driving.Rolls.{Advances, ArePushed, PushesUntil, GoesRolling}
use Rattle.replay.specs.master.log_laws.Shown.{Op, On, Raise}
use Rattle.replay.specs.master.log_bytes.Ops.{RefusesOp, TakesOp, log_op_for}
use Rattle.replay.specs.master.log_laws.Ops.{op_of}
use Rattle.replay.specs.master.master_state.declared.config.Config.{Config}
use Rattle.replay.specs.master.master_state.declared.failover.Failover.{Failover}
use Rattle.replay.specs.master.master_state.declared.step.Refusal.{Refusal}
use Rattle.replay.specs.master.master_state.declared.step.Refusal.TheVariants as refusal
use Rattle.replay.specs.master.master_state.declared.step.Step.TheVariants.{Push, BeginRoll}
use Rattle.replay.specs.master.master_state.Causes.{is_done}
use Rattle.replay.specs.master.master_state.Config.{config_fault}
use Rattle.replay.specs.master.master_state.Data.{MasterData}
use Rattle.replay.specs.master.master_state.Loading.{restored_data}
use Rattle.replay.specs.master.Steps.{Declines}
use Rattle.replay.specs.master.World.{World, world_of}
use Rattle.replay.proofs.of_driving.Losses.{push_lost}
use Rattle.replay.proofs.of_driving.MasterSteps.{nothing_waits, push_tested}
use Rattle.replay.proofs.of_driving.Outlines.{outline}
use Rattle.replay.proofs.of_driving.of_master.PushKinds.{MendsOn, kinds, pushes_rest}
use Rattle.adoptable.proofs.Numbering.{IsNumbered, first_numbered, ids_left, numbered_loaded, numbered_pushed}
use Rattle.adoptable.proofs.Numbering.{numbered_rolling}

-- ---- ops

taken_faults : (old : FleetState) (b : ℕ) (op : OpValue) (new : FleetState) → taken old b op ≡ Some new
    → new.faults ≡ old.faults
taken_faults old b op new is = go (nat_lt b old.backups) (effect op.act (old.picture b op.master op.segment)) is
  where
    go : (there : Bool) (r : Option (Option Replica)) → (if there then with_effect old b op r else None) ≡ Some new
        → new.faults ≡ old.faults
    go true (Some r) e = sym (ap (λ (o : Option FleetState). (unwrap_or o new).faults) e)
    go true None e = absurd (cc)
    go false r e = absurd (cc)

-- an op that was taken is no fault
op_faults : (master : ℕ) (old : FleetState) (o : Op) (new : FleetState) → TakesOp master old o new
    → new.faults ≡ old.faults
op_faults master old (On b s act) new takes = taken_faults old b (op_of master (log_op_for master b s act)) new takes.1
op_faults master old (Raise id) new takes = ap (λ (f : FleetState). f.faults) takes.1

-- a take that ended in a fault is counted
fault_counts : (master : ℕ) (old : FleetState) (o : Op) (new : FleetState)
    → RefusesOp master old o take_fault.Fault new → new.faults ≡ old.faults + 1
fault_counts master old (On b s act) new (inl is) = ap (λ (f : FleetState). f.faults) is
fault_counts master old (On b s act) new (inr took) =
    ap (λ (f : FleetState). f.faults) took.2
    ∙ ap (λ (n : ℕ). n + 1) (taken_faults old b (op_of master (log_op_for master b s act)) took.0 took.1.1)
fault_counts master old (Raise id) new (inl is) = ap (λ (f : FleetState). f.faults) is
fault_counts master old (Raise id) new (inr took) =
    ap (λ (f : FleetState). f.faults) took.2
    ∙ ap (λ (n : ℕ). n + 1) (op_faults master old (Raise id) took.0 took.1)

-- ---- a master that goes on

not_failing : (o : Option Failover) → o ≡ None → IsSome o → ⊥
not_failing None is some = cc
not_failing (Some f) is some = cc

module _ (c : Config) (first : ℕ) where
  -- No failover is open and the ids are numbered, or more faults are counted than at first.
  abbrev IsCalm : World → Type 0
  IsCalm w = IsNumbered c (outline w.knows) ⊎ (first < w.fleet.faults)

  -- The master runs, and it is calm.
  record IsRunning (w : World) : Type 0 where
    running : w.knows.is_halted ≡ false
    calm : IsCalm w
    least : first ≤ w.fleet.faults

  running_at : (old new : World) → new ≡ old → IsRunning old → IsRunning new
  running_at old new same is = subst IsRunning (sym same) is

  -- a step that leaves all this
  running_still : (old new : World) → new.knows.is_halted ≡ old.knows.is_halted
      → (IsNumbered c (outline old.knows) → IsNumbered c (outline new.knows)) → new.fleet.faults ≡ old.fleet.faults
      → IsRunning old → IsRunning new
  running_still old new halted numbered faults is = record {
    running = halted ∙ is.running;
    calm = go is.calm;
    least = let least = is.least in omega arith;
  }
    where
      go : IsCalm old → IsCalm new
      go (inl now) = inl (numbered now)
      go (inr lt) = inr (omega arith)

  -- a step after which a fault is counted
  running_faulted : (new : World) → new.knows.is_halted ≡ false → first < new.fleet.faults → IsRunning new
  running_faulted new running lt = record { running = running; calm = inr lt; least = omega arith }

  lost_counts : (old new : World) (b : ℕ) → Declines old Push (refusal.Lost b) new
      → new.fleet.faults ≡ old.fleet.faults + 1
  lost_counts old new b (inl h) =
      absurd (tested (push_tested old.knows.is_halted (is_done old.knows) (refusal.Lost b) h.0))
    where
      tested : (refusal.Lost b ≡ refusal.Halted) ⊎ ((refusal.Lost b ≡ refusal.Nothing) × (is_done old.knows ≡ true))
          → ⊥
      tested (inl is) = cc
      tested (inr both) = let never = both.0 in cc
  lost_counts old new b (inr (test, inl h)) = let never = h.2 in absurd (cc)
  lost_counts old new b (inr (test, inr (inl h))) = let never = h.2 in absurd (cc)
  lost_counts old new b (inr (test, inr (inr h))) =
      fault_counts old.knows.config.master old.fleet h.1.2.0 new.fleet h.1.2.3

  push_runs : (old new : World) → Advances Push old new → IsRunning old → IsRunning new
  push_runs old new (inl (a, push)) is = elim (kinds old a new push) as (λ _. IsRunning new) [
    | inl head ↦ running_still old new (pushes_rest old a new push).2
        (λ now. subst (λ (d : MasterData). IsNumbered c (outline d)) (sym head.rest)
        (numbered_pushed c old.knows head.push now)) same is
    | inr mend ↦ go mend is.calm
  ]
    where
      same : new.fleet.faults ≡ old.fleet.faults
      same = op_faults old.knows.config.master old.fleet push.op new.fleet push.takes

      go : MendsOn old a new → IsCalm old → IsRunning new
      go mend (inl now) = absurd (not_failing old.knows.failover now.calm mend.failing)
      go mend (inr lt) = running_faulted new ((pushes_rest old a new push).2 ∙ is.running)
          (subst (λ (n : ℕ). first < n) (sym same) lt)
  push_runs old new (inr (b, push)) is =
      let more = lost_counts old new b push in
      let least = is.least in
      running_faulted new (ap (λ (d : MasterData). d.is_halted) (push_lost old new b push).knows ∙ is.running)
      (omega arith)

  pushes_run : (count : ℕ) (old new : World) → ArePushed count old new → IsRunning old → IsRunning new
  pushes_run zero old new same is = running_at old new same is
  pushes_run (suc count) old new (mid, before, push) is =
      push_runs mid new push (pushes_run count old mid before is)

  until_runs : (old new : World) → PushesUntil old refusal.Nothing new → IsRunning old → IsRunning new
  until_runs old new (count, mid, pushes, declines, lost) is =
      running_at mid new (nothing_waits mid new declines).0 (pushes_run count old mid pushes is)

  rolling_runs : (old new : World) → GoesRolling old new → IsRunning old → IsRunning new
  rolling_runs old new (inl (a, roll)) is =
      running_still old new (ap (λ (d : MasterData). d.is_halted) roll.0.rest)
      (numbered_rolling c old.knows new.knows a roll.0) (ap (λ (f : FleetState). f.faults) roll.1) is
  rolling_runs old new (inr (same, why)) is = running_at old new same is

  room_runs : (count : ℕ) (o : Object) (old new : World) → HasRoomMade count o old new → IsRunning old
      → IsRunning new
  room_runs zero o old new same is = running_at old new same is
  room_runs (suc count) o old new (mid, before, waits, rolled) is =
      until_runs rolled.mid new rolled.pushed
      (rolling_runs mid rolled.mid rolled.rolling (room_runs count o old mid before is))

  loaded_runs : (os : List Object) (old new : World) → HasLoaded os old new → IsRunning old → IsRunning new
  loaded_runs [] old new same is = running_at old new same is
  loaded_runs (o ∷ os) old new (mid, (rooms, before, made, loads, fleet), rest) is =
      loaded_runs os mid new rest
      (running_still before mid (ap (λ (d : MasterData). d.is_halted) loads.rest)
      (numbered_loaded c before.knows mid.knows o loads) (ap (λ (f : FleetState). f.faults) fleet)
      (room_runs rooms o old before made is))

  -- ---- how it halts

  halted_test : (halted done : Bool)
      → (if halted then Some refusal.Halted else if done then Some refusal.Nothing else None) ≡ Some refusal.Halted
      → halted ≡ true
  halted_test true done e = refl
  halted_test false true e = absurd (cc)
  halted_test false false e = absurd (cc)

  push_halts : (old new : World) → IsRunning old → Declines old Push refusal.Halted new → first < new.fleet.faults
  push_halts old new is (inl h) =
      absurd (let never = sym is.running ∙ halted_test old.knows.is_halted (is_done old.knows) h.0 in cc)
  push_halts old new is (inr (test, inl h)) = go is.calm
    where
      go : IsCalm old → first < new.fleet.faults
      go (inl now) = absurd (let open_now = h.0.0.1 in let never = sym now.calm ∙ open_now in cc)
      go (inr lt) = subst (λ (w : World). first < w.fleet.faults) (sym h.3) lt
  push_halts old new is (inr (test, inr (inl h))) =
      let more = fault_counts old.knows.config.master old.fleet h.4.0 new.fleet h.4.3 in
      let least = is.least in omega arith
  push_halts old new is (inr (test, inr (inr h))) =
      let more = fault_counts old.knows.config.master old.fleet h.1.2.0 new.fleet h.1.2.2 in
      let least = is.least in omega arith

  until_halts : (old new : World) → IsRunning old → PushesUntil old refusal.Halted new → first < new.fleet.faults
  until_halts old new is (count, mid, pushes, declines, lost) =
      push_halts mid new (pushes_run count old mid pushes is) declines

  roll_halts : (old new : World) → IsRunning old → Declines old BeginRoll refusal.Halted new → ⊥
  roll_halts old new is (same, inl test) =
      (let never = sym is.running ∙ tested _ _ _ _ test in cc)
    where
      tested : (halted opened spent may : Bool)
          → (if halted then Some refusal.Halted else if opened then Some refusal.Rolling
          else if spent then Some refusal.SegmentsSpent else if may then Some refusal.Full else None)
          ≡ Some refusal.Halted → halted ≡ true
      tested true opened spent may e = refl
      tested false true spent may e = absurd (cc)
      tested false false true may e = absurd (cc)
      tested false false false true e = absurd (cc)
      tested false false false false e = absurd (cc)
  roll_halts old new is (same, inr memory) = let none = memory.1 in cc

  -- no load is refused as Halted
  load_test : (big stray full room : Bool)
      → (if big then Some refusal.TooBig else if stray then Some refusal.NoTablet else if full then Some refusal.Full
      else if room then Some refusal.Rolling else None) ≡ Some refusal.Halted → ⊥
  load_test true stray full room e = cc
  load_test false true full room e = cc
  load_test false false true room e = cc
  load_test false false false true e = cc
  load_test false false false false e = cc

  one_halts : (o : Object) (old new : World) → IsRunning old → DeclinesOne o old refusal.Halted new
      → first < new.fleet.faults
  one_halts o old new is (inl ((same, inl test), fleet)) = absurd (load_test _ _ _ _ test)
  one_halts o old new is (inl ((same, inr memory), fleet)) = let none = memory.1 in absurd (cc)
  one_halts o old new is (inr (waits, inl (declines, not_rolling))) = absurd (roll_halts old new is declines)
  one_halts o old new is (inr (waits, inr (mid, rolling, until, not_nothing))) =
      until_halts mid new (rolling_runs old mid rolling is) until

  stuck_halts : (os : List Object) (old new : World) → IsRunning old → IsStuck os old refusal.Halted new
      → first < new.fleet.faults
  stuck_halts [] old new is until = until_halts old new is until
  stuck_halts (o ∷ os) old new is (rooms, mid, made, declines) =
      one_halts o mid new (room_runs rooms o old mid made is) declines

  -- ---- how it runs out of ids

  -- no push is refused so
  push_left : (old new : World) → Declines old Push refusal.SegmentsSpent new → ⊥
  push_left old new (inl h) = tested (push_tested old.knows.is_halted (is_done old.knows) _ h.0)
    where
      tested : (refusal.SegmentsSpent ≡ refusal.Halted)
          ⊎ ((refusal.SegmentsSpent ≡ refusal.Nothing) × (is_done old.knows ≡ true)) → ⊥
      tested (inl is) = cc
      tested (inr both) = let never = both.0 in cc
  push_left old new (inr (test, inl h)) = let never = h.2 in cc
  push_left old new (inr (test, inr (inl h))) = let never = h.2 in cc
  push_left old new (inr (test, inr (inr h))) = h.1

  until_left : (old new : World) → PushesUntil old refusal.SegmentsSpent new → ⊥
  until_left old new (count, mid, pushes, declines, lost) = push_left mid new declines

  -- no load is refused so
  load_left : (big stray full room : Bool)
      → (if big then Some refusal.TooBig else if stray then Some refusal.NoTablet else if full then Some refusal.Full
      else if room then Some refusal.Rolling else None) ≡ Some refusal.SegmentsSpent → ⊥
  load_left true stray full room e = cc
  load_left false true full room e = cc
  load_left false false true room e = cc
  load_left false false false true e = cc
  load_left false false false false e = cc

  roll_test : (halted opened spent may : Bool)
      → (if halted then Some refusal.Halted else if opened then Some refusal.Rolling
      else if spent then Some refusal.SegmentsSpent else if may then Some refusal.Full else None)
      ≡ Some refusal.SegmentsSpent → spent ≡ true
  roll_test true opened spent may e = absurd (cc)
  roll_test false true spent may e = absurd (cc)
  roll_test false false true may e = refl
  roll_test false false false true e = absurd (cc)
  roll_test false false false false e = absurd (cc)

  module _ (ok : config_fault c ≡ None) where
    roll_spends : (old new : World) → IsRunning old → Declines old BeginRoll refusal.SegmentsSpent new
        → first < new.fleet.faults
    roll_spends old new is (same, inl test) = go is.calm
      where
        go : IsCalm old → first < new.fleet.faults
        go (inl now) = absurd (ids_left c old.knows ok now (roll_test _ _ _ _ test))
        go (inr lt) = subst (λ (w : World). first < w.fleet.faults) (sym same) lt
    roll_spends old new is (same, inr memory) = let none = memory.1 in absurd (cc)

    one_spends : (o : Object) (old new : World) → IsRunning old → DeclinesOne o old refusal.SegmentsSpent new
        → first < new.fleet.faults
    one_spends o old new is (inl ((same, inl test), fleet)) = absurd (load_left _ _ _ _ test)
    one_spends o old new is (inl ((same, inr memory), fleet)) = let none = memory.1 in absurd (cc)
    one_spends o old new is (inr (waits, inl (declines, not_rolling))) = roll_spends old new is declines
    one_spends o old new is (inr (waits, inr (mid, rolling, until, not_nothing))) = absurd (until_left mid new until)

    stuck_spends : (os : List Object) (old new : World) → IsRunning old → IsStuck os old refusal.SegmentsSpent new
        → first < new.fleet.faults
    stuck_spends [] old new is until = absurd (until_left old new until)
    stuck_spends (o ∷ os) old new is (rooms, mid, made, declines) =
        one_spends o mid new (room_runs rooms o old mid made is) declines

-- ---- an adoption

module _ (c : Config) (r : Rebuilt) (old : FleetState) where
  first_runs : IsRunning c old.faults (world_of (restored_data c r.safe) old)
  first_runs = record { running = refl; calm = inl (first_numbered c r.safe); least = omega arith }

  mid_runs : (why : Refusal) (after : World)
      → (stops : Stops r.objects (world_of (restored_data c r.safe) old) why after) → IsRunning c old.faults stops.mid
  mid_runs why after stops =
      loaded_runs c old.faults stops.loaded (world_of (restored_data c r.safe) old) stops.mid stops.steps first_runs

pub halts_for_fault : (c : Config) (r : Rebuilt) (old new : FleetState) → DeclinesList c r old refusal.Halted new
    → old.faults < new.faults
halts_for_fault c r old new (inl (why, same)) = absurd (cc)
halts_for_fault c r old new (inr (after, stops)) =
    stuck_halts c old.faults stops.left stops.mid (world_of after new) (mid_runs c r old _ _ stops) stops.cause

pub spends_for_fault : (c : Config) (r : Rebuilt) (old new : FleetState) → config_fault c ≡ None
    → DeclinesList c r old refusal.SegmentsSpent new → old.faults < new.faults
spends_for_fault c r old new ok (inl (why, same)) = absurd (cc)
spends_for_fault c r old new ok (inr (after, stops)) =
    stuck_spends c old.faults ok stops.left stops.mid (world_of after new) (mid_runs c r old _ _ stops) stops.cause
