-- The fleet counts a fault for each backup that fails while a list is loaded.
use Rattle.std.proofs.Common.{◌≡◌, ◌⊎◌, ◌<◌, ◌≤◌, ◌+◌, ℕ, zero, suc, Bool, true, false, List, [], ◌∷◌, refl, sym}
use Rattle.std.proofs.Common.{ap, subst, inl, inr, ◌∙◌, arith}
use Rattle.std.proofs.Math.Nat.{le_refl}
use Rattle.std.specs.Prelude.{Option, Some, None, if◌then◌else◌, nat_lt, unwrap_or}
use Rattle.entry.specs.declared.entry.Object.{Object}
use Rattle.replica.specs.declared.op.TakeFault.TheVariants as take_fault
use Rattle.replica.specs.Op.{OpValue}
use Rattle.replica.specs.Picture.{Replica, FleetState}
use Rattle.replica.specs.Take.{effect, taken, with_effect}
use Rattle.driving.specs.master.log_laws.Ops.{op_of}
use Rattle.driving.specs.master_core.log_laws.Shown.{Op, On, Raise}
use Rattle.driving.specs.master_core.log_bytes.Ops.{RefusesOp, TakesOp, log_op_for}
use Rattle.driving.specs.master_core.master_state.declared.config.Config.{Config}
use Rattle.driving.specs.master_core.master_state.declared.step.Refusal.{Refusal}
use Rattle.driving.specs.master_core.master_state.declared.step.Refusal.TheVariants as refusal
use Rattle.driving.specs.master_core.master_state.declared.step.Step.TheVariants.{Push}
use Rattle.driving.specs.master_core.master_state.Causes.{is_done}
use Rattle.driving.specs.master_core.master_state.Config.{config_fault}
use Rattle.driving.specs.master_core.master_state.Data.{MasterData}
use Rattle.driving.specs.master_core.master_state.Loading.{restored_data}
use Rattle.claims.specs.declared.rebuilt.Rebuilt.{Rebuilt}
use Rattle.driving.specs.master.Steps.{Declines}
use Rattle.driving.specs.master.World.{World, world_of}
use Rattle.driving.specs.Rolls.{Advances, ArePushed, PushesUntil, GoesRolling}
use Rattle.driving.proofs.MasterSteps.{nothing_waits, push_tested}
use Rattle.replay.specs.Adopting.{HasRoomMade, LoadsOne, HasLoaded, IsStuck, Stops}
use Rattle.replay.specs.Needs.{CanBeAdopted, FullIsForFault}
use Rattle.replay.proofs.FullForWant.{full_is_for_want, until_never_full, declined_same, push_unfailing}

-- ---- ops

taken_faults : (old : FleetState) (b : ℕ) (op : OpValue) (new : FleetState) → taken old b op ≡ Some new
    → new.faults ≡ old.faults
taken_faults old b op new is = go (nat_lt b old.backups) (effect op.act (old.picture b op.master op.segment)) is
  where
    go : (there : Bool) (r : Option (Option Replica)) → (if there then with_effect old b op r else None) ≡ Some new
        → new.faults ≡ old.faults
    go true (Some r) e = sym (ap (λ (o : Option FleetState). (unwrap_or o new).faults) e)
    go true None e = absurd (cc)
    go false r e = absurd (cc)

op_faults : (master : ℕ) (old : FleetState) (o : Op) (new : FleetState) → TakesOp master old o new
    → new.faults ≡ old.faults
op_faults master old (On b s act) new takes = taken_faults old b (op_of master (log_op_for master b s act)) new takes.1
op_faults master old (Raise id) new takes = ap (λ (f : FleetState). f.faults) takes.1

more_faults : (old mid new : FleetState) → mid.faults ≡ old.faults → new.faults ≡ mid.faults + 1
    → old.faults < new.faults
more_faults old mid new same more = omega arith

refused_faults : (master : ℕ) (old : FleetState) (o : Op) (new : FleetState)
    → RefusesOp master old o take_fault.Fault new → old.faults < new.faults
refused_faults master old (On b s act) new (inl is) =
    more_faults old old new refl (ap (λ (f : FleetState). f.faults) is)
refused_faults master old (On b s act) new (inr took) =
    more_faults old took.0 new (taken_faults old b (op_of master (log_op_for master b s act)) took.0 took.1.1)
    (ap (λ (f : FleetState). f.faults) took.2)
refused_faults master old (Raise id) new (inl is) =
    more_faults old old new refl (ap (λ (f : FleetState). f.faults) is)
refused_faults master old (Raise id) new (inr took) =
    more_faults old took.0 new (op_faults master old (Raise id) took.0 took.1)
    (ap (λ (f : FleetState). f.faults) took.2)

-- ---- steps

-- The count of faults never falls, and it has risen if a backup failed.
record Counts (old new : World) : Type 0 where
  least : old.fleet.faults ≤ new.fleet.faults
  failed : old.knows.failed ≡ [] → (new.knows.failed ≡ []) ⊎ (old.fleet.faults < new.fleet.faults)

counts_same : (w : World) → Counts w w
counts_same w = record { least = le_refl _; failed = λ none. inl none }

counts_at : (old new : World) → new ≡ old → Counts old new
counts_at old new same = subst (Counts old) (sym same) (counts_same old)

counts_further : (a b c : World) → Counts a b → Counts b c → Counts a c
counts_further a b c first later = record {
  least = let x = first.least in let y = later.least in omega arith;
  failed = λ none. go (first.failed none);
}
  where
    go : (b.knows.failed ≡ []) ⊎ (a.fleet.faults < b.fleet.faults)
        → (c.knows.failed ≡ []) ⊎ (a.fleet.faults < c.fleet.faults)
    go (inl none) = last (later.failed none)
      where
        last : (c.knows.failed ≡ []) ⊎ (b.fleet.faults < c.fleet.faults)
            → (c.knows.failed ≡ []) ⊎ (a.fleet.faults < c.fleet.faults)
        last (inl is) = inl is
        last (inr lt) = inr (let x = first.least in omega arith)
    go (inr lt) = inr (let y = later.least in omega arith)

-- a step that leaves the count of faults, and which backups have failed
counts_fixed : (old new : World) → new.fleet.faults ≡ old.fleet.faults → new.knows.failed ≡ old.knows.failed
    → Counts old new
counts_fixed old new faults failed =
    record { least = omega arith; failed = λ none. inl (failed ∙ none) }

lost_faults : (old new : World) (b : ℕ) → Declines old Push (refusal.Lost b) new
    → old.fleet.faults < new.fleet.faults
lost_faults old new b (inl h) =
    absurd (tested (push_tested old.knows.is_halted (is_done old.knows) (refusal.Lost b) h.0))
  where
    tested : (refusal.Lost b ≡ refusal.Halted) ⊎ ((refusal.Lost b ≡ refusal.Nothing) × (is_done old.knows ≡ true)) → ⊥
    tested (inl is) = cc
    tested (inr both) = let never = both.0 in cc
lost_faults old new b (inr (test, inl h)) = let never = h.2 in absurd (cc)
lost_faults old new b (inr (test, inr (inl h))) = let never = h.2 in absurd (cc)
lost_faults old new b (inr (test, inr (inr h))) =
    refused_faults old.knows.config.master old.fleet h.1.2.0 new.fleet h.1.2.3

push_counts : (old new : World) → Advances Push old new → Counts old new
push_counts old new (inl (a, push)) =
    counts_fixed old new (op_faults old.knows.config.master old.fleet push.op new.fleet push.takes)
    (push_unfailing old new a push)
push_counts old new (inr (b, push)) =
    let more = lost_faults old new b push in record { least = omega arith; failed = λ none. inr more }

pushes_count : (count : ℕ) (old new : World) → ArePushed count old new → Counts old new
pushes_count zero old new same = counts_at old new same
pushes_count (suc count) old new (mid, before, push) =
    counts_further old mid new (pushes_count count old mid before) (push_counts mid new push)

until_counts : (old new : World) → PushesUntil old refusal.Nothing new → Counts old new
until_counts old new (count, mid, pushes, declines, lost) =
    counts_further old mid new (pushes_count count old mid pushes)
    (counts_at mid new (nothing_waits mid new declines).0)

rolling_counts : (old new : World) → GoesRolling old new → Counts old new
rolling_counts old new (inl (a, roll)) =
    counts_fixed old new (ap (λ (f : FleetState). f.faults) roll.1) (ap (λ (d : MasterData). d.failed) roll.0.rest)
rolling_counts old new (inr (same, why)) = counts_at old new same

room_counts : (count : ℕ) (o : Object) (old new : World) → HasRoomMade count o old new → Counts old new
room_counts zero o old new same = counts_at old new same
room_counts (suc count) o old new (mid, before, waits, rolls) =
    counts_further old mid new (room_counts count o old mid before)
    (counts_further mid rolls.mid new (rolling_counts mid rolls.mid rolls.rolling)
    (until_counts rolls.mid new rolls.pushed))

one_counts : (o : Object) (old new : World) → LoadsOne o old new → Counts old new
one_counts o old new (rooms, mid, made, loads, fleet) =
    counts_further old mid new (room_counts rooms o old mid made)
    (counts_fixed mid new (ap (λ (f : FleetState). f.faults) fleet) (ap (λ (d : MasterData). d.failed) loads.rest))

loaded_counts : (os : List Object) (old new : World) → HasLoaded os old new → Counts old new
loaded_counts [] old new same = counts_at old new same
loaded_counts (o ∷ os) old new (mid, one, rest) =
    counts_further old mid new (one_counts o old mid one) (loaded_counts os mid new rest)

stuck_counts : (os : List Object) (old new : World) → IsStuck os old refusal.Full new → Counts old new
stuck_counts [] old new until = absurd (until_never_full old new until)
stuck_counts (o ∷ os) old new (rooms, mid, made, declines) =
    counts_further old mid new (room_counts rooms o old mid made)
    (counts_at mid new (declined_same o mid new declines))

stops_count : (os : List Object) (old new : World) → Stops os old refusal.Full new → Counts old new
stops_count os old new stops =
    counts_further old stops.mid new (loaded_counts stops.loaded old stops.mid stops.steps)
    (stuck_counts stops.left stops.mid new stops.cause)

pub full_is_for_fault : FullIsForFault
full_is_for_fault c r old new ok can (inl (why, same)) = absurd (cc)
full_is_for_fault c r old new ok can (inr (after, stops)) =
    go ((stops_count r.objects (world_of (restored_data c r.safe) old) (world_of after new) stops).failed refl)
  where
    go : (after.failed ≡ []) ⊎ (old.faults < new.faults) → old.faults < new.faults
    go (inl none) = absurd (full_is_for_want c r old new after ok can stops none)
    go (inr more) = more

-- what that says of an adoption that stops
pub full_at : (c : Config) (r : Rebuilt) (start now : World) (f g : FleetState) (why : Refusal)
    → config_fault c ≡ None → start.knows ≡ restored_data c r.safe → start.fleet ≡ f
    → Stops r.objects start why now → g ≡ now.fleet → why ≡ refusal.Full → CanBeAdopted c r.objects
    → f.faults < g.faults
full_at c r start now f g why ok made fleet stops same is can =
    subst (λ (h : FleetState). f.faults < h.faults) (sym same)
    (full_is_for_fault c r f now.fleet ok can (inr (now.knows, stopped)))
  where
    begins : start ≡ world_of (restored_data c r.safe) f
    begins = λ i. record { knows = made i; fleet = fleet i }

    stopped : Stops r.objects (world_of (restored_data c r.safe) f) refusal.Full (world_of now.knows now.fleet)
    stopped =
        subst (λ (w : World). Stops r.objects w refusal.Full now) begins
        (subst (λ (x : Refusal). Stops r.objects start x now) is stops)
