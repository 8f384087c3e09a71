-- What the steps of a master that is loaded keep.
use Rattle.std.proofs.Common.{◌≡◌, ℕ, zero, suc, List, [], ◌∷◌, ◌++◌, refl, sym, ap, subst}
use Rattle.std.proofs.Common.{inl, inr, ◌∙◌, arith}
use Rattle.std.proofs.lemmas.List.{append-nil}
use Rattle.entry.specs.declared.entry.Object.{Object}
use Rattle.replica.specs.declared.op.TakeFault.TheVariants as take_fault
use Rattle.replica.specs.Picture.{FleetState}
use Rattle.driving.specs.master_core.log_laws.Shown.{Op}
use Rattle.driving.specs.master_core.log_bytes.Ops.{RefusesOp, TakesOp}
use Rattle.driving.specs.master_core.master_state.declared.step.Refusal.{Refusal}
use Rattle.driving.specs.master_core.master_state.declared.step.Refusal.TheVariants as refusal
use Rattle.driving.specs.master_core.master_state.declared.step.Step.TheVariants.{Push, BeginRoll}
use Rattle.driving.specs.master_core.master_state.declared.step.StepAnswer.{StepAnswer}
use Rattle.driving.specs.master_core.master_state.Data.{MasterData}
use Rattle.driving.specs.master_core.master_state.Loading.{Loads}
use Rattle.driving.specs.master.Steps.{Accepts, Declines, IsPushOp}
use Rattle.driving.specs.master.World.{World}
use Rattle.driving.proofs.of_master.Keeping.{op_beside, op_faulted, take_failed}
use Rattle.driving.proofs.of_master.PushKinds.{pushes_rest}
use Rattle.driving.proofs.of_master.PushedRest.{SameRest}
use Rattle.driving.specs.Rolls.{Advances, ArePushed, PushesUntil, GoesRolling, IsRolled, IsNotRolled}
use Rattle.driving.proofs.Losses.{push_lost}
use Rattle.driving.proofs.MasterSteps.{nothing_waits}
use Rattle.driving.proofs.Ops.{failed_counts, op_counts}
use Rattle.replay.specs.Adopting.{HasRoomMade, LoadsOne, HasLoaded, LoadsAll, DeclinesOne, IsStuck, Stops, IsAdoptedOn}
use Rattle.replay.specs.Adopting.{live_with}
use Rattle.driving.specs.master_core.master_state.Live.{object_bytes, with_bytes}

-- ---- the fleet

pub adopted_same : (master : ℕ) (f : FleetState) → IsAdoptedOn master f f
adopted_same master f =
    record { backups = refl; takes = omega arith; end = refl; others = λ b m s other. refl; least = λ m other. refl }

pub adopted_further : (master : ℕ) (f g h : FleetState) → IsAdoptedOn master f g → IsAdoptedOn master g h
    → IsAdoptedOn master f h
adopted_further master f g h first later =
    let low = first.takes in
    let high = later.takes in
    record {
      backups = later.backups ∙ first.backups;
      takes = omega arith;
      end = later.end ∙ first.end;
      others = λ b m s other. later.others b m s other ∙ first.others b m s other;
      least = λ m other. later.least m other ∙ first.least m other;
    }

-- an op that was taken, or that may have been taken in a fault
taken_adopts : (master : ℕ) (f g : FleetState) (o : Op) → TakesOp master f o g → IsAdoptedOn master f g
taken_adopts master f g o takes =
    let beside = op_beside master f g o takes in
    let counts = op_counts master f o g takes in
    record {
      backups = counts.backups;
      takes = beside.takes.0;
      end = counts.end;
      others = beside.others;
      least = beside.least;
    }

faulted_adopts : (master : ℕ) (f g : FleetState) (o : Op) → RefusesOp master f o take_fault.Fault g
    → IsAdoptedOn master f g
faulted_adopts master f g o refuses =
    let beside = op_faulted master f g o refuses in
    let counts = failed_counts master f o g refuses in
    record {
      backups = counts.backups;
      takes = counts.takes;
      end = counts.end;
      others = beside.others;
      least = beside.least;
    }

module _ (old new : World) where
  quiet : new.fleet ≡ old.fleet → IsAdoptedOn old.knows.config.master old.fleet new.fleet
  quiet same =
      subst (IsAdoptedOn old.knows.config.master old.fleet) (sym same) (adopted_same old.knows.config.master old.fleet)

  same_adopts : new ≡ old → IsAdoptedOn old.knows.config.master old.fleet new.fleet
  same_adopts same = quiet (ap (λ (w : World). w.fleet) same)

  push_adopts : (a : StepAnswer) → Accepts old Push a new → IsAdoptedOn old.knows.config.master old.fleet new.fleet
  push_adopts a p = taken_adopts old.knows.config.master old.fleet new.fleet p.op p.takes

  declined_adopts : (r : Refusal) → Declines old Push r new → IsAdoptedOn old.knows.config.master old.fleet new.fleet
  declined_adopts r (inl t) = same_adopts t.1
  declined_adopts r (inr (test, inl t)) = quiet (ap (λ (w : World). w.fleet) t.3)
  declined_adopts r (inr (test, inr (inl t))) =
      faulted_adopts old.knows.config.master old.fleet new.fleet t.4.0 t.4.3
  declined_adopts r (inr (test, inr (inr t))) = take_failed (IsPushOp old) old new r t.1 same_adopts
      (λ b h. faulted_adopts old.knows.config.master old.fleet new.fleet h.2.0 h.2.3)
      (λ h. faulted_adopts old.knows.config.master old.fleet new.fleet h.2.0 h.2.2)

-- ---- what is loaded

-- the objects on top of others, the last one first
abbrev pub stacked : List Object → List Object → List Object
stacked [] base = base
stacked (o ∷ os) base = stacked os (o ∷ base)

stacked_append : (os ps base : List Object) → stacked (os ++ ps) base ≡ stacked ps (stacked os base)
stacked_append [] ps base = refl
stacked_append (o ∷ os) ps base = stacked_append os ps (o ∷ base)

live_append : (os ps : List Object) (live : ℕ) → live_with live (os ++ ps) ≡ live_with (live_with live os) ps
live_append [] ps live = refl
live_append (o ∷ os) ps live = live_append os ps (with_bytes live (object_bytes o.key o.value))

pub record KeepsLoaded (os : List Object) (old new : World) : Type 0 where
  pub config : new.knows.config ≡ old.knows.config
  pub history : new.knows.history ≡ old.knows.history
  pub safe : new.knows.origin.safe ≡ old.knows.origin.safe
  pub objects : new.knows.origin.objects ≡ stacked os old.knows.origin.objects
  pub live : new.knows.live ≡ live_with old.knows.live os
  pub fleet : IsAdoptedOn old.knows.config.master old.fleet new.fleet

keeps_same : (w : World) → KeepsLoaded [] w w
keeps_same w = record {
  config = refl;
  history = refl;
  safe = refl;
  objects = refl;
  live = refl;
  fleet = adopted_same w.knows.config.master w.fleet;
}

keeps_further : (os ps : List Object) (a b c : World) → KeepsLoaded os a b → KeepsLoaded ps b c
    → KeepsLoaded (os ++ ps) a c
keeps_further os ps a b c first later = record {
  config = later.config ∙ first.config;
  history = later.history ∙ first.history;
  safe = later.safe ∙ first.safe;
  objects = later.objects ∙ ap (stacked ps) first.objects ∙ sym (stacked_append os ps a.knows.origin.objects);
  live = later.live ∙ ap (λ (n : ℕ). live_with n ps) first.live ∙ sym (live_append os ps a.knows.live);
  fleet = adopted_further a.knows.config.master a.fleet b.fleet c.fleet first.fleet
      (subst (λ (m : ℕ). IsAdoptedOn m b.fleet c.fleet) (ap (λ c. c.master) first.config) later.fleet);
}

keeps_at : (old new : World) → new ≡ old → KeepsLoaded [] old new
keeps_at old new same = subst (KeepsLoaded [] old) (sym same) (keeps_same old)

module _ (old new : World) where
  -- the core goes on with the same rest
  rest_keeps : (e : MasterData) → new.knows ≡ e → SameRest e old.knows
      → IsAdoptedOn old.knows.config.master old.fleet new.fleet → KeepsLoaded [] old new
  rest_keeps e is same fleet = record {
    config = ap (λ (d : MasterData). d.config) is ∙ same.0;
    history = ap (λ (d : MasterData). d.history) is ∙ same.1;
    safe = ap (λ (d : MasterData). d.origin.safe) is ∙ ap (λ o. o.safe) same.3;
    objects = ap (λ (d : MasterData). d.origin.objects) is ∙ ap (λ o. o.objects) same.3;
    live = ap (λ (d : MasterData). d.live) is ∙ same.4;
    fleet = fleet;
  }

  push_keeps : Advances Push old new → KeepsLoaded [] old new
  push_keeps (inl (a, p)) = rest_keeps new.knows refl (pushes_rest old a new p) (push_adopts old new a p)
  push_keeps (inr (b, declines)) = record {
    config = ap (λ (d : MasterData). d.config) (push_lost old new b declines).knows;
    history = ap (λ (d : MasterData). d.history) (push_lost old new b declines).knows;
    safe = ap (λ (d : MasterData). d.origin.safe) (push_lost old new b declines).knows;
    objects = ap (λ (d : MasterData). d.origin.objects) (push_lost old new b declines).knows;
    live = ap (λ (d : MasterData). d.live) (push_lost old new b declines).knows;
    fleet = declined_adopts old new (refusal.Lost b) declines;
  }

  roll_keeps : (a : StepAnswer) → Accepts old BeginRoll a new → KeepsLoaded [] old new
  roll_keeps a h = record {
    config = ap (λ (d : MasterData). d.config) h.0.rest;
    history = ap (λ (d : MasterData). d.history) h.0.rest;
    safe = ap (λ (d : MasterData). d.origin.safe) h.0.rest;
    objects = ap (λ (d : MasterData). d.origin.objects) h.0.rest;
    live = ap (λ (d : MasterData). d.live) h.0.rest;
    fleet = quiet old new h.1;
  }

  load_keeps : (o : Object) → Loads old.knows o new.knows → new.fleet ≡ old.fleet → KeepsLoaded (o ∷ []) old new
  load_keeps o h fleet = record {
    config = ap (λ (d : MasterData). d.config) h.rest;
    history = ap (λ (d : MasterData). d.history) h.rest;
    safe = ap (λ (d : MasterData). d.origin.safe) h.rest;
    objects = ap (λ (d : MasterData). d.origin.objects) h.rest;
    live = ap (λ (d : MasterData). d.live) h.rest;
    fleet = quiet old new fleet;
  }

pushed_keeps : (count : ℕ) (old new : World) → ArePushed count old new → KeepsLoaded [] old new
pushed_keeps zero old new same = keeps_at old new same
pushed_keeps (suc count) old new (mid, before, push) =
    keeps_further [] [] old mid new (pushed_keeps count old mid before) (push_keeps mid new push)

until_keeps : (old new : World) → PushesUntil old refusal.Nothing new → KeepsLoaded [] old new
until_keeps old new (count, mid, pushes, declines, lost) =
    keeps_further [] [] old mid new (pushed_keeps count old mid pushes)
    (keeps_at mid new (nothing_waits mid new declines).0)

rolling_keeps : (old new : World) → GoesRolling old new → KeepsLoaded [] old new
rolling_keeps old new (inl (a, roll)) = roll_keeps old new a roll
rolling_keeps old new (inr (same, why)) = keeps_at old new same

rolled_keeps : (id : ℕ) (old new : World) → IsRolled old id new → KeepsLoaded [] old new
rolled_keeps id old new h =
    keeps_further [] [] old h.mid new (rolling_keeps old h.mid h.rolling) (until_keeps h.mid new h.pushed)

pub room_keeps : (count : ℕ) (o : Object) (old new : World) → HasRoomMade count o old new → KeepsLoaded [] old new
room_keeps zero o old new same = keeps_at old new same
room_keeps (suc count) o old new (mid, before, waits, rolled) =
    keeps_further [] [] old mid new (room_keeps count o old mid before) (rolled_keeps new.knows.head.id mid new rolled)

pub one_keeps : (o : Object) (old new : World) → LoadsOne o old new → KeepsLoaded (o ∷ []) old new
one_keeps o old new (rooms, mid, made, loads, fleet) =
    keeps_further [] (o ∷ []) old mid new (room_keeps rooms o old mid made) (load_keeps mid new o loads fleet)

loaded_keeps : (os : List Object) (old new : World) → HasLoaded os old new → KeepsLoaded os old new
loaded_keeps [] old new same = keeps_at old new same
loaded_keeps (o ∷ os) old new (mid, one, rest) =
    keeps_further (o ∷ []) os old mid new (one_keeps o old mid one) (loaded_keeps os mid new rest)

pub all_keeps : (os : List Object) (old new : World) → LoadsAll os old new → KeepsLoaded os old new
all_keeps os old new (mid, loaded, pushes) =
    subst (λ (ps : List Object). KeepsLoaded ps old new) (append-nil os)
    (keeps_further os [] old mid new (loaded_keeps os old mid loaded) (until_keeps mid new pushes))

-- ---- one object after another

pub loads_none : (w : World) → HasLoaded [] w w
loads_none w = refl

pub loads_more : (os : List Object) (o : Object) (a b c : World) → HasLoaded os a b → LoadsOne o b c
    → HasLoaded (os ++ o ∷ []) a c
loads_more [] o a b c same one = (c, subst (λ (w : World). LoadsOne o w c) same one, refl)
loads_more (p ∷ os) o a b c (mid, first, rest) one = (mid, first, loads_more os o mid b c rest one)

-- ---- where it ends

then_adopts : (os : List Object) (a b c : World) → KeepsLoaded os a b
    → IsAdoptedOn b.knows.config.master b.fleet c.fleet
    → IsAdoptedOn a.knows.config.master a.fleet c.fleet
then_adopts os a b c kept later =
    adopted_further a.knows.config.master a.fleet b.fleet c.fleet kept.fleet
    (subst (λ (m : ℕ). IsAdoptedOn m b.fleet c.fleet) (ap (λ c. c.master) kept.config) later)

until_adopts : (old new : World) (r : Refusal) → PushesUntil old r new
    → IsAdoptedOn old.knows.config.master old.fleet new.fleet
until_adopts old new r (count, mid, pushes, declines, lost) =
    then_adopts [] old mid new (pushed_keeps count old mid pushes) (declined_adopts mid new r declines)

unrolled_adopts : (old new : World) (r : Refusal) → IsNotRolled old r new
    → IsAdoptedOn old.knows.config.master old.fleet new.fleet
unrolled_adopts old new r (inl (declines, not_rolling)) = same_adopts old new declines.0
unrolled_adopts old new r (inr (mid, rolling, until, not_nothing)) =
    then_adopts [] old mid new (rolling_keeps old mid rolling) (until_adopts mid new r until)

one_adopts : (o : Object) (old new : World) (r : Refusal) → DeclinesOne o old r new
    → IsAdoptedOn old.knows.config.master old.fleet new.fleet
one_adopts o old new r (inl (declines, fleet)) = quiet old new fleet
one_adopts o old new r (inr (waits, h)) = unrolled_adopts old new r h

stuck_adopts : (os : List Object) (old new : World) (r : Refusal) → IsStuck os old r new
    → IsAdoptedOn old.knows.config.master old.fleet new.fleet
stuck_adopts [] old new r until = until_adopts old new r until
stuck_adopts (o ∷ os) old new r (rooms, mid, made, h) =
    then_adopts [] old mid new (room_keeps rooms o old mid made) (one_adopts o mid new r h)

pub stops_adopts : (os : List Object) (a c : World) (r : Refusal) → Stops os a r c
    → IsAdoptedOn a.knows.config.master a.fleet c.fleet
stops_adopts os a c r stops =
    then_adopts stops.loaded a stops.mid c (loaded_keeps stops.loaded a stops.mid stops.steps)
    (stuck_adopts stops.left stops.mid c r stops.cause)
