-- A list that is adopted.
use Rattle.std.proofs.Common.{◌≡◌, ℕ, zero, suc, Bool, true, false, List, [], ◌∷◌, length, refl, sym, ap, subst, inl}
use Rattle.std.proofs.Common.{inr, ◌∙◌, arith}
use Rattle.std.specs.Prelude.{Some, None, if◌then◌else◌, ◌==◌, ◌&&◌, is_none}
use Rattle.std.proofs.lemmas.Bool.{and_parts}
use Rattle.entry.specs.declared.entry.Entry.TheVariants as entry
use Rattle.entry.specs.declared.entry.Object.{Object}
use Rattle.entry.specs.declared.key.Key.{Key}
use Rattle.entry.specs.Meaning.{contents_of}
use Rattle.replica.specs.Picture.{FleetState}
use Rattle.driving.specs.master.log_laws.Heads.{fewest}
use Rattle.driving.specs.master.log_laws.HeadSteps.{no_units}
use Rattle.driving.specs.master.log_head.Head.{HeadValue, is_open}
use Rattle.driving.specs.master.log_head.Steps.{settled}
use Rattle.driving.proofs.of_master.log_head.Rolls.{zeros_length}
use Rattle.driving.specs.master_core.master_state.declared.config.Config.{Config}
use Rattle.driving.specs.master_core.master_state.declared.step.Refusal.{Refusal}
use Rattle.driving.specs.master_core.master_state.declared.step.Refusal.TheVariants as refusal
use Rattle.driving.specs.master_core.master_state.Causes.{is_done, is_pushed}
use Rattle.driving.specs.master_core.master_state.Data.{MasterData}
use Rattle.driving.specs.master_core.master_state.Loading.{restored_data, Settles}
use Rattle.driving.specs.master.Loading.{DeclinesLoad}
use Rattle.driving.specs.master.World.{World, world_of}
use Rattle.claims.specs.declared.rebuilt.Rebuilt.{Rebuilt}
use Rattle.driving.specs.Rolls.{PushesUntil}
use Rattle.driving.specs.Served.{IsSpent}
use Rattle.driving.proofs.MasterSteps.{nothing_waits, spent_begin, spent_push}
use Rattle.replay.specs.Adopting.{LoadsAll, IsStuck, Stops, IsAdopted, IsAdoptedOn, AdoptsList, live_with}
use Rattle.replay.proofs.LoadList.{contents_loaded}
use Rattle.replay.proofs.LoadSteps.{all_keeps, stacked}

-- ---- a head that is settled

none_fewer : (n : ℕ) → fewest 0 (no_units n) ≡ 0
none_fewer zero = refl
none_fewer (suc n) = let rest = none_fewer n in omega arith

settled_open : (h : HeadValue) → is_open (settled h) ≡ is_open h
settled_open h = ap (λ (n : ℕ). (n == h.replicas) && is_none h.roll) (zeros_length (length h.taken))

settled_pushed : (h : HeadValue) → is_open h ≡ true → is_pushed (settled h) ≡ true
settled_pushed h opened =
    ap (λ (t : Bool). t && (fewest 0 (no_units (length h.taken)) == 0)) (settled_open h ∙ opened)
    ∙ ap (λ (n : ℕ). true && (n == 0)) (none_fewer (length h.taken))

-- ---- what is adopted

pub all_done : (os : List Object) (old new : World) → LoadsAll os old new → is_done new.knows ≡ true
all_done os old new (mid, loaded, (count, last, pushes, declines, lost)) = (nothing_waits last new declines).1

pub adopts : (c : Config) (r : Rebuilt) (os : List Object) (f : FleetState) (start now new : World)
    → start.knows ≡ restored_data c r.safe
    → start.fleet ≡ f → os ≡ r.objects → LoadsAll os start now → Settles now.knows new.knows → new.fleet ≡ now.fleet
    → AdoptsList c r f new
adopts c r os f start now new made fleet listed loads settles same = record {
  last = now;
  loads = subst (λ (ps : List Object). LoadsAll ps (world_of (restored_data c r.safe) f) now) listed
      (subst (λ (w : World). LoadsAll os w now) begins loads);
  settles = settles;
  fleet = same;
}
  where
    begins : start ≡ world_of (restored_data c r.safe) f
    begins = λ i. record { knows = made i; fleet = fleet i }

pub adopted_is : (c : Config) (r : Rebuilt) (os : List Object) (start now : World) (m : MasterData)
    → start.knows ≡ restored_data c r.safe
    → os ≡ r.objects → LoadsAll os start now → Settles now.knows m → IsAdopted c r m
adopted_is c r os start now m made listed loads settles =
    let kept = all_keeps os start now loads in
    let done = and_parts (is_none now.knows.failover) (is_pushed now.knows.head) (all_done os start now loads) in
    let opened = (and_parts (is_open now.knows.head) _ done.1).0 in
    let objects : m.origin.objects ≡ stacked r.objects [] =
    ap (λ (d : MasterData). d.origin.objects) settles.rest ∙ kept.objects
    ∙ ap (λ (d : MasterData). stacked os d.origin.objects) made ∙ ap (λ (ps : List Object). stacked ps []) listed in
    let safe : m.origin.safe ≡ r.safe =
    ap (λ (d : MasterData). d.origin.safe) settles.rest ∙ kept.safe ∙ ap (λ (d : MasterData). d.origin.safe) made in
    let contents : (k : Key) → contents_of m.origin.objects k ≡ contents_of r.objects k =
    λ k. ap (λ (ps : List Object). contents_of ps k) objects ∙ contents_loaded r.objects k r.ordered in
    record {
      config = ap (λ (d : MasterData). d.config) settles.rest ∙ kept.config ∙ ap (λ (d : MasterData). d.config) made;
      opening = λ i. record { contents = λ k. contents k i; safe = safe i };
      history =
          ap (λ (d : MasterData). d.history) settles.rest ∙ kept.history ∙ ap (λ (d : MasterData). d.history) made;
      opened = ap (λ (d : MasterData). is_open d.head) settles.rest ∙ settled_open now.knows.head ∙ opened;
      pushed = ap is_done settles.rest
          ∙ ap (λ (b : Bool). is_none now.knows.failover && b) (settled_pushed now.knows.head opened)
          ∙ ap (λ (b : Bool). b && true) done.0;
      live = ap (λ (d : MasterData). d.live) settles.rest ∙ kept.live
          ∙ ap (λ (d : MasterData). live_with d.live os) made ∙ ap (live_with 0) listed;
    }

-- ---- its fleet

pub adopted_from : (c : Config) (safe : ℕ) (start : World) (f g h : FleetState) → start.knows ≡ restored_data c safe
    → start.fleet ≡ f
    → IsAdoptedOn start.knows.config.master start.fleet g → h ≡ g → IsAdoptedOn c.master f h
adopted_from c safe start f g h made fleet is same =
    subst (IsAdoptedOn c.master f) (sym same)
    (subst (λ (m : ℕ). IsAdoptedOn m f g) (ap (λ (d : MasterData). d.config.master) made)
    (subst (λ (x : FleetState). IsAdoptedOn start.knows.config.master x g) fleet is))

-- ---- spent

until_spent : (old new : World) → PushesUntil old refusal.Spent new → IsSpent new.fleet
until_spent old new (count, mid, pushes, declines, lost) = spent_push mid new refusal.Spent declines refl

spent_load : (o : Object) (old new : World) → DeclinesLoad old.knows (entry.Object o) refusal.Spent new.knows → ⊥
spent_load o old new (same, inl test) = tested _ _ _ _ test
  where
    tested : (big tablet full room : Bool) → (if big then Some refusal.TooBig else if tablet then Some refusal.NoTablet
        else if full then Some refusal.Full else if room then Some refusal.Rolling else None) ≡ Some refusal.Spent → ⊥
    tested true tablet full room e = cc
    tested false true full room e = cc
    tested false false true room e = cc
    tested false false false true e = cc
    tested false false false false e = cc
spent_load o old new (same, inr memory) = let none = memory.1 in cc

stuck_spent : (os : List Object) (old new : World) → IsStuck os old refusal.Spent new → IsSpent new.fleet
stuck_spent [] old new until = until_spent old new until
stuck_spent (o ∷ os) old new (rooms, mid, made, inl (declines, fleet)) = absurd (spent_load o mid new declines)
stuck_spent (o ∷ os) old new (rooms, mid, made, inr (waits, inl (declines, not_rolling))) =
    absurd (spent_begin mid new refusal.Spent declines refl)
stuck_spent (o ∷ os) old new (rooms, mid, made, inr (waits, inr (later, rolling, until, not_nothing))) =
    until_spent later new until

-- only a fleet that is spent refuses as Spent
pub stops_spent : (os : List Object) (a c : World) (r : Refusal) → Stops os a r c → r ≡ refusal.Spent → IsSpent c.fleet
stops_spent os a c r stops is =
    stuck_spent stops.left stops.mid c (subst (λ (x : Refusal). IsStuck stops.left stops.mid x c) is stops.cause)
