-- What is recovered fits a limit, and an adoption of it is never refused for the table.
use Rattle.std.proofs.Common.{◌≡◌, Bool, true, false, List, [], ◌∷◌, ◌++◌, refl, sym, ap, subst, inl, inr}
use Rattle.std.proofs.Common.{◌∙◌}
use Rattle.std.proofs.lemmas.Bool.{or_parts}
use Rattle.std.specs.Prelude.{not, Option, Some, None, unwrap_or, if◌then◌else◌}
use Rattle.std.proofs.lemmas.Option.{same_Some}
use Rattle.entry.specs.declared.entry.Entry.TheVariants as entry
use Rattle.entry.specs.declared.entry.Object.{Object}
use Rattle.entry.specs.Bag.{IsAmong}
use Rattle.entry.proofs.BagLemmas.{among_right}
use Rattle.entry.proofs.ListLemmas.{all_among}
use Rattle.replica.specs.Picture.{FleetState}
use Rattle.claims.specs.declared.rebuilt.Rebuilt.{Rebuilt}
use Rattle.replay.specs.Adopting.{HasLoaded, DeclinesOne, IsStuck, IsFinal, Stops, DeclinesList}
use Rattle.replay.specs.driving.Rolls.{PushesUntil, is_lost}
use Rattle.replay.specs.master.master_state.declared.config.Config.{Config}
use Rattle.replay.specs.master.master_state.declared.step.Refusal.{Refusal}
use Rattle.replay.specs.master.master_state.declared.step.Refusal.TheVariants as refusal
use Rattle.replay.specs.master.master_state.declared.step.Step.TheVariants.{Push, BeginRoll}
use Rattle.replay.specs.master.master_state.Causes.{is_done, is_too_big, is_longer}
use Rattle.replay.specs.master.master_state.Data.{MasterData}
use Rattle.replay.specs.master.master_state.Loading.{is_object_too_big, restored_data}
use Rattle.replay.specs.master.Loading.{DeclinesLoad}
use Rattle.replay.specs.master.Steps.{Declines}
use Rattle.replay.specs.master.World.{World, world_of}
use Rattle.replay.proofs.AdoptedList.{stops_spent}
use Rattle.replay.proofs.FullForFault.{full_is_for_fault}
use Rattle.replay.proofs.LoadSteps.{one_keeps, room_keeps}
use Rattle.replay.proofs.of_driving.MasterSteps.{push_tested}
use Rattle.adoptable.specs.Laws.{RecoveredFits, WithinIsAdopted, IsNotForTable}
use Rattle.adoptable.specs.Limit.{IsAllowed, put_of}
use Rattle.adoptable.proofs.Faulting.{halts_for_fault, spends_for_fault}
use Rattle.adoptable.proofs.Fitting.{within_fits}
use Rattle.adoptable.proofs.Ordered.{ordered_once}
use Rattle.adoptable.proofs.Sums.{AreAllowed}

pub recovered_fits : RecoveredFits
recovered_fits c d r limit admitted found =
    let within = admitted found.count r.objects found.within (ordered_once r.objects found.once) found.exactly in
    (within, within_fits c r.objects limit within)

-- ---- how an adoption may be refused

-- the refusals that an adoption of a table within the limit may end in
abbrev may_refuse : Refusal → Bool
may_refuse refusal.Full = true
may_refuse refusal.NoMemory = true
may_refuse refusal.SegmentsSpent = true
may_refuse refusal.Spent = true
may_refuse refusal.Halted = true
may_refuse _ = false

-- the refusal by a test whose answer may be given
may_be : (given : Refusal) (r : Refusal) → Some given ≡ Some r → may_refuse given ≡ true → may_refuse r ≡ true
may_be given r is may = ap (λ (o : Option Refusal). may_refuse (unwrap_or o given)) (sym is) ∙ may

push_may : (old new : World) (r : Refusal) → Declines old Push r new → is_lost r ≡ false → (r ≡ refusal.Nothing → ⊥)
    → may_refuse r ≡ true
push_may old new r (inl h) lost waits =
    elim (push_tested old.knows.is_halted (is_done old.knows) r h.0) as (λ _. may_refuse r ≡ true) [
      | inl is ↦ ap may_refuse is
      | inr both ↦ absurd (waits both.0)
    ]
push_may old new r (inr (test, inl h)) lost waits = ap may_refuse h.2
push_may old new r (inr (test, inr (inl h))) lost waits = ap may_refuse h.2
push_may old new refusal.NoMemory (inr (test, inr (inr h))) lost waits = refl
push_may old new refusal.Spent (inr (test, inr (inr h))) lost waits = refl
push_may old new refusal.Halted (inr (test, inr (inr h))) lost waits = refl
push_may old new (refusal.Lost b) (inr (test, inr (inr h))) lost waits = absurd (cc)
push_may old new r (inr (test, inr (inr h))) lost waits = absurd h.1

until_may : (old new : World) (r : Refusal) → PushesUntil old r new → (r ≡ refusal.Nothing → ⊥)
    → may_refuse r ≡ true
until_may old new r (count, mid, pushes, declines, lost) waits = push_may mid new r declines lost waits

roll_may : (old new : World) (r : Refusal) → Declines old BeginRoll r new → (r ≡ refusal.Rolling → ⊥)
    → may_refuse r ≡ true
roll_may old new r (same, inl test) final = tested _ _ _ _ test
  where
    tested : (halted opened spent may : Bool)
        → (if halted then Some refusal.Halted else if opened then Some refusal.Rolling
        else if spent then Some refusal.SegmentsSpent else if may then Some refusal.Full else None)
        ≡ Some r → may_refuse r ≡ true
    tested true opened spent may e = may_be refusal.Halted r e refl
    tested false true spent may e = absurd (final (sym (same_Some refusal.Rolling r e)))
    tested false false true may e = may_be refusal.SegmentsSpent r e refl
    tested false false false true e = may_be refusal.Full r e refl
    tested false false false false e = absurd (cc)
roll_may old new r (same, inr memory) final = ap may_refuse memory.1

-- an object that the configuration allows
load_may : (d e : MasterData) (o : Object) (r : Refusal) → IsAllowed d.config (put_of o)
    → DeclinesLoad d (entry.Object o) r e → (r ≡ refusal.Rolling → ⊥) → may_refuse r ≡ true
load_may d e o r allowed (same, inl test) final = tested _ _ _ _ small allowed.0 test
  where
    small : is_object_too_big o d.config.segment ≡ false
    small = (or_parts (is_too_big (put_of o) d.config.segment) (is_longer (put_of o) d.config.largest) allowed.1).0

    tested : (big there full room : Bool) → big ≡ false → there ≡ true
        → (if big then Some refusal.TooBig else if not there then Some refusal.NoTablet
        else if full then Some refusal.Full else if room then Some refusal.Rolling else None) ≡ Some r
        → may_refuse r ≡ true
    tested true there full room small known e = absurd (cc)
    tested false false full room small known e = absurd (cc)
    tested false true true room small known e = may_be refusal.Full r e refl
    tested false true false true small known e = absurd (final (sym (same_Some refusal.Rolling r e)))
    tested false true false false small known e = absurd (cc)
load_may d e o r allowed (same, inr memory) final = ap may_refuse memory.1

one_may : (old new : World) (o : Object) (r : Refusal) → IsAllowed old.knows.config (put_of o) → IsFinal r
    → DeclinesOne o old r new → may_refuse r ≡ true
one_may old new o r allowed final (inl (declines, fleet)) = load_may old.knows new.knows o r allowed declines final.0
one_may old new o r allowed final (inr (waits, inl (declines, not_rolling))) = roll_may old new r declines not_rolling
one_may old new o r allowed final (inr (waits, inr (mid, rolling, until, not_nothing))) =
    until_may mid new r until not_nothing

loaded_config : (os : List Object) (old new : World) → HasLoaded os old new → new.knows.config ≡ old.knows.config
loaded_config [] old new same = ap (λ (w : World). w.knows.config) same
loaded_config (o ∷ os) old new (mid, one, rest) = loaded_config os mid new rest ∙ (one_keeps o old mid one).config

module _ (c : Config) (os : List Object) (allowed : AreAllowed c os) (start new : World) (r : Refusal)
    (begins : start.knows.config ≡ c) (stops : Stops os start r new) where
  abbrev mid : World
  mid = stops.mid

  stops_may : may_refuse r ≡ true
  stops_may = go stops.left stops.parts stops.cause
    where
      go : (left : List Object) → os ≡ stops.loaded ++ left → IsStuck left mid r new → may_refuse r ≡ true
      go [] parts until = until_may mid new r until stops.final.1
      go (o ∷ left) parts (rooms, now, made, declines) = one_may now new o r there stops.final declines
        where
          config : now.knows.config ≡ c
          config = (room_keeps rooms o mid now made).config ∙ loaded_config stops.loaded start mid stops.steps ∙ begins

          there : IsAllowed now.knows.config (put_of o)
          there = subst (λ (k : Config). IsAllowed k (put_of o)) (sym config)
              (all_among (λ (p : Object). IsAllowed c (put_of p)) os o allowed
              (subst (IsAmong o) (sym parts) (among_right o stops.loaded (o ∷ left) (inl refl))))

declined_may : (c : Config) (r : Rebuilt) (old new : FleetState) (why : Refusal) → AreAllowed c r.objects
    → DeclinesList c r old why new → may_refuse why ≡ true
declined_may c r old new why allowed (inl (is, same)) = ap may_refuse is
declined_may c r old new why allowed (inr (after, stops)) =
    stops_may c r.objects allowed (world_of (restored_data c r.safe) old) (world_of after new) why refl stops

declined_spent : (c : Config) (r : Rebuilt) (old new : FleetState) → DeclinesList c r old refusal.Spent new
    → new.takes ≡ new.end
declined_spent c r old new (inl (is, same)) = absurd (cc)
declined_spent c r old new (inr (after, stops)) =
    stops_spent r.objects (world_of (restored_data c r.safe) old) (world_of after new) refusal.Spent stops refl

pub within_is_adopted : WithinIsAdopted
within_is_adopted c r old new why limit within declines =
    go why (declined_may c r old new why within.allowed declines) declines
  where
    go : (why : Refusal) → may_refuse why ≡ true → DeclinesList c r old why new → IsNotForTable old why new
    go refusal.Full may declines =
        full_is_for_fault c r old new limit.valid (within_fits c r.objects limit within).adoptable declines
    go refusal.Halted may declines = halts_for_fault c r old new declines
    go refusal.Spent may declines = declined_spent c r old new declines
    go refusal.NoMemory may declines = tt
    go refusal.SegmentsSpent may declines = spends_for_fault c r old new limit.valid declines
    go why may declines = absurd (cc)
