-- The headline, from what a run keeps and what a recovery gives.
use Rattle.std.proofs.Common.{◌≡◌, ℕ, zero, suc, ◌<◌, ◌≤◌, Bool, true, false, List, [], ◌∷◌, ◌++◌, inl, inr, length}
use Rattle.std.proofs.Common.{take, refl, sym, ap, subst, ◌∙◌, arith}
use Rattle.std.proofs.lemmas.List.{append-nil, append_assoc}
use Rattle.std.specs.Prelude.{◌↔◌, ◌⊎◌, Some, None, if◌then◌else◌, Result, Ok, Err, IfOk, IfErr}
use Rattle.tablet_will.specs.declared.part.Part.{Part}
use Rattle.claims.specs.declared.rebuilt.Rebuilt.{Rebuilt}
use Rattle.entry.specs.Meaning.{contents_of}
use Rattle.replica.specs.Picture.{FleetState, Shown, shown_of, survivors}
use Rattle.replica.specs.Survival.{BothSurvive}
use Rattle.rebuilding.specs.declared.order.GroupOrder.{GroupOrder}
use Rattle.rebuilding.specs.declared.order.GroupOrder.TheVariants.{Forward, Reverse, Given}
use Rattle.versioned_map.specs.declared.command.Record.{Record}
use Rattle.versioned_map.specs.History.{IsLegal}
use Rattle.versioned_map.specs.Versioned.{State}
use Rattle.replay.specs.master.log_laws.Data.{IsHome, durable_of}
use Rattle.replay.specs.master.log_bytes.Choice.{newest_opened}
use Rattle.replay.specs.master.master_state.declared.config.Config.{Config}
use Rattle.replay.specs.master.master_state.declared.step.Refusal.{Refusal}
use Rattle.replay.specs.master.master_state.declared.step.Refusal.TheVariants as refusal
use Rattle.replay.specs.master.master_state.declared.step.Step.{Step}
use Rattle.replay.specs.master.master_state.declared.step.Step.TheVariants.{Push}
use Rattle.replay.specs.master.master_state.declared.step.StepAnswer.{StepAnswer}
use Rattle.replay.specs.master.master_state.Causes.{is_done}
use Rattle.replay.specs.master.master_state.Data.{Origin}
use Rattle.replay.specs.master.master_state.Log.{log_of, opening_of}
use Rattle.replay.specs.master.Steps.{IsRun, Steps}
use Rattle.replay.specs.master.Survive.{lost}
use Rattle.replay.specs.master.Valid.{IsValid}
use Rattle.replay.specs.master.World.{World}
use Rattle.recovery.specs.declared.recovery.RecoveryFault.{RecoveryFault}
use Rattle.recovery.specs.Headline.{Asked, Headline, IsLoss, IsMapAfter, IsNoMemory, IsWholeOrder, MakeOf, NeverHadAny}
use Rattle.recovery.specs.Headline.{record_of, records_of}
use Rattle.recovery.specs.Headline.{EndsIdle, IsIdlePush}
use Rattle.recovery.specs.AtStart.{at_start}
use Rattle.recovery.specs.Kept.{is_kept}
use Rattle.recovery.specs.Orders.{Covers, NamesHeld}
use Rattle.recovery.specs.Recovered.{IsRecovered}
use Rattle.recovery.proofs.Counting.{orders_name}
use Rattle.recovery.proofs.Drilling.{run_keeps}
use Rattle.recovery.proofs.Takings.{led_all, made, made_all}

-- no step changes what a master began with
pub origin_keeps : (old new : World) (steps : List Step) (answers : List (Result StepAnswer Refusal))
    → IsRun old steps answers new → new.knows.origin ≡ old.knows.origin
origin_keeps old new [] [] run = ap (λ (w : World). w.knows.origin) run
origin_keeps old new [] (a ∷ rest) run = absurd run
origin_keeps old new (s ∷ ss) [] run = absurd run
origin_keeps old new (s ∷ ss) (a ∷ rest) run = origin_keeps run.0 new ss rest run.3 ∙ run.2.keeps.origin

-- ---- once nothing waits

nothing_waits : (halted done : Bool) → (if halted then Some refusal.Halted else if done then Some refusal.Nothing else
    None)
    ≡ Some refusal.Nothing → done ≡ true
nothing_waits true done is = absurd (cc)
nothing_waits false true is = refl
nothing_waits false false is = absurd (cc)

-- all is durable once a push finds nothing that waits
by_push : (s : Step) (a : Result StepAnswer Refusal) → IsIdlePush s a → (old new : World) → Steps old s a new
    → is_done new.knows ≡ true
by_push Push (Err refusal.Nothing) done old new (inl h) =
    subst (λ (w : World). is_done w.knows ≡ true) (sym h.1)
    (nothing_waits old.knows.is_halted (is_done old.knows) h.0)
by_push Push (Err refusal.Nothing) done old new (inr (test, inl h)) = let never = h.2 in absurd (cc)
by_push Push (Err refusal.Nothing) done old new (inr (test, inr (inl h))) = let never = h.2 in absurd (cc)
by_push Push (Err refusal.Nothing) done old new (inr (test, inr (inr h))) = absurd h.1
by_push _ _ done old new h = absurd done

at_end : (old new : World) (steps : List Step) (answers : List (Result StepAnswer Refusal))
    → IsRun old steps answers new → EndsIdle steps answers → is_done new.knows ≡ true
at_end old new (s ∷ []) (a ∷ []) run ends =
    subst (λ (w : World). is_done w.knows ≡ true) (sym run.3) (by_push s a ends old run.0 run.1)
at_end old new (s ∷ []) (a ∷ b ∷ rest) run ends = absurd run.3
at_end old new (s ∷ t ∷ ss) (a ∷ []) run ends = absurd run.3
at_end old new (s ∷ t ∷ ss) (a ∷ b ∷ rest) run ends = at_end run.0 new (t ∷ ss) (b ∷ rest) run.3 ends
at_end old new [] answers run ends = absurd ends
at_end old new (s ∷ ss) [] run ends = absurd run

-- durable commands stay durable
durable_stays : (old new : World) (steps : List Step) (answers : List (Result StepAnswer Refusal))
    → IsRun old steps answers new → durable_of (log_of old.knows) ≤ durable_of (log_of new.knows)
durable_stays old new [] [] run =
    subst (λ (w : World). durable_of (log_of old.knows) ≤ durable_of (log_of w.knows)) (sym run) (omega arith)
durable_stays old new [] (a ∷ rest) run = absurd run
durable_stays old new (s ∷ ss) [] run = absurd run
durable_stays old new (s ∷ ss) (a ∷ rest) run =
    let first = run.2.keeps.durable in
    let later = durable_stays run.0 new ss rest run.3 in omega (arith, first, later)

-- if the first step is a push that found nothing, all commands until then are durable
at_once : (old new : World) (s : Step) (a : Result StepAnswer Refusal) (ss : List Step)
    (rest : List (Result StepAnswer Refusal)) → IsRun old (s ∷ ss) (a ∷ rest) new → IsIdlePush s a
    → length (old.knows.history ++ (record_of s a ++ [])) ≤ durable_of (log_of new.knows)
at_once old new s a ss rest run idle =
    let all = run.2.valid.pushed (by_push s a idle old run.0 run.1) in
    let stays = durable_stays run.0 new ss rest run.3 in
    let same = ap length (made s old run.0 a run.1)
    ∙ ap (λ (rs : List Record). length (old.knows.history ++ rs)) (sym (append-nil (record_of s a))) in
    omega (arith, all, stays, same)

-- so are the commands before any such push
stays_durable : (old new : World) (steps : List Step) (answers : List (Result StepAnswer Refusal))
    → IsRun old steps answers new → (count : ℕ) → EndsIdle (take count steps) (take count answers)
    → length (old.knows.history ++ records_of (take count steps) (take count answers))
    ≤ durable_of (log_of new.knows)
stays_durable old new [] answers run zero idle = absurd idle
stays_durable old new [] answers run (suc n) idle = absurd idle
stays_durable old new (s ∷ ss) [] run n idle = absurd run
stays_durable old new (s ∷ ss) (a ∷ rest) run zero idle = absurd idle
stays_durable old new (s ∷ ss) (a ∷ rest) run (suc zero) idle = at_once old new s a ss rest run idle
stays_durable old new (s ∷ []) (a ∷ []) run (suc (suc n)) idle = at_once old new s a [] [] run idle
stays_durable old new (s ∷ []) (a ∷ b ∷ rest) run (suc (suc n)) idle = absurd run.3
stays_durable old new (s ∷ t ∷ ss) (a ∷ []) run (suc (suc n)) idle = absurd run.3
stays_durable old new (s ∷ t ∷ ss) (a ∷ b ∷ rest) run (suc (suc n)) idle =
    let rs = records_of (t ∷ take n ss) (b ∷ take n rest) in
    let more = stays_durable run.0 new (t ∷ ss) (b ∷ rest) run.3 (suc n) idle in
    let same = ap (λ (hs : List Record). length (hs ++ rs)) (made s old run.0 a run.1)
    ∙ ap length (append_assoc old.knows.history (record_of s a) rs) in
    omega (arith, more, same)

-- ---- orders

-- a whole order names each group of whatever is shown
names_held : (order : GroupOrder) → IsWholeOrder order → (shown : Shown) (master : ℕ) (will : List Part)
    → NamesHeld shown master will order
names_held Forward whole shown master will hs held = (orders_name hs shown.least master will).0
names_held Reverse whole shown master will hs held = (orders_name hs shown.least master will).1
names_held (Given numbers) whole shown master will hs held = absurd whole

module _ (start stop : World) (steps : List Step) (kept : List ℕ) (will : List Part) (order : GroupOrder)
    (answers : List (Result StepAnswer Refusal)) (ran : IsRun start steps answers stop)
    (left : FleetState) (same : left ≡ stop.fleet) (valid : IsValid stop.knows left)
    (durable pushes : ℕ) (told : durable ≡ durable_of (log_of stop.knows))
    (calm : (stop.knows.failover ≡ None) ↔ (pushes ≡ 0)) where
  config_is : stop.knows.config ≡ start.knows.config
  config_is = run_keeps start stop steps answers ran

  opening_is : opening_of stop.knows ≡ opening_of start.knows
  opening_is = ap (λ (o : Origin). record { contents = contents_of o.objects; safe = o.safe })
      (origin_keeps start stop steps answers ran)

  abbrev Loss : RecoveryFault → Type 0
  Loss e = (IsLoss e ⊎ IsNoMemory e) × (
      BothSurvive (IsHome (log_of stop.knows)) (newest_opened (log_of stop.knows))
      (shown_of left stop.knows.config.master) stop.knows.config.master (is_kept kept) → IsNoMemory e)

  -- a sound drill has the headline
  pub headline : (r : Result Rebuilt RecoveryFault)
      → IfOk r (IsRecovered (log_of stop.knows))
      → (Covers start.knows.config.tablets will
      → NamesHeld (survivors (is_kept kept) (shown_of left start.knows.config.master)) start.knows.config.master will
      order
      → IfErr r Loss)
      → Headline (at_start start) steps answers durable pushes left (is_kept kept) will order r
  headline r prefix loss = record {
    history = stop.knows.history;
    interleaved = made_all start stop steps answers ran;
    replied = subst (λ (st : State). IsLegal st stop.knows.history) opening_is valid.legal;
    requests = asked.0;
    stopped = subst (λ (f : FleetState). MakeOf start.knows.config.master start.fleet asked.0 f) (sym same) asked.1;
    rebuilds = rebuilds r prefix;
    acknowledged = λ count idle.
        subst (λ (n : ℕ). length (start.knows.history ++ records_of (take count steps) (take count answers)) ≤ n)
        (sym told) (stays_durable start stop steps answers ran count idle);
    pushed = λ idle. told ∙ valid.pushed (at_end start stop steps answers ran idle);
    refuses = λ covers whole. refuses r (loss covers (names_held order whole _ _ will));
    never = λ covers whole none few. never none few r (loss covers (names_held order whole _ _ will));
  } where
    asked : (xs : List Asked) × MakeOf start.knows.config.master start.fleet xs stop.fleet
    asked = led_all start stop steps answers ran

    rebuilds : (r : Result Rebuilt RecoveryFault)
        → IfOk r (IsRecovered (log_of stop.knows))
        → IfOk r (IsMapAfter (opening_of start.knows) stop.knows.history durable)
    rebuilds (Err e) is = tt
    rebuilds (Ok b) is =
        subst (λ (st : State). IsMapAfter st stop.knows.history durable b) opening_is
        (subst (λ (n : ℕ). IsMapAfter (opening_of stop.knows) stop.knows.history n b) (sym told) is)

    refuses : (r : Result Rebuilt RecoveryFault) → IfErr r Loss → IfErr r (λ e. IsLoss e ⊎ IsNoMemory e)
    refuses (Ok b) is = tt
    refuses (Err e) is = is.0

    never : pushes ≡ 0 → length (lost (is_kept kept) start.knows.config.backups) < start.knows.config.replicas
        → (r : Result Rebuilt RecoveryFault) → IfErr r Loss
        → IfErr r (λ e. IsNoMemory e ⊎ NeverHadAny (opening_of start.knows) stop.knows.history)
    never none few (Ok b) is = tt
    never none few (Err e) is =
        elim (valid.survive (is_kept kept) (calm.1 none)
        (subst (λ (c : Config). length (lost (is_kept kept) c.backups) < c.replicas) (sym config_is) few))
        as (λ _. IsNoMemory e ⊎ NeverHadAny (opening_of start.knows) stop.knows.history) [
          | inl both ↦ inl (is.1 both)
          | inr empty ↦ inr
              (subst (λ (st : State). NeverHadAny st stop.knows.history) opening_is empty)
        ]
