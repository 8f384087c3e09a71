-- A run keeps the configuration, and so a drill recovers the master that it stopped.
use Rattle.std.proofs.Common.{◌≡◌, ℕ, List, [], ◌∷◌, inl, inr, sym, ap, subst, ◌∙◌}
use Rattle.std.specs.Prelude.{◌↔◌, ◌⊎◌, Result, Ok, Err, IfOk, IfErr}
use Rattle.entry.specs.Bag.{IsAmong}
use Rattle.tablet_will.specs.declared.part.Part.{Part}
use Rattle.claims.specs.declared.rebuilt.Rebuilt.{Rebuilt}
use Rattle.replica.specs.declared.holding.Holding.{Holding}
use Rattle.replica.specs.Picture.{FleetState, Shown, left_on, shown_of, survivors, IsHeld}
use Rattle.replica.specs.Survival.{BothSurvive}
use Rattle.replay.specs.master.log_laws.Data.{IsHome}
use Rattle.replay.specs.master.log_bytes.Choice.{IsOpenedHead, IsNewestOpenedOrNone, newest_opened}
use Rattle.replay.specs.master.log_bytes.Sound.{IsSoundInBytes}
use Rattle.replay.specs.master.master_state.declared.config.Config.{Config}
use Rattle.replay.specs.master.master_state.declared.step.Refusal.{Refusal}
use Rattle.replay.specs.master.master_state.declared.step.Step.{Step}
use Rattle.replay.specs.master.master_state.declared.step.StepAnswer.{StepAnswer}
use Rattle.replay.specs.master.master_state.Log.{log_of}
use Rattle.replay.specs.master.Steps.{IsRun}
use Rattle.replay.specs.master.Valid.{IsValid}
use Rattle.replay.specs.master.World.{World}
use Rattle.recovery.specs.declared.recovery.RecoveryFault.{RecoveryFault}
use Rattle.rebuilding.specs.declared.order.GroupOrder.{GroupOrder}
use Rattle.recovery.specs.Orders.{Covers, NamesHeld}
use Rattle.recovery.specs.Drilled.{IsDrill, IsOfHeld}
use Rattle.recovery.specs.Kept.{is_kept}
use Rattle.recovery.specs.Headline.{IsLoss, IsNoMemory}
use Rattle.recovery.specs.Recovered.{IsRecovered, IsRebuiltFrom, IsRefusedFrom, IsSomeLoss, IsSomePrefix}

pub run_keeps : (old new : World) (steps : List Step) (answers : List (Result StepAnswer Refusal))
    → IsRun old steps answers new
    → new.knows.config ≡ old.knows.config
run_keeps old new [] [] run = ap (λ (w : World). w.knows.config) run
run_keeps old new [] (a ∷ rest) run = absurd run
run_keeps old new (s ∷ ss) [] run = absurd run
run_keeps old new (s ∷ ss) (a ∷ rest) run = run_keeps run.0 new ss rest run.3 ∙ run.2.keeps.config

module _ (start stop : World) (steps : List Step) (kept : List ℕ) (will : List Part) (order : GroupOrder)
    (answers : List (Result StepAnswer Refusal)) (ran : IsRun start steps answers stop)
    (left : FleetState) (same : left ≡ stop.fleet) (valid : IsValid stop.knows left) where
  same_config : stop.knows.config ≡ start.knows.config
  same_config = run_keeps start stop steps answers ran

  of_master : stop.knows.config.master ≡ start.knows.config.master
  of_master = ap (λ (c : Config). c.master) same_config

  -- the least head that may be used of its master
  abbrev least : ℕ
  least = left.least start.knows.config.master

  abbrev shown_first : Shown
  shown_first = shown_of left start.knows.config.master

  old : left.least stop.knows.config.master ≡ least
  old = ap left.least of_master

  -- what is left of its master when it stops
  abbrev shown_last : Shown
  shown_last = shown_of left stop.knows.config.master

  sound_left : IsSoundInBytes start.knows.config.master (log_of stop.knows) shown_last
  sound_left = subst (λ (n : ℕ). IsSoundInBytes n (log_of stop.knows) shown_last) of_master valid.sound

  newest_left : IsNewestOpenedOrNone (IsOpenedHead (log_of stop.knows) start.knows.config.master shown_last)
      shown_last.least
      (newest_opened (log_of stop.knows))
  newest_left =
      subst (λ (n : ℕ). IsNewestOpenedOrNone (IsOpenedHead (log_of stop.knows) n shown_last) shown_last.least
      (newest_opened (log_of stop.knows))) of_master valid.newest

  covers_stop : Covers start.knows.config.tablets will → Covers stop.knows.config.tablets will
  covers_stop = subst (λ (c : Config). Covers c.tablets will) (sym same_config)

  module _ (hs : List Holding)
      (shown : (h : Holding) → IsAmong h hs ↔ IsHeld (left_on (is_kept kept) left.picture) h) where
    asked : (r : Result Rebuilt RecoveryFault) → IfOk r (IsRebuiltFrom hs least start.knows.config.master will order)
        → IfErr r (IsRefusedFrom hs least start.knows.config.master will order)
        → IsOfHeld (survivors (is_kept kept) shown_first) start.knows.config.master will order r
    asked (Ok b) is other = (hs, shown, is)
    asked (Err e) other is = inr (hs, shown, is)

    pub prefix : (r : Result Rebuilt RecoveryFault) → IfOk r (IsSomePrefix hs least start.knows.config.master)
        → IfOk r (IsRecovered (log_of stop.knows))
    prefix (Ok b) is =
        is (log_of stop.knows) shown_last (is_kept kept) sound_left of_master old (λ h of. shown h)
    prefix (Err e) is = tt

    pub loss : (r : Result Rebuilt RecoveryFault) → IfErr r (IsSomeLoss hs least start.knows.config.master will order)
        → Covers start.knows.config.tablets will
        → NamesHeld (survivors (is_kept kept) shown_first) start.knows.config.master will order
        → IfErr r (λ e. (IsLoss e ⊎ IsNoMemory e)
        × (BothSurvive (IsHome (log_of stop.knows)) (newest_opened (log_of stop.knows)) shown_last
        stop.knows.config.master (is_kept kept) → IsNoMemory e))
    loss (Ok b) is covers names = tt
    loss (Err e) is covers names =
        let lost = is (log_of stop.knows) shown_last (is_kept kept) (newest_opened (log_of stop.knows)) sound_left
        newest_left of_master old (λ h of. shown h) (covers_stop covers) (names hs shown) in (
          lost.0,
          λ both. lost.1 (subst
              (λ (n : ℕ). BothSurvive (IsHome (log_of stop.knows)) (newest_opened (log_of stop.knows)) shown_last n
              (is_kept kept))
              of_master both),
        )

    -- what some backups show of the fleet gives a prefix, or a loss
    pub drilled : (r : Result Rebuilt RecoveryFault) → IfOk r (IsSomePrefix hs least start.knows.config.master)
        → IfErr r (IsSomeLoss hs least start.knows.config.master will order)
        → IfOk r (IsRebuiltFrom hs least start.knows.config.master will order)
        → IfErr r (IsRefusedFrom hs least start.knows.config.master will order)
        → IsDrill start steps kept will order answers r left
    drilled r recovered refused rebuilt fault = record {
      stop = stop;
      run = ran;
      fleet = same;
      valid = valid;
      asked = asked r rebuilt fault;
      prefix = prefix r recovered;
      loss = loss r refused;
    }

  -- if memory for an inventory ran out, nothing is named as lost
  pub drilled_without : (e : RecoveryFault) → IsNoMemory e → IsDrill start steps kept will order answers (Err e) left
  drilled_without e want = record {
    stop = stop;
    run = ran;
    fleet = same;
    valid = valid;
    asked = inl want;
    prefix = tt;
    loss = λ covers names. (inr want, λ both. want);
  }
