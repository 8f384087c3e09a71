-- What is recovered of a sound state, and what a refusal means.
use Rattle.std.proofs.Common.{◌≡◌, ℕ, max, inl, inr, Bool, List, ◌∷◌, refl, sym, ap, subst, ◌∙◌, take}
use Rattle.std.specs.Prelude.{Option, ◌⊎◌}
use Rattle.entry.specs.Bag.{IsAmong}
use Rattle.entry.specs.Key.{place_of}
use Rattle.entry.specs.Meaning.{IsMeaning, IsClean, among, bound_of, contents_of}
use Rattle.tablet_will.specs.declared.part.Part.{Part}
use Rattle.claims.specs.division.Division.{AreCovered}
use Rattle.replica.specs.declared.holding.Holding.{Holding}
use Rattle.replica.specs.Picture.{Shown, survivors}
use Rattle.replica.specs.Choice.{Choice, bag_of}
use Rattle.replica.specs.Survival.{BothSurvive}
use Rattle.claims.specs.Bags.{segments_bag}
use Rattle.claims.specs.Rebuilt.{IsRebuilt}
use Rattle.rebuilding.specs.Rebuilds.{CanBeRebuilt, NamesEach, count_of}
use Rattle.rebuilding.specs.Turns.{replayed}
use Rattle.claims.specs.declared.rebuilt.Rebuilt.{Rebuilt}
use Rattle.claims.specs.declared.fault.ReplayFault.{ReplayFault}
use Rattle.claims.specs.declared.fault.ReplayFault.TheVariants as replay_fault
use Rattle.recovery_plan.specs.declared.chosen.Plan.{Plan}
use Rattle.recovery_plan.specs.declared.fault.PlanFault.{PlanFault}
use Rattle.recovery_plan.specs.declared.fault.PlanFault.TheVariants as plan_fault
use Rattle.recovery_plan.specs.Planned.{IsPlan, IsChoiceOf, IsPlanOf, IsFirstBad, IsPlanFault, NamesLoss}
use Rattle.entry.proofs.BagLemmas.{among_right}
use Rattle.versioned_map.specs.History.{commands_of}
use Rattle.replay.specs.master.log_laws.Data.{FailData, IsHome, state_after}
use Rattle.replay.specs.master.log_bytes.Choice.{IsOpenedHead, IsNewestOpenedOrNone}
use Rattle.replay.specs.master.log_bytes.Sound.{IsSoundInBytes}
use Rattle.versioned_map.specs.Versioned.{IsSafeAfter}
use Rattle.versioned_map.proofs.Meanings.{one_contents}
use Rattle.recovery.specs.Headline.{IsLoss, IsNoMemory}
use Rattle.recovery.specs.Recovered.{Shows, IsRebuiltFrom, IsSomeLoss, IsSomePrefix}
use Rattle.recovery.specs.declared.recovery.RecoveryFault.TheVariants as fault
use Rattle.rebuilding.specs.declared.order.GroupOrder.{GroupOrder}
use Rattle.rebuilding.specs.Orders.{order_for}
use Rattle.recovery.specs.Orders.{Covers, NamesGroups}
use Rattle.recovery.proofs.Whole.{ids_differ}
use Rattle.recovery.proofs.Choices.{bag-of-plan, surviving-choice, shown-choice, shown-good, shown-agree}

-- ---- what is recovered

pub rebuilt-prefix : (hs : List Holding) (least m : ℕ) (c : Choice) (plan : Plan) (r : Rebuilt) →
    IsPlanOf hs least m c plan → IsRebuilt plan.segments plan.safe r → IsSomePrefix hs least m r
rebuilt-prefix hs least m c plan r planned rebuilt d shown keep sound is old shows =
    let bag = bag-of-plan hs least m c plan planned in
    let found = sound.prefix keep c (surviving-choice hs least m shown keep old shows c planned.choice) in
    let prefix = found.1 in
    let meaning : IsMeaning (among (bag_of c)) (contents_of r.objects) =
    subst (λ es. IsMeaning (among es) (contents_of r.objects)) bag rebuilt.meaning in
    let safe : r.safe ≡ max c.opening.safe (bound_of (bag_of c)) =
    rebuilt.safe ∙ ap (λ n. max n (bound_of (segments_bag plan.segments))) planned.safe
    ∙ ap (λ es. max c.opening.safe (bound_of es)) bag in record {
      count = found.0;
      holds = prefix.durable;
      within = prefix.within;
      exactly =
          one_contents (among (bag_of c)) (contents_of r.objects) (state_after d found.0).contents meaning
          prefix.meaning;
      once = rebuilt.order;
      safe = subst (IsSafeAfter (d.opening) (take found.0 (commands_of d.history))) (sym safe) prefix.safe;
    }

-- what a plan of the inventory gives, by the will and the order, is what the inventory gives
pub rebuilt-from : (hs : List Holding) (least m : ℕ) (will : List Part) (order : GroupOrder) (plan : Plan) (r : Rebuilt)
    → IsPlan hs least m plan → AreCovered will (segments_bag plan.segments)
    → NamesEach (count_of plan.segments will) (order_for plan will order) → IsRebuilt plan.segments plan.safe r
    → IsRebuilt (replayed plan.segments will (order_for plan will order)) plan.safe r
    → IsRebuiltFrom hs least m will order r
rebuilt-from hs least m will order plan r planned covered whole rebuilt turns = record {
  plan = plan;
  planned = planned;
  covered = covered;
  whole = whole;
  rebuilt = rebuilt;
  turns = turns;
}

-- ---- what is refused

module _ (hs : List Holding) (least m : ℕ) (d : FailData) (shown : Shown) (keep : ℕ → Bool)
    (sound : IsSoundInBytes m d shown) (old : shown.least ≡ least)
    (shows : Shows hs (survivors keep shown) m) where
  -- no replica of the master is bad
  none-bad : (backup id : ℕ) → IsFirstBad hs m backup id → ⊥
  none-bad backup id first =
      let there : IsAmong first.bad hs =
      subst (IsAmong first.bad) (sym first.place) (among_right first.bad first.before (first.bad ∷ first.after)
      (inl refl)) in
      first.is_bad (shown-good hs least m shown keep old shows d sound first.bad first.of_master there)

  module _ (opened : Option ℕ) (counted : IsNewestOpenedOrNone (IsOpenedHead d m shown) shown.least opened) where
    -- if there is nothing to choose, not both survive
    not-both : ((c : Choice) → IsChoiceOf hs least m c → ⊥) → BothSurvive (IsHome d) opened shown m keep → ⊥
    not-both none both =
        let some = sound.choice keep opened counted both in
        none some.0 (shown-choice hs least m shown keep old shows some.0 some.1)

    pub plan-loss : (e : PlanFault) → IsPlanFault hs least m e → NamesLoss hs least m e →
        (IsLoss (fault.Plan e) ⊎ IsNoMemory (fault.Plan e))
        × (BothSurvive (IsHome d) opened shown m keep → IsNoMemory (fault.Plan e))
    plan-loss plan_fault.NoHead says loss = (inl tt, λ both. absurd (not-both loss both))
    plan-loss (plan_fault.HeadTooOld id) says loss = (inl tt, λ both. absurd (not-both loss both))
    plan-loss (plan_fault.HeadClosed id) says loss = (inl tt, λ both. absurd (not-both loss both))
    plan-loss (plan_fault.Missing id) says loss =
        (inl tt, λ both. absurd (not-both (loss.none (shown-agree hs least m shown keep old shows d sound)) both))
    plan-loss (plan_fault.BadReplica backup id) says loss = absurd (none-bad backup id says)
    plan-loss plan_fault.NoMemory says loss = (inr tt, λ both. tt)

  -- the log that was chosen can be rebuilt, by a will that covers the tablets and an order that names its groups once
  pub rebuildable : (will : List Part) (order : GroupOrder) (c : Choice) (plan : Plan) → IsPlanOf hs least m c plan
      → Covers d.config.tablets will → NamesGroups hs least m will order
      → CanBeRebuilt plan.segments will (order_for plan will order)
  rebuildable will order c plan planned covers names =
      let choice = surviving-choice hs least m shown keep old shows c planned.choice in
      let bag = bag-of-plan hs least m c plan planned in
      record {
        ids = ids_differ hs least m c plan planned;
        clean = subst (λ es. IsClean (among es)) (sym bag) (sound.clean keep c choice);
        covered =
            subst (AreCovered will) (sym bag)
            (λ e among k of. covers k.table (place_of k.bytes) (sound.keys keep c choice e k among of));
        whole = names plan (c, planned);
      }

memory-want : (e : ReplayFault) → e ≡ replay_fault.NoMemory → IsNoMemory (fault.Replay e)
memory-want e is = subst (λ (x : ReplayFault). IsNoMemory (fault.Replay x)) (sym is) tt

pub refused-plan : (hs : List Holding) (least m : ℕ) (will : List Part) (order : GroupOrder) (e : PlanFault)
    → IsPlanFault hs least m e → NamesLoss hs least m e → IsSomeLoss hs least m will order (fault.Plan e)
refused-plan hs least m will order e says loss d shown keep opened sound counted is old shows covers names =
    plan-loss hs least m d shown keep sound old shows opened counted e says loss

pub refused-replay : (hs : List Holding) (least m : ℕ) (will : List Part) (order : GroupOrder) (c : Choice)
    (plan : Plan) (e : ReplayFault) → IsPlanOf hs least m c plan
    → (CanBeRebuilt plan.segments will (order_for plan will order) → e ≡ replay_fault.NoMemory)
    → IsSomeLoss hs least m will order (fault.Replay e)
refused-replay hs least m will order c plan e planned whole d shown keep _ sound _ is old shows covers names =
    let can = rebuildable hs least m d shown keep sound old shows will order c plan planned covers names in
    let want = memory-want e (whole can) in (inr want, λ both. want)
