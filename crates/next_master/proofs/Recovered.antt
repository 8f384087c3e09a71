-- Recoveries, told of what is left of a master.
use Rattle.std.proofs.Common.{◌≡◌, ◌⊎◌, ℕ, Bool, true, List, refl, sym, ap, subst, inl, inr, ◌∙◌, arith}
use Rattle.std.specs.Prelude.{ℕ, Option, Some, None, ◌↔◌, take}
use Rattle.std.proofs.lemmas.List.{take_all}
use Rattle.versioned_map.specs.declared.command.Record.{Record}
use Rattle.backup.specs.State.{fleet_state}
use Rattle.backup.specs.declared.fleet.MemoryFleet.{MemoryFleet}
use Rattle.lines.specs.Grammar.{LineValue}
use Rattle.lines.specs.declared.line.ReplayOrder.{ReplayOrder}
use Rattle.lines.specs.declared.line.ReplayOrder.TheVariants.{Forward, Reverse, Threads}
use Rattle.entry.specs.declared.entry.Entry.{Entry}
use Rattle.entry.specs.Bag.{IsAmong}
use Rattle.entry.specs.Meaning.{IsMeaning, among, contents_of}
use Rattle.cluster.specs.replay.claims.declared.rebuilt.Rebuilt.{Rebuilt}
use Rattle.replica.specs.declared.holding.Holding.{Holding}
use Rattle.replica.specs.Picture.{FleetState, Shown, left_on, survivors, IsHeld, AreHeld}
use Rattle.replica.specs.Choice.{IsShownChoice}
use Rattle.replica.specs.Survival.{IsHomeLeft, HeadSurvives, BothSurvive}
use Rattle.cluster.specs.recovery.recovery_plan.declared.fault.PlanFault.TheVariants as plan_fault
use Rattle.cluster.specs.master.log_laws.Ids.{has}
use Rattle.cluster.specs.master.log_laws.Data.{IsHome}
use Rattle.cluster.proofs.of_master.log_laws.Lists.{without_has}
use Rattle.cluster.specs.master.log_bytes.Choice.{IsOpenedHead, IsNewestOpenedOrNone, newest_opened}
use Rattle.cluster.specs.master.log_bytes.Sound.{IsSoundInBytes}
use Rattle.cluster.specs.master.master_state.declared.config.Config.{Config}
use Rattle.cluster.specs.master.master_state.Data.{MasterData}
use Rattle.cluster.specs.master.master_state.Log.{log_of, opening_of}
use Rattle.cluster.specs.recovery.Orders.{Covers, NamesGroups}
use Rattle.cluster.specs.replay.rebuilding.declared.order.GroupOrder.{GroupOrder}
use Rattle.tablet_will.specs.declared.part.Part.{Part}
use Rattle.cluster.specs.recovery.Headline.{IsLoss, IsMapAfter, IsNoMemory}
use Rattle.cluster.specs.recovery.Recovered.{Shows, IsRecovered, IsRebuiltFrom, IsRefusedFrom, IsSomeLoss, IsSomePrefix}
use Rattle.cluster.specs.recovery.recovery_plan.Planned.{IsPlanFault, NamesLoss}
use Rattle.cluster.specs.recovery.declared.recovery.RecoveryFault.{RecoveryFault}
use Rattle.cluster.specs.recovery.declared.recovery.RecoveryFault.TheVariants as fault
use Rattle.cluster.proofs.of_recovery.Choices.{bag-of-plan, surviving-choice}
use Rattle.cluster.proofs.of_recovery.Counting.{orders_name}
use Rattle.cluster.specs.answers.declared.answer.Answer.TheVariants as answer
use Rattle.cluster.specs.declared.node.Node.{Node}
use Rattle.cluster.specs.declared.node.Node.TheVariants.{Down}
use Rattle.next_master.specs.Recoveries.{order_named}
use Rattle.cluster.specs.Lives.{Left, is_left, IsHomeOf, Position}
use Rattle.cluster.specs.Served.{IsLeftOf, IsNodeAt, life_of}
use Rattle.cluster.specs.Told.{Tells}
use Rattle.cluster.specs.Found.{AsksTable, IsRecoveredAt, IsFoundAt, NamesLossOf}
use Rattle.cluster.proofs.WhatIsLeft.{held_of_left, left_at}

-- the inventory of what is left of a picture shows it
pub shows_left : (hs : List Holding) (d : MasterData) (l : Left) (f : FleetState) (master : ℕ)
    → d.config.master ≡ master
    → IsLeftOf d l f → AreHeld hs f.picture → Shows hs (survivors (is_left l.lost) l.shown) master
shows_left hs d l f master number of shown h of_master =
    let at : d.config.master ≡ h.master = number ∙ sym of_master in
    let eq : f.picture h.backup h.master h.segment ≡ left_on (is_left l.lost) l.shown.holds h.backup h.master h.segment
    =
    subst (λ (m : ℕ). f.picture h.backup m h.segment ≡ left_on (is_left l.lost) l.shown.holds h.backup m h.segment) at
    (of.held h.backup h.segment) in
    (λ among. sym eq ∙ (shown h).0 among, λ held. (shown h).1 (eq ∙ held))

pub table_told : (d : MasterData) (node : Node) (config : Config) (at : Position) (r : Rebuilt)
    → IsNodeAt node config d at
    → IsRecovered (log_of d) r → IsRecoveredAt (life_of d) at r
table_told d node config at r s found =
    let kept = s.acknowledged in
    let made = s.made in
    let holds = found.holds in
    let all : take at.made d.history ≡ d.history = take_all at.made d.history (omega arith) in
    subst (λ (rs : List Record). IsMapAfter (opening_of d) rs at.acknowledged r) (sym all) (record {
      count = found.count;
      holds = omega arith;
      within = found.within;
      exactly = found.exactly;
      once = found.once;
      safe = found.safe;
    })

-- ---- homes

home_by : (P Q : ℕ → ℕ → Type 0) → ((s b : ℕ) → P s b → Q s b) → (keep : ℕ → Bool) (s : ℕ) → IsHomeLeft P keep s
    → IsHomeLeft Q keep s
home_by P Q by keep s left = (left.0, by s left.0 left.1, left.2)

head_by : (P Q : ℕ → ℕ → Type 0) → ((s b : ℕ) → P s b → Q s b) → (opened : Option ℕ) (shown : Shown) (master : ℕ)
    (keep : ℕ → Bool) → HeadSurvives P opened shown master keep → HeadSurvives Q opened shown master keep
head_by P Q by None shown master keep head = head
head_by P Q by (Some s) shown master keep (inl home) = inl (home_by P Q by keep s home)
head_by P Q by (Some s) shown master keep (inr later) = inr later

-- both survive by these homes, if they do by some of them
both_by : (P Q : ℕ → ℕ → Type 0) → ((s b : ℕ) → P s b → Q s b) → (opened : Option ℕ) (shown : Shown) (master : ℕ)
    (keep : ℕ → Bool) → BothSurvive P opened shown master keep → BothSurvive Q opened shown master keep
both_by P Q by opened shown master keep both = record {
  head = head_by P Q by opened shown master keep both.head;
  segments = λ s opening newest id listed other.
      home_by P Q by keep id (both.segments s opening newest id listed other);
}

-- ---- recoveries

-- a down node's recovery
module _ (node : Node) (fleet : MemoryFleet) (config : Config) (d : MasterData) (at : Position)
    (down : node ≡ Down fleet) (s : IsNodeAt node config d at) where
  abbrev left : (l : Left) × (at.left ≡ Some l) × IsLeftOf d l (fleet_state fleet)
  left = left_at node fleet config d at down s

  module _ (hs : List Holding) (least master : ℕ) (old : least ≡ (fleet_state fleet).least master)
      (number : config.master ≡ master)
      (shown : (h : Holding) → IsAmong h hs ↔ IsHeld (fleet_state fleet).picture h) where
    of_master : d.config.master ≡ master
    of_master = ap (λ (c : Config). c.master) s.configured ∙ number

    shows : Shows hs (survivors (is_left left.0.lost) left.0.shown) master
    shows = shows_left hs d left.0 (fleet_state fleet) master of_master left.2 shown

    -- the same heads may be used as when it was dropped
    same_least : left.0.shown.least ≡ least
    same_least = ap (λ (s : Shown). s.least) left.2.shown ∙ sym left.2.least
        ∙ ap (fleet_state fleet).least of_master ∙ sym old

    sound : IsSoundInBytes master (log_of d) left.0.shown
    sound =
        subst (λ (n : ℕ). IsSoundInBytes n (log_of d) left.0.shown) of_master
        (subst (λ (x : Shown). IsSoundInBytes d.config.master (log_of d) x) (sym left.2.shown) left.2.valid.sound)

    abbrev opened : Option ℕ
    opened = newest_opened (log_of d)

    -- the newest head that counts, of what was left
    newest : IsNewestOpenedOrNone (IsOpenedHead (log_of d) master left.0.shown) left.0.shown.least opened
    newest =
        subst (λ (n : ℕ). IsNewestOpenedOrNone (IsOpenedHead (log_of d) n left.0.shown) left.0.shown.least opened)
        of_master
        (subst (λ (x : Shown). IsNewestOpenedOrNone (IsOpenedHead (log_of d) d.config.master x) x.least opened)
        (sym left.2.shown) left.2.valid.newest)

    is_home : (s b : ℕ) → IsHomeOf left.0 s b → IsHome (log_of d) s b
    is_home s b home =
        without_has (log_of d).failed ((log_of d).took s) b
        (subst (λ (hs : ℕ → List ℕ). has (hs s) b ≡ true) left.2.homes home)

    -- a table of the choice that the plan has
    pub table_found : (r : Rebuilt) → IsSomePrefix hs least master r → (will : List Part) (order : GroupOrder)
        → IsRebuiltFrom hs least master will order r
        → (l : Left) × (at.left ≡ Some l) × IsFoundAt config (life_of d) at l r
    table_found r recovers will order from =
        let found =
        recovers (log_of d) left.0.shown (is_left left.0.lost) sound of_master same_least shows in
        let c = from.planned.0 in
        let choice = surviving-choice hs least master left.0.shown (is_left left.0.lost) same_least shows c
        from.planned.1.choice in
        let bag = bag-of-plan hs least master c from.plan from.planned.1 in (
          left.0,
          left.1,
          (
            table_told d node config at r s found,
            (
              c,
              subst (λ (n : ℕ). IsShownChoice (survivors (is_left left.0.lost) left.0.shown) n c)
                  (sym number) choice,
              subst (λ (es : List Entry). IsMeaning (among es) (contents_of r.objects)) bag from.rebuilt.meaning,
            ),
          ),
        )

    -- what is named is lost to these backups
    loss_named : (e : RecoveryFault) (will : List Part) (order : GroupOrder) → IsLoss e ⊎ IsNoMemory e
        → IsRefusedFrom hs least master will order e
        → IsNoMemory e ⊎ NamesLossOf config left.0 e
    loss_named (fault.Plan loss) will order is from = inr (
      hs,
      held_of_left config d left.0 (fleet_state fleet) hs s.configured left.2 shown,
      subst (λ (n : ℕ). IsPlanFault hs left.0.shown.least n loss) (sym number)
          (subst (λ (n : ℕ). IsPlanFault hs n master loss) (sym same_least) from.0),
      subst (λ (n : ℕ). NamesLoss hs left.0.shown.least n loss) (sym number)
          (subst (λ (n : ℕ). NamesLoss hs n master loss) (sym same_least) from.1),
    )
    loss_named (fault.Replay refused) will order (inl none) from = absurd none
    loss_named (fault.Replay refused) will order (inr want) from = inl want

    pub loss_told : (e : RecoveryFault) (will : List Part) (order : GroupOrder)
        → IsSomeLoss hs least master will order e
        → IsRefusedFrom hs least master will order e → Covers config.tablets will
        → NamesGroups hs least master will order → (line : LineValue) → AsksTable line
        → Tells config (life_of d) at line (answer.NotRecovered e) at
    loss_told e will order refuses from covers names line asks =
        let here : Covers d.config.tablets will = subst (λ (k : Config). Covers k.tablets will)
        (sym s.configured) covers in
        let loss =
        refuses (log_of d) left.0.shown (is_left left.0.lost) opened sound newest of_master same_least
        shows here names in (
          asks,
          left.0,
          left.1,
          (
            loss.0,
            loss_named e will order loss.0 from,
            λ both. loss.1 (both_by (IsHomeOf left.0) (IsHome (log_of d)) is_home opened left.0.shown
                master (is_left left.0.lost) (subst
                (λ (o : Option ℕ). BothSurvive (IsHomeOf left.0) o left.0.shown master (is_left left.0.lost))
                left.2.opened (subst
                (λ (n : ℕ). BothSurvive (IsHomeOf left.0) left.0.opened left.0.shown n (is_left left.0.lost))
                number both))),
          ),
          refl,
        )

  -- a refusal for memory names no loss
  pub want_told : (line : LineValue) → AsksTable line
      → Tells config (life_of d) at line (answer.NotRecovered (fault.Plan plan_fault.NoMemory)) at
  want_told line asks = (asks, left.0, left.1, (inr tt, inl tt, λ both. tt), refl)

-- ---- orders

-- the order that a line names has each group once
pub names_groups : (order : ReplayOrder) (hs : List Holding) (least master : ℕ) (will : List Part)
    → NamesGroups hs least master will (order_named order)
names_groups Forward hs least master will = (orders_name hs least master will).0
names_groups Reverse hs least master will = (orders_name hs least master will).1
names_groups (Threads workers) hs least master will = (orders_name hs least master will).0
