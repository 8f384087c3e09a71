-- What is recovered of an inventory of what was found, in the words of the files.
use Rattle.std.proofs.Common.{◌≡◌, ℕ, inr, List, Option, None, refl, sym, ◌∙◌, ap, subst}
use Rattle.std.specs.Prelude.{◌↔◌, Bool, Result, Ok, Err, IfOk, IfErr}
use Rattle.tablet_will.specs.declared.part.Part.{Part}
use Rattle.recovery.specs.claims.declared.rebuilt.Rebuilt.{Rebuilt}
use Rattle.recovery.specs.replay.rebuilding.declared.order.GroupOrder.{GroupOrder}
use Rattle.recovery.specs.replay.rebuilding.declared.order.GroupOrder.TheVariants.{Forward, Given, Reverse}
use Rattle.recovery.specs.recovery_plan.declared.fault.PlanFault.TheVariants as plan_fault
use Rattle.replica.specs.declared.holding.Holding.{Holding}
use Rattle.replica.specs.Picture.{AreHeld, FleetState, Picture, left_on, shown_of}
use Rattle.file_fleet.specs.Files.{Files, Noted}
use Rattle.file_fleet.specs.declared.member.Member.{Member}
use Rattle.fleet_start.specs.Found.{FindsWhatIsLeft, IsLeftOf, is_found, picture_found}
use Rattle.recovery.specs.master.log_laws.Data.{durable_of}
use Rattle.recovery.specs.master.master_state.Log.{log_of}
use Rattle.recovery.specs.master.master_state.declared.step.Refusal.{Refusal}
use Rattle.recovery.specs.master.master_state.declared.step.Step.{Step}
use Rattle.recovery.specs.master.master_state.declared.step.StepAnswer.{StepAnswer}
use Rattle.recovery.specs.master.Steps.{IsRun}
use Rattle.recovery.specs.master.Valid.{IsValid}
use Rattle.recovery.specs.master.World.{World}
use Rattle.recovery.specs.declared.recovery.RecoveryFault.{RecoveryFault}
use Rattle.recovery.specs.declared.recovery.RecoveryFault.TheVariants as fault
use Rattle.recovery.specs.AtStart.{at_start}
use Rattle.recovery.specs.Headline.{Headline, IsWholeOrder}
use Rattle.recovery.specs.Kept.{is_kept}
use Rattle.recovery.specs.Orders.{NamesGroups}
use Rattle.recovery.specs.Recovered.{IsSomeLoss, IsSomePrefix}
use Rattle.recovery.proofs.Counting.{orders_name}
use Rattle.recovery.proofs.Drilling.{loss, prefix}
use Rattle.recovery.proofs.Heading.{headline}
use Rattle.found_recovery.specs.Starts.{AreFilesOf, HasHeadline, IsLossOfStart, IsRecoveredOfStart}
use Rattle.found_recovery.proofs.Keeping.{keeps_found, numbers_from}

-- an order that isn't written out names each group once
names_groups : (order : GroupOrder) → IsWholeOrder order → (hs : List Holding) (least master : ℕ) (will : List Part)
    → NamesGroups hs least master will order
names_groups Forward whole hs least master will = (orders_name hs least master will).0
names_groups Reverse whole hs least master will = (orders_name hs least master will).1
names_groups (Given numbers) whole hs least master will = absurd whole

-- what a recovery gives of a number and a least head that are these
given : (P : ℕ → ℕ → Type 0) (l n k m : ℕ) → n ≡ m → l ≡ k → P l n → P k m
given P l n k m number least p = subst (λ (x : ℕ). P x m) least (subst (λ (x : ℕ). P l x) number p)

module _ {D : Type 0} (noted : Noted) (places : List (Option (Member D))) (master : ℕ)
    (finds : FindsWhatIsLeft noted places) where
  left_of : (f : FleetState) (files : Files) → AreFilesOf noted places f files → IsLeftOf noted places f
  left_of f files are = finds f files are.shows are.backups are.read

  -- ---- without an inventory

  -- memory ran out
  pub loss_of_memory : (will : List Part) (order : GroupOrder)
      → IsLossOfStart noted places master will order (fault.Plan plan_fault.NoMemory)
  loss_of_memory will order d f files newest are sound of_master counted covers whole = (inr tt, λ both. tt)

  pub headline_of_memory : (will : List Part) (order : GroupOrder)
      → HasHeadline noted places master will order (Err (fault.Plan plan_fault.NoMemory))
  headline_of_memory will order start stop steps answers durable pushes files ran valid told calm of_master are =
      subst (λ (k : ℕ → Bool). Headline (at_start start) steps answers durable pushes stop.fleet k will order
      (Err (fault.Plan plan_fault.NoMemory))) (keeps_found places)
      (headline start stop steps (numbers_from 0 places) will order answers ran stop.fleet refl valid durable pushes
      told calm (Err (fault.Plan plan_fault.NoMemory)) tt (λ covers names. (inr tt, λ both. tt)))

  -- ---- with it

  module _ (hs : List Holding) (shown : AreHeld hs (picture_found places)) (least : ℕ)
      (least_is : least ≡ noted.least master) where
    held : (f : FleetState) (files : Files) → AreFilesOf noted places f files
        → AreHeld hs (left_on (is_found places) f.picture)
    held f files are = subst (λ (p : Picture). AreHeld hs p) (left_of f files are).picture shown

    old : (f : FleetState) (files : Files) → AreFilesOf noted places f files → least ≡ f.least master
    old f files are = least_is ∙ ap (λ (l : ℕ → ℕ). l master) (left_of f files are).least

    recovered : (r : Rebuilt) → IsSomePrefix hs least master r → IsRecoveredOfStart noted places master r
    recovered r is d f files are sound of_master =
        is d (shown_of f master) (is_found places) sound of_master (sym (old f files are))
        (λ h of. held f files are h)

    pub recovered_all : (r : Result Rebuilt RecoveryFault) → IfOk r (IsSomePrefix hs least master)
        → IfOk r (IsRecoveredOfStart noted places master)
    recovered_all (Ok b) is = recovered b is
    recovered_all (Err e) is = tt

    lost : (will : List Part) (order : GroupOrder) (e : RecoveryFault) → IsSomeLoss hs least master will order e
        → IsLossOfStart noted places master will order e
    lost will order e is d f files newest are sound of_master counted covers whole =
        is d (shown_of f master) (is_found places) newest sound counted of_master (sym (old f files are))
        (λ h of. held f files are h) covers (names_groups order whole hs least master will)

    pub lost_all : (will : List Part) (order : GroupOrder) (r : Result Rebuilt RecoveryFault)
        → IfErr r (IsSomeLoss hs least master will order) → IfErr r (IsLossOfStart noted places master will order)
    lost_all will order (Ok b) is = tt
    lost_all will order (Err e) is = lost will order e is

    pub headed : (will : List Part) (order : GroupOrder) (r : Result Rebuilt RecoveryFault)
        → IfOk r (IsSomePrefix hs least master) → IfErr r (IsSomeLoss hs least master will order)
        → HasHeadline noted places master will order r
    headed will order r ok err start stop steps answers durable pushes files ran valid told calm of_master are =
        subst (λ (k : ℕ → Bool). Headline (at_start start) steps answers durable pushes stop.fleet k will order r)
        (keeps_found places)
        (headline start stop steps kept will order answers ran stop.fleet refl valid durable pushes told calm r
        (prefix start stop steps kept will order answers ran stop.fleet refl valid hs held_kept r
        (given (λ (l n : ℕ). IfOk r (IsSomePrefix hs l n)) _ _ _ _ (sym of_master) heads ok))
        (loss start stop steps kept will order answers ran stop.fleet refl valid hs held_kept r
        (given (λ (l n : ℕ). IfErr r (IsSomeLoss hs l n will order)) _ _ _ _ (sym of_master) heads err)))
      where
        kept : List ℕ
        kept = numbers_from 0 places

        held_kept : AreHeld hs (left_on (is_kept kept) stop.fleet.picture)
        held_kept = subst (λ (k : ℕ → Bool). AreHeld hs (left_on k stop.fleet.picture)) (sym (keeps_found places))
            (held stop.fleet files are)

        heads : least ≡ stop.fleet.least start.knows.config.master
        heads = old stop.fleet files are ∙ ap stop.fleet.least (sym of_master)
