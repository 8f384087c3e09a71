use Rattle.std.proofs.Common.{◌≡◌, ◌∙◌, ℕ, inr, ap, subst, sym}
use Rattle.std.specs.Prelude.{Result, Err, IfOk, IfErr}
use Rattle.claims.specs.declared.rebuilt.Rebuilt.{Rebuilt}
use Rattle.replay.specs.master.World.{world}
use Rattle.recovery.specs.declared.recovery.RecoveryFault.{RecoveryFault}
use Rattle.recovery.specs.declared.recovery.RecoveryFault.TheVariants as fault
use Rattle.recovery_plan.specs.declared.fault.PlanFault.TheVariants as plan_fault
use Rattle.recovery.specs.Drilled.{IsDrill}
use Rattle.recovery.specs.Recovered.{IsRebuiltFrom, IsRefusedFrom, IsSomeLoss, IsSomePrefix}
use Rattle.recovery.specs.Headline.{Headline}
use Rattle.recovery.specs.Kept.{is_kept}
use Rattle.recovery.specs.AtStart.{at_start}
use Rattle.recovery.proofs.Drilling.{drilled, drilled_without, loss, prefix}
use Rattle.recovery.proofs.Heading.{headline}
use Rattle.recovery.proofs.drill.run_drill.Goals.{in-Ok-inventory_of, in-Err-inventory_of}
use Rattle.recovery.proofs.drill.run_drill.Goals as goal

-- what a recovery gives of a number and a least head that are these
given : (P : ℕ → ℕ → Type 0) (l n k m : ℕ) → n ≡ m → l ≡ k → P l n → P k m
given P l n k m number least p = subst (λ (x : ℕ). P x m) least (subst (λ (x : ℕ). P l x) number p)

pub returns-clause-drill : goal.returns-clause-drill
returns-clause-drill g c =
    let state = g.F.Fleet.state in
    let start = world state c.args.master in
    let stop = world state c.run.new.self in
    let kept = c.args.kept.now in
    let will = c.args.will.now in
    let order = c.args.order.now in
    let answers = c.in-Ok.answers.items in
    let left = state c.crash-fleet.result in
    let same : left ≡ stop.fleet = ap state c.crash-fleet.ensures.fleet in
    elim c.match-inventory_of.branch
    as (λ _. IsDrill start c.args.steps.now kept will order answers c.match-inventory_of.recovered left) [
      | in-Ok-inventory_of w ↦ (
          let r = w.recover-recovered in
          let hs = w.in-Ok-inventory_of.inventory in
          let number = c.number-number.ensures in
          let least = w.least.ensures ∙ ap left.least number in
          subst (λ (x : Result Rebuilt RecoveryFault). IsDrill start c.args.steps.now kept will order answers x left)
          (sym w.recovered-is)
          (drilled start stop c.args.steps.now kept will order answers c.in-Ok.ensures.ran left same
          c.crash-fleet.ensures.valid
          w.in-Ok-inventory_of.inventory w.in-Ok-inventory_of.ensures.shown r.result
          (given (λ (l n : ℕ). IfOk r.result (IsSomePrefix hs l n))
          _ _ _ _ number least r.ensures.ok)
          (given (λ (l n : ℕ). IfErr r.result (IsSomeLoss hs l n will order))
          _ _ _ _ number least r.ensures.refused)
          (given (λ (l n : ℕ). IfOk r.result (IsRebuiltFrom hs l n will order))
          _ _ _ _ number least r.ensures.rebuilt)
          (given (λ (l n : ℕ). IfErr r.result (IsRefusedFrom hs l n will order))
          _ _ _ _ number least r.ensures.fault)))
      | in-Err-inventory_of w ↦
          subst (λ (x : Result Rebuilt RecoveryFault). IsDrill start c.args.steps.now kept will order answers x left)
          (sym w.recovered-is)
          (drilled_without start stop c.args.steps.now kept will order answers c.in-Ok.ensures.ran left same
          c.crash-fleet.ensures.valid
          (fault.Plan plan_fault.NoMemory) tt)
    ]

pub returns-clause-headline : goal.returns-clause-headline
returns-clause-headline g c =
    let state = g.F.Fleet.state in
    let start = world state c.args.master in
    let stop = world state c.run.new.self in
    let steps = c.args.steps.now in
    let kept = c.args.kept.now in
    let will = c.args.will.now in
    let order = c.args.order.now in
    let answers = c.in-Ok.answers.items in
    let left = state c.crash-fleet.result in
    let same : left ≡ stop.fleet = ap state c.crash-fleet.ensures.fleet in
    let durable = c.durable-durable.result in
    let pushes = c.failover_left-pushes_left.result in
    let ran = c.in-Ok.ensures.ran in
    let valid = c.crash-fleet.ensures.valid in
    elim c.match-inventory_of.branch
    as (λ _. Headline (at_start start) steps answers durable pushes left (is_kept kept) will order
    c.match-inventory_of.recovered) [
      | in-Ok-inventory_of w ↦ (
          let r = w.recover-recovered in
          let hs = w.in-Ok-inventory_of.inventory in
          let number = c.number-number.ensures in
          let least = w.least.ensures ∙ ap left.least number in
          let shown = w.in-Ok-inventory_of.ensures.shown in
          subst (λ (x : Result Rebuilt RecoveryFault).
          Headline (at_start start) steps answers durable pushes left (is_kept kept) will order x) (sym w.recovered-is)
          (headline start stop steps kept will order answers ran left same valid durable pushes
          c.durable-durable.ensures.count c.failover_left-pushes_left.ensures.none r.result
          (prefix start stop steps kept will order answers ran left same valid hs shown r.result
          (given (λ (l n : ℕ). IfOk r.result (IsSomePrefix hs l n)) _ _ _ _ number least r.ensures.ok))
          (loss start stop steps kept will order answers ran left same valid hs shown r.result
          (given (λ (l n : ℕ). IfErr r.result (IsSomeLoss hs l n will order)) _ _ _ _ number least
          r.ensures.refused))))
      | in-Err-inventory_of w ↦
          subst (λ (x : Result Rebuilt RecoveryFault).
          Headline (at_start start) steps answers durable pushes left (is_kept kept) will order x) (sym w.recovered-is)
          (headline start stop steps kept will order answers ran left same valid durable pushes
          c.durable-durable.ensures.count c.failover_left-pushes_left.ensures.none
          (Err (fault.Plan plan_fault.NoMemory)) tt (λ covers names. (inr tt, λ both. tt)))
    ]

pub returns-clause-told : goal.returns-clause-told
returns-clause-told g c =
    let state = g.F.Fleet.state in
    record {
      stop = world state c.run.new.self;
      run = c.in-Ok.ensures.ran;
      fleet = ap state c.crash-fleet.ensures.fleet;
      count = c.durable-durable.ensures.count;
      calm = c.failover_left-pushes_left.ensures.none;
    }
