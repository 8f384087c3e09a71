use Rattle.std.proofs.Common.{◌≡◌, ◌++◌, ◌∷◌, [], take, ◌+◌, ap, subst, ◌∙◌}
use Rattle.std.proofs.lemmas.List.{take_all}
use Rattle.std.specs.Option.{option_copied}
use Rattle.std.specs.Ordering.{nat_cmp}
use Rattle.std.specs.BTreeMap.{get}
use Rattle.replica.specs.declared.holding.Holding.{Holding}
use Rattle.recovery_plan.specs.Good.{IsOf}
use Rattle.recovery_plan.specs.Preferred.{better, IsBest}
use Rattle.recovery_plan.proofs.Bests.{bests-more, bests-skip, take-more}
use Rattle.recovery_plan.proofs.preferred.best_replicas.Goals as goal
use Rattle.recovery_plan.proofs.preferred.best_replicas.Goals.{then-holding-master+in_ok-insert, else-holding-master}

pub loop-holding-preserved : goal.loop-holding-preserved
loop-holding-preserved c id =
    let h : Holding = c.holding-item.result in
    let before = take c.loop-holding.holding-index c.args.holdings.now in
    let more : take (c.loop-holding.holding-index + 1) c.args.holdings.now ≡ before ++ h ∷ [] =
    take-more c.args.holdings.now c.loop-holding.holding-index h c.loop-holding-test.true c.holding-item.is in
    elim c.if-holding-master.branch [
      | then-holding-master+in_ok-insert w ↦
          let known : w.copied-known.result ≡ get nat_cmp c.loop-holding.best h.segment =
          w.copied-known.ensures ∙ w.get.ensures.value in
          let is : w.better_of.result.now ≡ better (option_copied (get nat_cmp c.loop-holding.best h.segment)) h =
          w.better_of.ensures ∙ ap (λ o. better (option_copied o) h) known in
          rw (w.best-is, more) (bests-more before h c.args.master (get nat_cmp c.loop-holding.best)
          (get nat_cmp w.insert.new.self) w.better_of.result
          w.if-holding-master.true w.in_ok-insert.ensures.updates.0 is c.loop-holding.invariant id)
      | else-holding-master w ↦
          rw (w.best-is, more) (bests-skip before h c.args.master (get nat_cmp c.loop-holding.best)
          w.if-holding-master.false c.loop-holding.invariant id)
    ]

pub returns : goal.returns
returns c id =
    let all = take_all c.loop-holding.holding-index c.args.holdings.now c.loop-holding-test.false in
    subst (λ hs. IsBest (IsOf c.args.master id) hs (option_copied (get nat_cmp c.loop-holding.best id)))
    all (c.loop-holding.invariant id)
