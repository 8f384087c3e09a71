use Rattle.std.proofs.Common.{◌≡◌, ◌++◌, ◌∷◌, [], ◌+◌, take, get_or, refl, sym, ◌∙◌}
use Rattle.entry.specs.View.{shown_digest, shown_ids}
use Rattle.replica.specs.declared.holding.Holding.{Holding}
use Rattle.recovery_plan.proofs.Bests.{take-more}
use Rattle.recovery_plan.proofs.Heads.{among-at}
use Rattle.recovery_plan.proofs.Lookups.{get-at, told-len, usable-by, by-usable, true-not-false}
use Rattle.recovery_plan.proofs.Lost.{none_more}
use Rattle.recovery_plan.proofs.missing.has_replica.Goals as goal
use Rattle.recovery_plan.proofs.missing.has_replica.Goals.{else-holding-master-via-then-holding-master+then-holding-id+else-is_usable}
use Rattle.recovery_plan.proofs.missing.has_replica.Goals.{else-holding-master-via-then-holding-master+else-holding-id}
use Rattle.recovery_plan.proofs.missing.has_replica.Goals.{else-holding-master-via-else-holding-master}

pub returns-then-is_usable : goal.returns-then-is_usable
returns-then-is_usable c =
    let h : Holding = c.holding-item.result in
    let d = shown_digest c.args.digest.now in
    let i = c.args.place in
    let n = c.len-len.result in
    let among =
    among-at c.args.holdings.now c.loop-holding.holding-index h c.loop-holding-test.true c.holding-item.is in
    let at : get_or (shown_ids c.args.digest.now) i 0 ≡ c.id-id.result = get-at _ i c.id-id.result c.id-id.ensures in
    let told = told-len d i c.id-id.result n c.id-id.ensures c.len-len.ensures in (
      λ yes. (
        h,
        among,
        (c.if-holding-master.true, c.if-holding-id.true ∙ sym at),
        usable-by d _ n h told (c.if-is_usable.ensures.0 refl),
      ),
      λ has. refl,
    )

pub loop-holding-preserved : goal.loop-holding-preserved
loop-holding-preserved c =
    let h : Holding = c.holding-item.result in
    let m = c.args.master in
    let d = shown_digest c.args.digest.now in
    let i = c.args.place in
    let id = get_or (shown_ids c.args.digest.now) i 0 in
    let n = c.len-len.result in
    let at : get_or (shown_ids c.args.digest.now) i 0 ≡ c.id-id.result = get-at _ i c.id-id.result c.id-id.ensures in
    let before = take c.loop-holding.holding-index c.args.holdings.now in
    let more : take (c.loop-holding.holding-index + 1) c.args.holdings.now ≡ before ++ h ∷ [] =
    take-more c.args.holdings.now c.loop-holding.holding-index h c.loop-holding-test.true c.holding-item.is in
    elim c.else-holding-master.branch [
      | else-holding-master-via-then-holding-master+then-holding-id+else-is_usable w ↦
          let told = told-len d i c.id-id.result n c.id-id.ensures c.len-len.ensures in
          rw more (none_more before h m d id c.loop-holding.invariant
          (λ of may. true-not-false (w.if-is_usable.ensures.1 (by-usable d id n h told may))))
      | else-holding-master-via-then-holding-master+else-holding-id w ↦
          rw more (none_more before h m d id c.loop-holding.invariant (λ of may. w.if-holding-id.false (of.1 ∙ at)))
      | else-holding-master-via-else-holding-master w ↦
          rw more (none_more before h m d id c.loop-holding.invariant (λ of may. w.if-holding-master.false of.0))
    ]
