use Rattle.std.proofs.Common.{refl, subst}
use Rattle.entry.specs.Bag.{IsAmong}
use Rattle.entry.proofs.BagLemmas.{among_at}
use Rattle.crash_fleet.proofs.Sames.{not_more, untrue}
use Rattle.crash_fleet.proofs.same.has.Goals as goal

pub returns-then-is_same : goal.returns-then-is_same
returns-then-is_same c = (
  λ holds. subst (λ h. IsAmong h c.args.list.now) (c.is_same.ensures.0 c.if-is_same.true)
      (among_at c.args.list.now c.loop-holding.holding-index c.holding-item.result c.loop-holding-test.true
      c.holding-item.is),
  λ among. refl,
)

pub loop-holding-preserved : goal.loop-holding-preserved
loop-holding-preserved c =
    not_more c.args.wanted.now c.args.list.now c.loop-holding.holding-index c.holding-item.result
    c.loop-holding-test.true c.holding-item.is c.loop-holding.invariant
    (λ is. untrue c.is_same.result c.if-is_same.false (c.is_same.ensures.1 is))
