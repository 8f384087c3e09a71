use Rattle.std.proofs.Common.{◌≡◌, List, refl, subst, take}
use Rattle.std.proofs.lemmas.List.{take_all}
use Rattle.replica.specs.declared.holding.Holding.{Holding}
use Rattle.entry.specs.Bag.{IsAmong}
use Rattle.entry.proofs.BagLemmas.{among_at}
use Rattle.crash_fleet.specs.Same.{AreAmong}
use Rattle.crash_fleet.proofs.Sames.{all_more, untrue}
use Rattle.crash_fleet.proofs.same.has_all.Goals as goal

pub returns-then-not-has : goal.returns-then-not-has
returns-then-not-has c = (
  λ holds. (cc),
  λ are. let bad = untrue c.has.result c.if-not-has.true (c.has.ensures.1 (are c.holding-item.result
      (among_at c.args.ones.now c.loop-holding.holding-index c.holding-item.result c.loop-holding-test.true
      c.holding-item.is))) in absurd bad,
)

pub loop-holding-preserved : goal.loop-holding-preserved
loop-holding-preserved c =
    all_more (λ h. IsAmong h c.args.others.now) c.args.ones.now c.loop-holding.holding-index c.holding-item.result
    c.loop-holding-test.true c.holding-item.is c.loop-holding.invariant (c.has.ensures.0 c.if-not-has.false)

pub returns : goal.returns
returns c = (
  λ holds. subst (λ (hs : List Holding). AreAmong hs c.args.others.now)
      (take_all c.loop-holding.holding-index c.args.ones.now c.loop-holding-test.false) c.loop-holding.invariant,
  λ are. refl,
)
