use Rattle.std.proofs.Common.{◌≡◌, ◌++◌, ◌∷◌, [], take, ◌+◌, ℕ, sym, subst, ◌∙◌, arith}
use Rattle.std.specs.Prelude.{Some}
use Rattle.std.proofs.lemmas.List.{take_all}
use Rattle.replica.specs.declared.holding.Holding.{Holding}
use Rattle.recovery_plan.specs.Good.{IsHeadOf}
use Rattle.recovery_plan.specs.Planned.{AreNewest}
use Rattle.recovery_plan.proofs.Bests.{take-more}
use Rattle.recovery_plan.proofs.Heads.{good-more, first-bad, no-head, head-closed}
use Rattle.recovery_plan.proofs.finding.newest_head.Goals as goal
use Rattle.recovery_plan.proofs.finding.newest_head.Goals.{then-holding-master+in-Some+in-Some-of}
use Rattle.recovery_plan.proofs.finding.newest_head.Goals.{then-holding-master+in-Some+in_default-of}
use Rattle.recovery_plan.proofs.finding.newest_head.Goals.{else-holding-master}

pub returns-in_default-clause-fault : goal.returns-in_default-clause-fault
returns-in_default-clause-fault c =
    first-bad c.args.holdings.now c.args.master c.loop-holding.holding-index c.holding-item.result
    c.loop-holding-test.true c.holding-item.is
    c.loop-holding.invariant.good c.if-holding-master.true c.in_default.ensures.bad

pub loop-holding-preserved : goal.loop-holding-preserved
loop-holding-preserved c =
    let h : Holding = c.holding-item.result in
    let m = c.args.master in
    let before = take c.loop-holding.holding-index c.args.holdings.now in
    let more : take (c.loop-holding.holding-index + 1) c.args.holdings.now ≡ before ++ h ∷ [] =
    take-more c.args.holdings.now c.loop-holding.holding-index h c.loop-holding-test.true c.holding-item.is in
    elim c.if-holding-master.branch [
      | then-holding-master+in-Some+in-Some-of w ↦
          let is : w.in-Some-of.head ≡ h = w.in-Some-of.ensures.some in
          let head : IsHeadOf m h = (w.if-holding-master.true, w.in-Some-of.ensures.opens) in
          record {
            good = rw more (good-more m before h c.loop-holding.invariant.good (λ _. w.in-Some.ensures.good));
            newest =
                rw (more, w.newest-is)
                (subst
                (λ x. AreNewest m (before ++ x ∷ []) w.with_head-newest.result.id w.with_head-newest.result.taken) is
                (w.with_head-newest.ensures m before (subst (IsHeadOf m) (sym is) head)
                c.loop-holding.invariant.newest));
          }
      | then-holding-master+in-Some+in_default-of w ↦
          record {
            good = rw more (good-more m before h c.loop-holding.invariant.good (λ _. w.in-Some.ensures.good));
            newest =
                rw (more, w.newest-is) (no-head m before h c.loop-holding.newest.id c.loop-holding.newest.taken
                (λ head. w.in_default-of.ensures.none head.1) c.loop-holding.invariant.newest);
          }
      | else-holding-master w ↦
          record {
            good =
                rw more (good-more m before h c.loop-holding.invariant.good
                (λ e. absurd (w.if-holding-master.false e)));
            newest =
                rw (more, w.newest-is) (no-head m before h c.loop-holding.newest.id c.loop-holding.newest.taken
                (λ head. w.if-holding-master.false head.0) c.loop-holding.invariant.newest);
          }
    ]

some-of : {a b : ℕ} → Some a ≡ Some b → a ≡ b
some-of e = cc

pub returns-in-None-taken-clause-fault : goal.returns-in-None-taken-clause-fault
returns-in-None-taken-clause-fault c =
    let same : c.in-Some-id.id ≡ c.in-Some-2.id = some-of (sym c.in-Some-id.is ∙ c.in-Some-2.is) in
    let i = c.loop-holding.holding-index in
    let all = take_all i c.args.holdings.now c.loop-holding-test.false in
    head-closed c.args.master c.args.least (take i c.args.holdings.now) c.args.holdings.now c.loop-holding.newest.id
    c.loop-holding.newest.taken c.in-Some-2.id all
    c.loop-holding.invariant.good c.loop-holding.invariant.newest c.in-Some-2.is (omega arith) c.in-None-taken.is
