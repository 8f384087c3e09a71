use Rattle.std.proofs.Common.{◌≡◌, true, refl, sym, ap, ◌∙◌}
use Rattle.std.proofs.lemmas.Bool.{both_ways}
use Rattle.replica.specs.declared.holding.Holding.{Holding}
use Rattle.recovery_plan.specs.Good.{IsOpenHead}
use Rattle.recovery_plan.proofs.Bests.{best-more, best-skip}
use Rattle.recovery_plan.proofs.finding.with_open.Goals as goal

pub returns-then-replica : goal.returns-then-replica
returns-then-replica c m hs head best =
    let h : Holding = c.args.head in
    let is : h.is_open ≡ true = sym (ap (λ (x : Holding). x.is_open) c.replica.ensures) ∙ c.if-replica.true in
    rw c.better_head.ensures (best-more (IsOpenHead m h.segment) hs h c.args.before (head, refl, is) best)

pub returns-else-replica : goal.returns-else-replica
returns-else-replica c m hs head best =
    let h : Holding = c.args.head in
    best-skip (IsOpenHead m h.segment) hs h c.args.before
    (λ p. both_ways c.replica.result.now.is_open c.if-replica.false
    (ap (λ (x : Holding). x.is_open) c.replica.ensures ∙ p.2)) best
