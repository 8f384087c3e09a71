use Rattle.std.proofs.Common.{◌≡◌, ◌<◌, length, subst, sym, ◌∙◌, get_or, arith, false}
use Rattle.std.proofs.lemmas.List.{get_or_default}
use Rattle.rebuilding.proofs.Marks.{omitted, names_each}
use Rattle.rebuilding.proofs.naming.check_naming.Goals as goal

pub returns-then-not-index-clause-fault : goal.returns-then-not-index-clause-fault
returns-then-not-index-clause-fault c =
    let named = c.in_ok-named.named.items in
    let lt : c.loop-n.n < length named = subst (λ m. c.loop-n.n < m)
    (sym c.in_ok-named.ensures.long) c.loop-n-test.true in
    let off : get_or named c.loop-n.n false ≡ false =
    get_or_default named c.loop-n.n false c.index.result.now lt ∙ sym c.index.ensures ∙ c.if-not-index.true in
    omitted c.args.order.now named c.in_ok-named.ensures.ok c.args.count c.loop-n.n c.loop-n-test.true off
    c.loop-n.invariant

pub returns-clause-ok : goal.returns-clause-ok
returns-clause-ok c =
    names_each c.args.order.now c.in_ok-named.named.items c.in_ok-named.ensures.ok c.args.count
    c.in_ok-named.ensures.long (λ n lt. c.loop-n.invariant n (let end = c.loop-n-test.false in omega (arith, lt, end)))
