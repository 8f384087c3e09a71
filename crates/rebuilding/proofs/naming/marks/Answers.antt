use Rattle.std.proofs.Common.{◌≡◌, ◌<◌, length, subst, sym, get_or, ◌∙◌, true, false, ap, arith, Bool, List}
use Rattle.std.specs.Prelude.{slice_index}
use Rattle.std.proofs.lemmas.List.{length-set, get_or_default}
use Rattle.entry.proofs.BagLemmas.{among_at}
use Rattle.claims.proofs.Members.{unmarked, length-unmarked}
use Rattle.rebuilding.specs.Turns.{AreMarked}
use Rattle.rebuilding.proofs.Marks.{named_twice, marked_first, marked_more}
use Rattle.rebuilding.proofs.naming.marks.Goals as goal

pub loop-n-init : goal.loop-n-init
loop-n-init c =
    let is = c.in-Ok.ensures.items_if_clones_equal (λ y h. h) in
    record {
      long = ap length is ∙ length-unmarked c.args.count;
      marks = marked_first c.args.order.now c.in-Ok.named.items
          (λ n. ap (λ (named : List Bool). get_or named n false) is ∙ unmarked c.args.count n);
    }

pub returns-then-n-count-clause-fault : goal.returns-then-n-count-clause-fault
returns-then-n-count-clause-fault c =
    let order = c.args.order.now in
    let k = c.loop-n.n-index in
    let n = slice_index order k in
    (n, among_at order k n c.loop-n-test.true (get_or_default order k 0 n c.loop-n-test.true), c.if-n-count.true)

pub returns-then-index-clause-fault : goal.returns-then-index-clause-fault
returns-then-index-clause-fault c =
    let order = c.args.order.now in
    let named = c.loop-n.named.items in
    let n = slice_index order c.loop-n.n-index in
    let lt : n < length named = subst (λ m. n < m) (sym c.loop-n.invariant.long) c.if-n-count.false in
    let on : get_or named n false ≡ true =
    get_or_default named n false c.index.result.now lt ∙ sym c.index.ensures ∙ c.if-index.true in
    named_twice order named c.loop-n.n-index c.loop-n.invariant.marks c.args.count c.loop-n-test.true
    c.if-n-count.false on

pub loop-n-preserved : goal.loop-n-preserved
loop-n-preserved c =
    let order = c.args.order.now in
    let named = c.loop-n.named.items in
    let n = slice_index order c.loop-n.n-index in
    let lt : n < length named = subst (λ m. n < m) (sym c.loop-n.invariant.long) c.if-n-count.false in
    let off : get_or named n false ≡ false =
    get_or_default named n false c.index.result.now lt ∙ sym c.index.ensures ∙ c.if-index.false in
    record {
      long = length-set named n true ∙ c.loop-n.invariant.long;
      marks = marked_more order named c.loop-n.n-index c.loop-n.invariant.marks lt off;
    }

pub returns-clause-ok : goal.returns-clause-ok
returns-clause-ok c =
    let end : c.loop-n.n-index ≡ length c.args.order.now =
    (let far = c.loop-n.auto.n-index-end in let done = c.loop-n-test.false in omega (arith, far, done)) in
    subst (λ k. AreMarked c.args.order.now k c.loop-n.named.items) end c.loop-n.invariant.marks
