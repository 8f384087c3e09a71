use Rattle.std.proofs.Common.{◌+◌, ◌∷◌, ◌++◌, [], List, length, sym, ap, subst, arith}
use Rattle.cleaner.specs.declared.ahead.Seen.{Seen}
use Rattle.cleaner.proofs.Reading.{IsGathered, gathered_start, gathered_next, gathered_ahead, gathered_some}
use Rattle.cleaner.proofs.ahead.gather.Goals as goal

pub loop-init : goal.loop-init
loop-init c =
    gathered_start c.args.index.now.held.seed c.args.segment.now c.args.from c.args.seen.now.items c.requires.empty
    c.requires.at

pub loop-preserved : goal.loop-preserved
loop-preserved c =
    let seed = c.args.index.now.held.seed in
    let es = c.args.segment.now in
    let at = c.loop.at in
    let xs = c.loop.seen.items in
    let x = c.in-Some.one in
    let next = gathered_next seed es c.args.from c.loop.counter at xs x c.loop.invariant c.in-Some.ensures.seen in
    subst (λ (ys : List Seen). IsGathered seed es c.args.from (c.loop.counter + 1) (at + c.len-at.result) ys)
    (sym c.push.ensures.items)
    (subst (λ n. IsGathered seed es c.args.from (c.loop.counter + 1) (at + n) (xs ++ x ∷ [])) (sym c.len-at.ensures)
    next)

pub returns-in_default-clause-ahead : goal.returns-in_default-clause-ahead
returns-in_default-clause-ahead c =
    let i = c.loop.invariant in
    gathered_ahead c.args.index.now.held.seed c.args.segment.now c.args.from c.loop.seen.items i.all
    (gathered_some c.args.index.now.held.seed c.args.segment.now c.args.from c.loop.counter c.loop.at c.loop.seen.items
    i c.requires.at c.in_default.ensures.other)

pub returns-clause-ahead : goal.returns-clause-ahead
returns-clause-ahead c =
    let i = c.loop.invariant in
    gathered_ahead c.args.index.now.held.seed c.args.segment.now c.args.from c.loop.seen.items i.all
    (λ none. omega (arith, i.few, ap (λ (xs : List Seen). length xs) none, c.loop-test.false))
