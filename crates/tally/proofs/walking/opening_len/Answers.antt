use Rattle.std.proofs.Common.{length, ap, ◌∙◌, sym, arith}
use Rattle.entry.specs.View.{shown}
use Rattle.compactor.proofs.Walking.{here_of, not_unread}
use Rattle.tally.proofs.Opened.{passed_next, passed_data, passed_all}
use Rattle.tally.proofs.walking.opening_len.Goals as goal

pub unreachable-requires : goal.unreachable-requires
unreachable-requires c =
    let s = c.loop-at.invariant in
    not_unread c.args.segment.now c.bytes-text.result.now c.bytes-text.ensures.text c.bytes-text.ensures.valid.each
    s.before s.rest c.loop-at.at s.cut c.loop-at-test.true c.in_default.ensures.complete

pub returns-then-is_data-clause-limit : goal.returns-then-is_data-clause-limit
returns-then-is_data-clause-limit c = omega (arith, c.loop-at.invariant.within, c.bytes-text.ensures.limit)

pub returns-clause-limit : goal.returns-clause-limit
returns-clause-limit c = omega (arith, c.loop-at.invariant.within, c.bytes-text.ensures.limit)

pub returns-then-is_data-clause-sum : goal.returns-then-is_data-clause-sum
returns-then-is_data-clause-sum c =
    let s = c.loop-at.invariant in
    let e = shown c.in-Ok.entry in
    let here =
    here_of c.args.segment.now c.bytes-text.result.now c.bytes-text.ensures.text c.bytes-text.ensures.valid.each
    s.before s.rest c.loop-at.at s.cut c.loop-at-test.true e c.in-Ok.taken c.in-Ok.ensures.complete in
    passed_data c.args.segment.now c.bytes-text.result.now c.loop-at.at s e c.in-Ok.taken here
    (sym c.is_data.ensures ∙ c.if-is_data.true)

pub loop-at-preserved : goal.loop-at-preserved
loop-at-preserved c =
    let s = c.loop-at.invariant in
    let e = shown c.in-Ok.entry in
    let here =
    here_of c.args.segment.now c.bytes-text.result.now c.bytes-text.ensures.text c.bytes-text.ensures.valid.each
    s.before s.rest c.loop-at.at s.cut c.loop-at-test.true e c.in-Ok.taken c.in-Ok.ensures.complete in
    passed_next c.args.segment.now c.bytes-text.result.now c.loop-at.at s e c.in-Ok.taken c.bytes-text.ensures.text here
    (sym c.is_data.ensures ∙ c.if-is_data.false)

pub returns-clause-sum : goal.returns-clause-sum
returns-clause-sum c =
    passed_all c.args.segment.now c.bytes-text.result.now c.loop-at.at c.loop-at.invariant
    (omega (arith, ap length c.bytes-text.ensures.text, c.loop-at-test.false))
