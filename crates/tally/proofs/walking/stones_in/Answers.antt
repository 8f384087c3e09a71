use Rattle.std.proofs.Common.{◌+◌, length, ap, arith}
use Rattle.entry.specs.View.{shown}
use Rattle.compactor.specs.Log.{ids_of_log}
use Rattle.compactor.proofs.Walking.{here_of, not_unread}
use Rattle.tally.proofs.Counting.{IsWalked, counted_none, counted_all, walked_next}
use Rattle.tally.proofs.walking.stones_in.Goals as goal

pub loop-at-init : goal.loop-at-init
loop-at-init c = record {
  counted = counted_none (ids_of_log c.args.log.now) c.args.segment.now;
  low = omega arith;
  within = omega arith;
}

pub unreachable-requires : goal.unreachable-requires
unreachable-requires c =
    let s = c.loop-at.invariant.counted in
    not_unread c.args.segment.now c.bytes-text.result.now c.bytes-text.ensures.text c.bytes-text.ensures.valid.each
    s.before s.rest c.loop-at.at s.cut c.loop-at-test.true c.in_default.ensures.complete

-- what is true behind the entry that was read
next : (c : goal.After-stone_len-len) → IsWalked (ids_of_log c.args.log.now) c.args.segment.now c.bytes-text.result.now
    (c.loop-at.at + c.in-Ok.taken) (c.loop-at.len + c.stone_len-len.result)
next c =
    let i = c.loop-at.invariant in
    let s = i.counted in
    let ids = ids_of_log c.args.log.now in
    let es = c.args.segment.now in
    let text = c.bytes-text.result.now in
    let at = c.loop-at.at in
    let e = shown c.in-Ok.entry in
    let n = c.in-Ok.taken in
    let here =
    here_of es text c.bytes-text.ensures.text c.bytes-text.ensures.valid.each s.before s.rest at s.cut
    c.loop-at-test.true e n c.in-Ok.ensures.complete in
    walked_next ids es text at c.loop-at.len s e n c.stone_len-len.result i.low c.bytes-text.ensures.text here
    c.stone_len-len.ensures

pub overflow_add-len : goal.overflow_add-len
overflow_add-len c =
    let walked = next c in omega (
      arith,
      walked.low,
      walked.within,
      c.bytes-text.ensures.limit,
      ap length
          c.bytes-text.ensures.text,
    )

pub loop-at-preserved : goal.loop-at-preserved
loop-at-preserved c =
    let walked = next c in record { counted = walked.counted; low = walked.low; within = walked.within }

pub returns-clause-sum : goal.returns-clause-sum
returns-clause-sum c =
    let ids = ids_of_log c.args.log.now in
    let es = c.args.segment.now in
    let past = ap length c.bytes-text.ensures.text in
    counted_all ids es c.loop-at.at c.loop-at.len c.loop-at.invariant.counted
    (omega (arith, past, c.loop-at-test.false))
