use Rattle.std.proofs.Common.{◌+◌, length, sym, ap, ◌∙◌, arith}
use Rattle.entry.specs.View.{shown}
use Rattle.compactor.proofs.Cutting.{cut_length}
use Rattle.compactor.proofs.Walking.{here_of, not_unread}
use Rattle.cleaner.proofs.Cursors.{cut_of, way_end, way_found, way_next}
use Rattle.cleaner.proofs.walking.next_data.Goals as goal

pub unreachable-requires : goal.unreachable-requires
unreachable-requires c =
    let es = c.args.segment.now in
    let at = c.loop-at.at in
    let b = c.loop-at.invariant.way.between in
    not_unread es c.bytes-text.result.now c.bytes-text.ensures.text c.bytes-text.ensures.valid.each b.before b.rest at
    (cut_of es at b) c.loop-at-test.true c.in_default.ensures.complete

pub returns-then-is_data-clause-finds : goal.returns-then-is_data-clause-finds
returns-then-is_data-clause-finds c =
    let es = c.args.segment.now in
    let at = c.loop-at.at in
    let w = c.loop-at.invariant.way in
    let b = w.between in
    let e = shown c.in-Ok.entry in
    let n = c.in-Ok.taken in
    let here =
    here_of es c.bytes-text.result.now c.bytes-text.ensures.text c.bytes-text.ensures.valid.each b.before b.rest at
    (cut_of es at b) c.loop-at-test.true e n c.in-Ok.ensures.complete in
    way_found es c.args.from at w e n here (sym c.is_data.ensures ∙ c.if-is_data.true)

pub loop-at-preserved : goal.loop-at-preserved
loop-at-preserved c =
    let es = c.args.segment.now in
    let at = c.loop-at.at in
    let w = c.loop-at.invariant.way in
    let b = w.between in
    let e = shown c.in-Ok.entry in
    let n = c.in-Ok.taken in
    let text = c.bytes-text.result.now in
    let here =
    here_of es text c.bytes-text.ensures.text c.bytes-text.ensures.valid.each b.before b.rest at (cut_of es at b)
    c.loop-at-test.true e n c.in-Ok.ensures.complete in
    let next = way_next es c.args.from at w e n here (sym c.is_data.ensures ∙ c.if-is_data.false) in
    let nb = next.between in
    let end = cut_length es nb.before nb.rest (at + n) (cut_of es (at + n) nb) in
    record { way = next; within = omega (arith, end, ap length c.bytes-text.ensures.text) }

pub returns-clause-finds : goal.returns-clause-finds
returns-clause-finds c =
    way_end c.args.segment.now c.args.from c.loop-at.at c.loop-at.invariant.way
    (omega (arith, c.loop-at-test.false, ap length c.bytes-text.ensures.text))
