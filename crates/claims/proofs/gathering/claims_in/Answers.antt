use Rattle.std.proofs.Common.{◌++◌, List, map, ap, ◌∙◌}
use Rattle.entry.specs.declared.entry.Entry.{Entry}
use Rattle.entry.specs.View.{shown}
use Rattle.segment.specs.View.{entries_left}
use Rattle.claims.specs.Claims.{claimed, claims_of}
use Rattle.claims.proofs.GatheringLemmas.{gathered_more, entry_passed, entry_claimed, pushed_by}
use Rattle.claims.proofs.gathering.claims_in.Goals as goal

pub loop-segment-preserved : goal.loop-segment-preserved
loop-segment-preserved c =
    let none = c.in-None.ensures.steps in
    let first =
    ap entries_left c.into_iter-entry-iterator.ensures.into_iter_gives ∙ c.entries-entry-items.ensures.entries in
    gathered_more c.args.segments.now c.loop-segment.segment-index c.segment-item.result
    (entries_left c.loop-entry.entry-iterator)
    (map claimed c.loop-segment.claims.items) (map claimed c.loop-entry.claims.items)
    c.loop-segment-test.true c.segment-item.is none.0
    (c.loop-entry.invariant ∙ ap (λ (es : List Entry). map claimed c.loop-segment.claims.items ++ claims_of es) first)
    c.loop-segment.invariant

pub loop-entry-preserved : goal.loop-entry-preserved
loop-entry-preserved c =
    entry_passed (shown c.in-Some.entry) (entries_left c.loop-entry.entry-iterator) (entries_left c.next.new.self)
    (map claimed c.loop-entry.claims.items) _
    c.in-Some.ensures.steps c.in_default.ensures c.loop-entry.invariant

pub loop-entry-preserved-else-is_err : goal.loop-entry-preserved-else-is_err
loop-entry-preserved-else-is_err c =
    entry_claimed (shown c.in-Some.entry) (entries_left c.loop-entry.entry-iterator) (entries_left c.next.new.self)
    c.in-Some-of.claim c.loop-entry.claims.items c.push.new.self.items _
    c.in-Some.ensures.steps c.in-Some-of.ensures (pushed_by c.push.result _ _ _ c.if-is_err.ensures.value
    c.push.ensures.items) c.loop-entry.invariant
