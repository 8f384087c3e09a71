use Rattle.std.proofs.Common.{map, ap, ◌∙◌}
use Rattle.std.proofs.lemmas.List.{map-append}
use Rattle.entry.proofs.BagLemmas.{among_at}
use Rattle.division.specs.Groups.{grouped}
use Rattle.rebuilding.proofs.AllGroups.{groups_more, covered_more, stray}
use Rattle.rebuilding.proofs.rebuilding.groups_in.Goals as goal

pub returns-in-Err-clause-fault : goal.returns-in-Err-clause-fault
returns-in-Err-clause-fault c =
    let segments = c.args.segments.now in
    stray c.args.will.now segments c.segment-item.result c.in-Err.fault c.refused.result
    (among_at segments c.loop-segment.segment-index c.segment-item.result c.loop-segment-test.true c.segment-item.is)
    c.in-Err.ensures.fault c.refused.ensures

pub loop-segment-preserved : goal.loop-segment-preserved
loop-segment-preserved c =
    let segments = c.args.segments.now in
    let i = c.loop-segment.segment-index in
    record {
      groups = groups_more c.args.will.now segments i c.segment-item.result (map grouped c.loop-segment.all.items) _
          (map grouped c.in-Ok.groups.items) c.loop-segment-test.true c.segment-item.is c.in-Ok.ensures.ok
          (ap (map grouped) c.in_ok-append.ensures ∙ map-append grouped c.loop-segment.all.items
          c.in-Ok.groups.items)
          c.loop-segment.invariant.groups;
      covered = covered_more c.args.will.now segments i c.segment-item.result c.loop-segment-test.true c.segment-item.is
          c.in-Ok.ensures.covered c.loop-segment.invariant.covered;
    }
