use Rattle.entry.specs.View.{shown}
use Rattle.segment.specs.View.{entries_left}
use Rattle.division.proofs.Strays.{next_among, covered_more}
use Rattle.division.proofs.straying.first_stray.Goals as goal

pub returns-in-Some-stray_of : goal.returns-in-Some-stray_of
returns-in-Some-stray_of c = (
  shown c.in-Some.entry,
  next_among c.args.will.now c.args.segment.now (entries_left c.loop-entry.entry-iterator) c.loop-entry.invariant
      (shown c.in-Some.entry) (entries_left c.next.new.self) c.in-Some.ensures.steps,
  c.in-Some-stray_of.ensures,
)

pub loop-entry-preserved : goal.loop-entry-preserved
loop-entry-preserved c =
    covered_more c.args.will.now c.args.segment.now (entries_left c.loop-entry.entry-iterator) c.loop-entry.invariant
    (shown c.in-Some.entry) (entries_left c.next.new.self) c.in-Some.ensures.steps c.in_default.ensures
