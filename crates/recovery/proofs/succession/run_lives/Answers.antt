use Rattle.std.proofs.Common.{List, subst, sym, arith}
use Rattle.replay.specs.master.World.{world}
use Rattle.recovery.specs.declared.succession.Lived.{Lived}
use Rattle.recovery.specs.declared.succession.End.TheVariants as the_end
use Rattle.recovery.specs.Succession.{AreDrilled}
use Rattle.recovery.proofs.Succeeding.{drilled_none, drilled_to, lived_further}
use Rattle.recovery.proofs.succession.run_lives.Goals as goal

pub returns-in_default : goal.returns-in_default
returns-in_default g c =
    let state = g.F.Fleet.state in
    let courses = c.args.courses.now in
    let m = c.args.master in
    subst (λ (ls : List Lived). AreDrilled state (world state m) courses ls (the_end.NoMemory m))
    (sym c.new.ensures.items) (drilled_none state courses m c.in_default.ensures.succeeds)

pub returns-in-Err : goal.returns-in-Err
returns-in-Err g c =
    let state = g.F.Fleet.state in
    drilled_to state (world state c.args.master) (world state c.loop-course.up) c.args.courses.now
    c.loop-course.course-index c.course-item.result c.loop-course.lived.items c.in-Err.end c.loop-course-test.true
    c.course-item.is c.loop-course.invariant.lived c.in-Err.ensures.ends

pub loop-course-preserved : goal.loop-course-preserved
loop-course-preserved g c =
    let state = g.F.Fleet.state in
    record {
      lived = lived_further (world state c.args.master) (world state c.loop-course.up) (world state c.in-Ok-live.next)
          c.args.courses.now c.loop-course.course-index c.loop-course.lived.items c.push_reserved.new.self.items
          c.course-item.result c.in-Ok-live.life c.loop-course-test.true c.course-item.is c.push_reserved.ensures.items
          c.loop-course.invariant.lived c.in-Ok-live.ensures.lived;
      newest = c.in-Ok-live.ensures.newest;
      config = c.in-Ok-live.ensures.config;
      count = omega (arith, c.push_reserved.ensures.len, c.loop-course.invariant.count);
      room = omega (arith, c.push_reserved.ensures.capacity, c.loop-course.invariant.room);
    }
