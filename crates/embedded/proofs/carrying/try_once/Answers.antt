use Rattle.std.proofs.Common.{arith}
use Rattle.history.specs.View.{shown_command}
use Rattle.recovery.specs.master.World.{world}
use Rattle.embedded.proofs.Going.{served_tried, unserved_more, unserved_same}
use Rattle.embedded.proofs.carrying.try_once.Goals as goal

pub returns-in-Ok : goal.returns-in-Ok
returns-in-Ok g c =
    served_tried (world g.F.Fleet.state c.args.master.now) (shown_command c.args.command.now) c.in-Ok.place
    (world g.F.Fleet.state c.serve.new.master) c.in-Ok.ensures.served

pub returns-then-has_more : goal.returns-then-has_more
returns-then-has_more g c =
    let more = c.has_more.ensures.more c.if-has_more.true in
    let before = c.count-before.ensures in
    unserved_more c.args.master.now.knows (shown_command c.args.command.now) c.in-Err.refusal
    (world g.F.Fleet.state c.serve.new.master) c.count-before.result c.in-Err.ensures.unserved before
    (omega (arith, more, before))

pub returns-else-has_more : goal.returns-else-has_more
returns-else-has_more g c =
    let no_more = c.has_more.ensures.no_more c.if-has_more.false in
    let before = c.count-before.ensures in
    unserved_same c.args.master.now.knows (shown_command c.args.command.now) c.in-Err.refusal
    (world g.F.Fleet.state c.serve.new.master) c.in-Err.ensures.unserved (omega (arith, no_more, before))
