use Rattle.rebuilding.proofs.Scans.{each_among}
use Rattle.rebuild_threads.proofs.Divided.{CoversRow, covers_all}
use Rattle.rebuild_threads.proofs.threads.send_all.Goals as goal

pub returns-clause-covered : goal.returns-clause-covered
returns-clause-covered g c =
    let qs = g.D.Division.parts in
    let segments = g.D.Division.segments in
    let order = c.args.order.now in
    covers_all qs segments order c.requires.parts c.requires.order
    (each_among (CoversRow qs segments) order c.loop-n.n-index c.loop-n-test.false c.loop-n.invariant)
