use Rattle.std.proofs.Common.{arith, ap, length}
use Rattle.rebuild_threads.proofs.threads.fn.lists_of.scope.Goals as goal

pub send_all-requires : goal.send_all-requires
send_all-requires g c =
    let long = c.loop-worker.invariant in
    let same = ap length c.as_slice.ensures.value in
    let some = c.requires.workers in
    let all = c.loop-worker-test.false in
    record { ends = omega (arith, long, same, some, all); parts = c.requires.parts; order = c.requires.order }
