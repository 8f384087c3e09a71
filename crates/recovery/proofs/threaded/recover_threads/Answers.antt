use Rattle.recovery.proofs.Recoveries.{rebuilt-prefix, rebuilt-from, refused-plan, refused-replay}
use Rattle.recovery.proofs.threaded.recover_threads.Goals as goal

pub returns-in-Err-clause-refused : goal.returns-in-Err-clause-refused
returns-in-Err-clause-refused g c =
    refused-plan c.args.inventory.now c.args.least c.args.master c.args.will.now c.args.order.now c.in-Err.fault
    c.in-Err.ensures.fault c.in-Err.ensures.loss

pub returns-in-Err-clause-fault : goal.returns-in-Err-clause-fault
returns-in-Err-clause-fault g c = (c.in-Err.ensures.fault, c.in-Err.ensures.loss)

pub returns-in-Ok-rebuild_in_threads-clause-ok : goal.returns-in-Ok-rebuild_in_threads-clause-ok
returns-in-Ok-rebuild_in_threads-clause-ok g c =
    let found = c.in-Ok.ensures.ok in
    rebuilt-prefix c.args.inventory.now c.args.least c.args.master found.0 c.in-Ok.plan
    c.in-Ok-rebuild_in_threads.rebuilt found.1
    c.in-Ok-rebuild_in_threads.ensures.ok

pub returns-in-Ok-rebuild_in_threads-clause-rebuilt : goal.returns-in-Ok-rebuild_in_threads-clause-rebuilt
returns-in-Ok-rebuild_in_threads-clause-rebuilt g c =
    let e = c.in-Ok-rebuild_in_threads.ensures in
    rebuilt-from c.args.inventory.now c.args.least c.args.master c.args.will.now c.args.order.now c.in-Ok.plan
    c.in-Ok-rebuild_in_threads.rebuilt
    c.in-Ok.ensures.ok e.covered e.order e.ok e.turns

pub returns-clause-refused : goal.returns-clause-refused
returns-clause-refused g c =
    let found = c.in-Ok.ensures.ok in
    refused-replay c.args.inventory.now c.args.least c.args.master c.args.will.now c.args.order.now found.0 c.in-Ok.plan
    c.in-Err-rebuild_in_threads.fault found.1 c.in-Err-rebuild_in_threads.ensures.whole

pub returns-clause-fault : goal.returns-clause-fault
returns-clause-fault g c = (c.in-Ok.plan, c.in-Ok.ensures.ok, c.in-Err-rebuild_in_threads.ensures.fault)
