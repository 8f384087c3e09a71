use Rattle.std.proofs.Common.{◌≤◌, arith}
use Rattle.master_core.specs.log_laws.Data.{durable_of}
use Rattle.master_core.specs.master_state.Log.{log_of}
use Rattle.master.proofs.PushedFor.{served_count}
use Rattle.master.proofs.pushing.mend_unless_durable.Goals.{in-Ok, in-Err}
use Rattle.master.proofs.pushing.mend_unless_durable.Goals as goal

pub returns-clause-gives : goal.returns-clause-gives
returns-clause-gives g c =
    let same = served_count c.args.core.now (g.F.Fleet.state c.args.fleet.now) c.args.place c.requires.within
    c.requires.served in
    let now = c.durable.ensures in
    let le = c.if-place-durable.false in
    let awaited : durable_of (log_of c.args.core.now) ≤ c.args.place = omega (arith, same, now, le) in
    elim c.match-push.branch [
      | in-Ok w ↦ rw w.result-is (awaited, _, w.in-Ok.ensures.accepted)
      | in-Err w ↦ rw w.result-is (awaited, w.in-Err.ensures.refused)
    ]
