use Rattle.std.proofs.Common.{None, length, ap, ◌∙◌, arith}
use Rattle.std.proofs.lemmas.List.{length-replicate}
use Rattle.store_clients.proofs.of_locked_log.Lasting.{made_at_first}
use Rattle.store_tests.proofs.renewals.run_day.Goals as goal

pub day-requires-clause-made : goal.day-requires-clause-made
day-requires-clause-made g c κs within = made_at_first _ _

pub day-requires-clause-room : goal.day-requires-clause-room
day-requires-clause-room g c κs within =
    let cells = ap length c.in-Ok.ensures.cells ∙ length-replicate _ None in omega (arith, cells)
