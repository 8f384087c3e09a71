use Rattle.store_clients.proofs.of_locked_log.Lasting.{made_at_first}
use Rattle.store_tests.proofs.stores.run_day.Goals as goal

pub day-requires-clause-made : goal.day-requires-clause-made
day-requires-clause-made g c κs within = made_at_first _ _
