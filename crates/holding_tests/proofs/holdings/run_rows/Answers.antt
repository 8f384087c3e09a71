use Rattle.locked_log.proofs.Lasting.{made_at_first}
use Rattle.holding_tests.proofs.holdings.run_rows.Goals as goal

pub count_in-requires-clause-made : goal.count_in-requires-clause-made
count_in-requires-clause-made g c = made_at_first _ _
