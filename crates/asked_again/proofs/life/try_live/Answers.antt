use Rattle.backup.specs.State.{fleet_state}
use Rattle.store_lines.proofs.of_locked_log.Lasting.{made_at_first}
use Rattle.store_lines.specs.master.World.{world}
use Rattle.asked_again.proofs.life.try_live.Goals as goal

pub live_in-requires-clause-made : goal.live_in-requires-clause-made
live_in-requires-clause-made g c = made_at_first c.in-Ok.blank.seats (world fleet_state c.args.master)
