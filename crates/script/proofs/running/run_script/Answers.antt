use Rattle.script.proofs.Turning.{begins_not}
use Rattle.script.proofs.running.run_script.Goals as goal

pub returns-in_default : goal.returns-in_default
returns-in_default g c = begins_not c.args.is_raw _ _ _ _ _

pub returns : goal.returns
returns g c = c.run_and_flush.ensures c.args.options c.in-Ok.ensures
