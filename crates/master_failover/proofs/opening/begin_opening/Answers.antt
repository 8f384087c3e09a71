use Rattle.std.proofs.Common.{sym, ap, ◌∙◌}
use Rattle.std.specs.Option.{option_map}
use Rattle.master_failover.specs.Mending.{opening}
use Rattle.master_failover.proofs.opening.begin_opening.Goals as goal

pub returns-in-Some : goal.returns-in-Some
returns-in-Some c = sym (ap (option_map opening) c.in-Some.is)

pub returns-in_default : goal.returns-in_default
returns-in_default c = c.in_default.is ∙ sym (ap (option_map opening) c.in_default.is)
