use Rattle.std.proofs.Common.{◌∙◌}
use Rattle.log_head.proofs.Digests.{has_any}
use Rattle.log_head.proofs.leaving.is_victim.Goals as goal

pub returns : goal.returns
returns c = c.contains.ensures.value ∙ has_any c.args.victims.now c.args.id
