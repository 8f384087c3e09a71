use Rattle.cleaner.proofs.Lacking.{lacking_is_one, none_is_lacking, seal_adds_one, copy_keeps_replicas}
use Rattle.cleaner.proofs.laws.seals_in_order.Goals as goal

pub returns : goal.returns
returns c = record { first = lacking_is_one; none = none_is_lacking; one = seal_adds_one; copy = copy_keeps_replicas }
