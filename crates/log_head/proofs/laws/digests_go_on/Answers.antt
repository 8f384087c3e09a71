use Rattle.log_head.proofs.Digests.{ordinary_keeps}
use Rattle.log_head.proofs.RisingIds.{digest_rises, digest_is_few}
use Rattle.log_head.proofs.laws.digests_go_on.Goals as goal

pub returns : goal.returns
returns c = record { ordinary = ordinary_keeps; rises = digest_rises; few = digest_is_few }
