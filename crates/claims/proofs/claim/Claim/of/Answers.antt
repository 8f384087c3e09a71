use Rattle.std.proofs.Common.{refl}
use Rattle.claims.proofs.claim.Claim.of.Goals as goal

pub returns-in-Tombstone : goal.returns-in-Tombstone
returns-in-Tombstone c = rw (c.in-Tombstone.is, c.of-in-Tombstone.ensures) refl
