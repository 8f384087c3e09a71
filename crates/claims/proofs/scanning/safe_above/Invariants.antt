use Rattle.std.proofs.Common.{◌≡◌, max, map, drop}
use Rattle.claims.specs.Claims.{claimed, bound_of_claims}
use Rattle.claims.proofs.scanning.safe_above.Given as goal

abbrev pub invariant-loop-claim : goal.invariant-loop-claim
invariant-loop-claim l =
    max l.greatest (bound_of_claims (map claimed (drop l.claim-index l.claims)))
    ≡ max l.fn.safe (bound_of_claims (map claimed l.claims))
