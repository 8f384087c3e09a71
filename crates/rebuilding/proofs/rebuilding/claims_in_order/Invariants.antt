use Rattle.std.proofs.Common.{◌≡◌, map, take}
use Rattle.division.specs.Groups.{grouped}
use Rattle.claims.specs.Claims.{claimed}
use Rattle.rebuilding.proofs.Ordered.{claims_named}
use Rattle.rebuilding.proofs.rebuilding.claims_in_order.Given as goal

abbrev pub invariant-loop-n : goal.invariant-loop-n
invariant-loop-n l =
    map claimed l.claims.items ≡ claims_named (map grouped l.groups) (take l.n-index l.order)
