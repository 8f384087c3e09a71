use Rattle.std.proofs.Common.{◌≡◌, ◌++◌, map}
use Rattle.claims.specs.Claims.{claimed}
use Rattle.partition_replay.specs.Keeping.{claims_kept}
use Rattle.partition_replay.proofs.keeping.kept_claims.Given as goal

abbrev pub invariant-loop-key : goal.invariant-loop-key
invariant-loop-key l = map claimed l.claims.items ++ claims_kept l.key-iterator ≡ claims_kept l.initial.key-iterator
