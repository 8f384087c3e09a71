use Rattle.std.proofs.Common.{◌≡◌, []}
use Rattle.hash_index.proofs.table.BucketTableTable.presize.Given as goal

abbrev pub invariant-loop : goal.invariant-loop
invariant-loop l = l.self ≡ []
